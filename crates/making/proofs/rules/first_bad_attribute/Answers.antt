use Rattle.std.proofs.Common.{rules}
use Rattle.making.specs.Rules.{attribute_fits}
use Rattle.making.proofs.rules.first_bad_attribute.Goals as goal

pub returns : goal.returns
returns g c = c.first_failing.ensures attribute_fits (λ v r gave. search rules)
