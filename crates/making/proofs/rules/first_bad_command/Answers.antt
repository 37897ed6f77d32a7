use Rattle.std.proofs.Common.{rules}
use Rattle.making.specs.Rules.{command_fits}
use Rattle.making.proofs.rules.first_bad_command.Goals as goal

pub returns : goal.returns
returns g c = c.first_failing.ensures command_fits (λ v r gave. search rules)
