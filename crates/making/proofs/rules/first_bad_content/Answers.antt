use Rattle.std.proofs.Common.{rules}
use Rattle.making.specs.Rules.{content_fits}
use Rattle.making.proofs.rules.first_bad_content.Goals as goal

pub returns : goal.returns
returns g c = c.first_failing.ensures (content_fits (g.S.Store.blocks c.args.store.now)) (λ v r gave. search rules)
