use Rattle.std.proofs.Common.{not, rules}
use Rattle.block.specs.Blocks.{seen}
use Rattle.making.specs.Rules.{idn_of}
use Rattle.making.proofs.Scans.{unfit_found}
use Rattle.making.proofs.rules.first_failing.Goals as goal

pub returns : goal.returns
returns g c = λ p told.
    unfit_found idn_of p seen (g.S.Store.blocks c.args.store.now) c.first_where.result c.map.result
    (c.first_where.ensures (λ b. not (p b)) (λ v r gave. search (rules, told))) (search rules)
