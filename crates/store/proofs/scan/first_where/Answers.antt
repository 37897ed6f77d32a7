use Rattle.std.proofs.Common.{rules, tests}
use Rattle.std.proofs.lemmas.Iterator.Consumers.{YieldsList-from_first}
use Rattle.std.proofs.lemmas.Iterator.Search.{find_from_yields_List}
use Rattle.block.specs.Blocks.{seen}
use Rattle.store.specs.Scans.{to_come}
use Rattle.store.proofs.scan.first_where.Goals as goal

pub returns : goal.returns
returns g c = λ p told.
    find_from_yields_List p c.find.new.self _ c.find.result c.find.ensures.ran
    (YieldsList-from_first seen (to_come g.S.Store.blocks) (g.S.Store.blocks c.args.store.now) c.of.ensures) (λ x b q k. search (rules, tests, told))
