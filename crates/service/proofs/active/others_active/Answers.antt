use Rattle.std.proofs.Common.{◌∙◌, rules, tests}
use Rattle.std.proofs.lemmas.Iterator.Consumers.{YieldsList-from_enumerate, YieldsList-from_first}
use Rattle.std.proofs.lemmas.Iterator.Search.{any_from_yields_List}
use Rattle.block.specs.Blocks.{seen}
use Rattle.store.specs.Scans.{to_come}
use Rattle.service.proofs.Others.{is_other, any_other}
use Rattle.service.proofs.active.others_active.Goals as goal

pub returns : goal.returns
returns g c =
    let bs = g.S.Store.blocks c.args.store.now in
    any_from_yields_List (is_other c.args.place) c.any.new.self _ c.any.result c.any.ensures.ran
    (YieldsList-from_enumerate (YieldsList-from_first seen (to_come g.S.Store.blocks) bs (search rules)) (search rules)) (λ x b q k. search (rules, tests))
    ∙ any_other c.args.place 0 bs
