use Rattle.std.proofs.Common.{not, rules, tests}
use Rattle.std.proofs.lemmas.Iterator.{YieldsList-from_slice}
use Rattle.std.proofs.lemmas.Iterator.Search.{find_from_yields_List}
use Rattle.making.specs.Met.{demand_met}
use Rattle.making.proofs.Scans.{unfit_found}
use Rattle.making.proofs.met.first_unmet.Goals as goal

pub returns : goal.returns
returns g c =
    let blocks = g.S.Store.blocks c.args.store.now in
    let demands = c.args.demands.now in
    unfit_found (λ d. d.idn) (demand_met blocks) (λ d. d.now) demands c.find.result c.map.result
    (find_from_yields_List (λ d. not (demand_met blocks d)) _ _ c.find.result c.find.ensures.ran (YieldsList-from_slice demands c.iter.ensures.rest) (λ x b q k. search (rules, tests))) (search rules)
