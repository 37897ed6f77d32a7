use Rattle.std.proofs.Common.{sym, arith, rules}
use Rattle.std.proofs.lemmas.Option.{slice_get_within}
use Rattle.block.specs.Blocks.{seen}
use Rattle.block.proofs.Lists.{nth_drop}
use Rattle.store.proofs.Scans.{none_left, fewer_left}
use Rattle.store.proofs.scan.ViewsIterator.next.Goals as goal

pub returns-in_err-view-clause-steps : goal.returns-in_err-view-clause-steps
returns-in_err-view-clause-steps g c = search (rules, none_left)

pub overflow_add-self : goal.overflow_add-self
overflow_add-self g c =
    let self = c.args.self.now in
    omega (arith, g.S.Store.few self.store.now, slice_get_within (g.S.Store.blocks self.store.now) self.place (seen c.in_ok-view.view) (sym c.in_ok-view.ensures))

pub returns-clause-steps : goal.returns-clause-steps
returns-clause-steps g c =
    let self = c.args.self.now in
    nth_drop (g.S.Store.blocks self.store.now) self.place (seen c.in_ok-view.view) (sym c.in_ok-view.ensures)

pub returns-clause-goes : goal.returns-clause-goes
returns-clause-goes g c =
    let self = c.args.self.now in
    let fewer = fewer_left (g.S.Store.blocks self.store.now) self.place (seen c.in_ok-view.view) c.in_ok-view.ensures in
    record { on = λ finite. (tt, tt, fewer); keeps = tt; rests = λ finite. tt }
