use Rattle.std.proofs.Common.{sym, ap, ◌∙◌}
use Rattle.std.specs.List.{slice_get}
use Rattle.block.specs.Lists.{may_mark}
use Rattle.table.proofs.Making.{shown_marked}
use Rattle.table.proofs.table.TableStore.set_status.Goals as goal

pub returns-clause-after : goal.returns-clause-after
returns-clause-after c =
    let t = c.args.self.now in
    let may = ap (λ bs. may_mark (slice_get bs c.args.place)) (sym c.sheet.ensures.blocks) ∙ sym c.if-not-may_mark.ensures in
    shown_marked t.fits t.plan.now t.states.now c.mark.new.states t.bytes.now c.args.place c.args.status c.mark.ensures may
