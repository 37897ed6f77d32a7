use Rattle.std.proofs.Common.{◌≡◌, true, length, sym, ap, ◌∙◌}
use Rattle.std.specs.List.{slice_get}
use Rattle.block.specs.Lists.{may_replace}
use Rattle.rows.specs.Rows.{start_at}
use Rattle.table.specs.Tables.{plan_rows, table_shown, TableRest}
use Rattle.table.proofs.Making.{start_same, shown_written, shown_spare}
use Rattle.table.proofs.table.TableStore.replace.Goals as goal

may : (c : goal.After-resize) → may_replace (slice_get (table_shown c.args.self.now) c.args.place) (length c.args.bytes.now) ≡ true
may c = ap (λ bs. may_replace (slice_get bs c.args.place) (length c.args.bytes.now)) (sym c.sheet.ensures.blocks) ∙ c.in-Some.ensures.0

start : (c : goal.After-resize) → c.in-Some.room.start ≡ start_at (plan_rows c.args.self.now.plan.now) c.args.place
start c =
    let t = c.args.self.now in
    c.in-Some.ensures.1 ∙ start_same t.fits t.plan.now c.sheet.result.plan.rows.now t.states.now t.bytes.now c.args.place (length c.args.bytes.now) c.sheet.ensures.rows (may c)

pub returns-clause-after : goal.returns-clause-after
returns-clause-after c =
    let t = c.args.self.now in
    shown_written t.fits t.plan.now t.states.now c.resize.new.states t.bytes.now c.write.new.area c.args.bytes.now c.args.place c.in-Some.room.start c.in-Some.room.length c.resize.ensures c.write.ensures (start c) c.in-Some.ensures.2 (may c)

pub returns-clause-rest : goal.returns-clause-rest
returns-clause-rest c =
    let t = c.args.self.now in
    ap (λ l. let r : TableRest = record { plan = t.plan.now; states = t.states.ghost_name; bytes = t.bytes.ghost_name; spare = l } in r)
    (shown_spare t.fits t.plan.now t.states.now t.bytes.now c.write.new.area c.args.bytes.now c.args.place c.in-Some.room.start c.write.ensures (start c) (may c))
