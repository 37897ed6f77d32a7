use Rattle.std.proofs.Common.{sym, refl, ap, ◌∙◌, arith}
use Rattle.std.proofs.lemmas.Bool.{and_from}
use Rattle.std.proofs.lemmas.Bool.Decides.{nat_tests}
use Rattle.block.specs.Lists.{may_replace}
use Rattle.rows.proofs.Sheets.{sheet_past, sheet_room}
use Rattle.rows.proofs.sheet.Sheet.room_for.Goals as goal
use Rattle.rows.proofs.sheet.Sheet.room_for.Goals.{then-not-may_change-via-then-not-may_change, then-not-may_change-via-else-not-may_change+then-not-fits}

pub returns-in_err-row : goal.returns-in_err-row
returns-in_err-row c =
    rw c.from_residual.ensures (ap (λ b. may_replace b c.args.length) (sheet_past c.args.self.now c.args.place c.in_err-row.ensures.lookup.3))

pub returns-then-not-may_change : goal.returns-then-not-may_change
returns-then-not-may_change c =
    let row = c.in_ok-row.ensures.lookup.3 in
    (sheet_room c.args.self.now c.args.place c.args.length c.in_ok-row.row.now row.0 (row.1 _)).0
    ∙ elim c.then-not-may_change.branch [ then-not-may_change-via-then-not-may_change w ↦ grind (arith, nat_tests) | then-not-may_change-via-else-not-may_change+then-not-fits w ↦ grind (arith, nat_tests) ]

pub returns : goal.returns
returns c =
    let row = c.in_ok-row.ensures.lookup.3 in
    let room = sheet_room c.args.self.now c.args.place c.args.length c.in_ok-row.row.now row.0 (row.1 _) in
    (room.0 ∙ and_from _ _ (sym c.if-not-may_change.ensures) (sym c.if-not-fits.ensures), room.1, refl)
