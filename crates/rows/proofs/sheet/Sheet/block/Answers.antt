use Rattle.std.proofs.Common.{Some, sym, ap, ◌∙◌}
use Rattle.std.specs.Option.{option_map}
use Rattle.block.specs.Blocks.{Block, seen}
use Rattle.rows.proofs.Sheets.{sheet_past, sheet_view}
use Rattle.rows.proofs.sheet.Sheet.block.Goals as goal

pub returns-in_err-row : goal.returns-in_err-row
returns-in_err-row c = ap (option_map seen) c.from_residual.ensures ∙ sym (sheet_past c.args.self.now c.args.place c.in_err-row.ensures.lookup.3)

pub view-requires : goal.view-requires
view-requires c =
    let row = c.in_ok-row.ensures.lookup.3 in
    (sheet_view c.args.self.now c.args.place c.in_ok-row.row.now c.in_ok-state.state.now row.0 (row.1 _) (c.in_ok-state.ensures.lookup.3.1 _)).0

pub returns : goal.returns
returns c =
    let row = c.in_ok-row.ensures.lookup.3 in
    ap (λ (b : Block). Some b) c.view.ensures
    ∙ sym (sheet_view c.args.self.now c.args.place c.in_ok-row.row.now c.in_ok-state.state.now row.0 (row.1 _) (c.in_ok-state.ensures.lookup.3.1 _)).1
