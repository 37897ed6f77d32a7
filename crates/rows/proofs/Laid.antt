-- Rows one by one: what is left of them decides whether they are well laid. Assumes nothing.
use Rattle.std.proofs.Common.{◌≡◌, ℕ, ◌≤◌, true, List, [], get_or, None, arith}
use Rattle.std.proofs.lemmas.Bool.{and_parts}
use Rattle.std.proofs.lemmas.Bool.Decides.{nat_tests}
use Rattle.block.specs.declared.keeper.Keeper.TheVariants.{Master}
use Rattle.block.specs.Blocks.{maximum_fits}
use Rattle.rows.specs.declared.row.Row.{Row}
use Rattle.rows.specs.Rows.{area_of, row_kept}

-- what a read past the end would give
abbrev pub blank_row : Row
blank_row = record { idn = record { 0 = 0 }; keeper = Master; name = record { ref_ptr = (0, 0); now = [] }; attribute = record { 0 = 0 }; unit = record { ref_ptr = (0, 0); now = [] }; limits = None; most = 0; start = 0 }

abbrev pub row_at : List Row → ℕ → Row
row_at rs i = get_or rs i blank_row

-- a row that keeps the rules has a small area
pub area_small : (r : Row) → row_kept r ≡ true → area_of r ≤ 1020
area_small r kept =
    let fits : maximum_fits r.attribute.0 r.most ≡ true = (and_parts _ _ kept).0 in grind (arith, nat_tests)
