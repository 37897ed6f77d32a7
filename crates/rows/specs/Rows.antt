-- The rows of a table or a catalogue: the parts of each block that never change, and where its data lie. Assumes nothing.
use Rattle.std.specs.Prelude.{ℕ, zero, suc, ◌+◌, Bool, true, cond, ◌&&◌, List, [], ◌∷◌, length, Some, None, Option, ◌==◌, nat_le, nat_lt}
use Rattle.std.specs.Option.{option_map}
use Rattle.block.specs.Attributes.{length_code, known_code, is_list, item_size}
use Rattle.block.specs.Blocks.{form_kept}
use Rattle.block.specs.Lists.{most_blocks}
use Rattle.rows.specs.declared.row.Row.{Row}

-- the IDN of a row
abbrev pub row_idn : Row → ℕ
row_idn r = r.idn.0

-- a row keeps the block rules
abbrev pub row_kept : Row → Bool
row_kept r = form_kept r.attribute.0 r.name.now r.unit.now r.limits r.most

-- the bytes of a row's data area: a list's maximum, or the fixed length
abbrev pub area_of : Row → ℕ
area_of r =
    cond (known_code (length_code r.attribute.0))
    (cond (is_list (length_code r.attribute.0)) r.most (item_size (length_code r.attribute.0))) 0

-- every row keeps the block rules, and the areas lie one after another from byte `from` on
abbrev pub laid_from : ℕ → List Row → Bool
laid_from from [] = true
laid_from from (r ∷ rs) = r.start == from && (row_kept r && laid_from (from + area_of r) rs)

-- the bytes of all areas together
abbrev pub size_of : List Row → ℕ
size_of [] = 0
size_of (r ∷ rs) = area_of r + size_of rs

-- rows that a store can show: not too many, and well laid from byte 0
abbrev pub laid_out : List Row → Bool
laid_out rs = nat_le (length rs) most_blocks && laid_from 0 rs

-- the rows that a plan holds: those given, or none where they break the rules
abbrev pub planned : List Row → List Row
planned rs = cond (laid_out rs) rs []

-- the first byte of the area at a place
abbrev pub start_at : List Row → ℕ → ℕ
start_at [] place = 0
start_at (r ∷ rs) zero = r.start
start_at (r ∷ rs) (suc place) = start_at rs place

-- each number is above the one before it
abbrev pub ascends : List ℕ → Bool
ascends [] = true
ascends (x ∷ []) = true
ascends (x ∷ (y ∷ ys)) = nat_lt x y && ascends (y ∷ ys)

-- the first place of a number
abbrev pub place_in : List ℕ → ℕ → Option ℕ
place_in [] n = None
place_in (x ∷ xs) n = cond (x == n) (Some 0) (option_map suc (place_in xs n))
