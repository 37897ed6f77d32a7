-- A part of a byte area after a write elsewhere, and at the very place. Assumes nothing.
use Rattle.std.proofs.Common.{◌≡◌, ℕ, ◌+◌, ◌≤◌, List, length, take, drop, arith, rules}
use lib.Seq.{paste}
use Rattle.std.proofs.lemmas.List.{same_lists, places}

-- before the place
pub part_before : (d s : List ℕ) (at n from k : ℕ) → from + k ≤ at → at + n ≤ length d → n ≡ length s
    → take k (drop from (paste d at s n)) ≡ take k (drop from d)
part_before d s at n from k h in' e = same_lists _ _ (search (rules, places)) (λ j z l. grind (arith, places))

-- behind the place
pub part_behind : (d s : List ℕ) (at n from : ℕ) → at + n ≤ from → at + n ≤ length d → n ≡ length s
    → drop from (paste d at s n) ≡ drop from d
part_behind d s at n from h in' e = same_lists _ _ (search (rules, places)) (λ j z l. grind (arith, places))

-- at the place
pub part_at : (d s : List ℕ) (at n : ℕ) → at + n ≤ length d → n ≡ length s → take n (drop at (paste d at s n)) ≡ s
part_at d s at n in' e = same_lists _ _ (search (rules, places)) (λ j z l. grind (arith, places))
