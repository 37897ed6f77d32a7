-- Numbers that ascend, step by step and at any two places; the first place of a number. Assumes nothing.
use Rattle.std.proofs.Common.{Ordering, Equal, ◌≡◌, ℕ, zero, suc, ◌+◌, ◌<◌, ◌≤◌, Bool, true, false, cond, ◌&&◌, ltb, List, [], ◌∷◌, map, length, get_or, Some, None, Option, Ok, Err, Result, sym, refl, ap, ◌∙◌, ⊎_elim, arith}
use Rattle.std.proofs.Math.Bool.{and-false}
use native.Mathlib.Numerals.{unary_clauses}
use Rattle.std.specs.List.{AllAdjacentBelow, AllWithin, HoldsAt, IsAllAdjacentAnswer}
use Rattle.std.specs.List.Sorted.{IsBinarySearchResult, IsNonDecreasingBy, IsSearchInRange}
use Rattle.std.specs.Option.{MatchOption, option_map}
use Rattle.std.specs.Ordering.{nat_cmp, ordering_index}
use Rattle.std.specs.Result.{result_ok}
use Rattle.std.proofs.lemmas.List.{get_or-map, length-map}
use Rattle.std.proofs.lemmas.Map.Lookups.{exact_unsigned}
use Rattle.std.proofs.lemmas.Bool.{and_parts, and_from, ltb-true, eq-eqb, ne_eqb, cases_lt, cases_order}
use Rattle.std.proofs.lemmas.Bool.Decides.{nat_tests}
use Rattle.rows.specs.declared.row.Row.{Row}
use Rattle.rows.specs.Rows.{ascends, place_in, row_idn}
use Rattle.rows.proofs.Laid.{row_at, blank_row}

-- the IDN of the row at a place
pub idn_at : (rs : List Row) (i : ℕ) → i < length rs → get_or (map row_idn rs) i 0 ≡ row_idn (row_at rs i)
idn_at rs i h = get_or-map row_idn rs i blank_row 0 h

-- of two places the later has the larger number
pub ascends_at : (xs : List ℕ) (j k : ℕ) → ascends xs ≡ true → j < k → k < length xs → get_or xs j 0 < get_or xs k 0
ascends_at [] j k up lt in' = absurd (omega arith)
ascends_at (x ∷ []) j k up lt in' = absurd (omega arith)
ascends_at (x ∷ (y ∷ ys)) j zero up lt in' = absurd (omega arith)
ascends_at (x ∷ (y ∷ ys)) zero (suc zero) up lt in' = ltb-true x y (and_parts (ltb x y) (ascends (y ∷ ys)) up).0
ascends_at (x ∷ (y ∷ ys)) zero (suc (suc k)) up lt in' =
    let parts = and_parts (ltb x y) (ascends (y ∷ ys)) up in
    let first = ltb-true x y parts.0 in
    let later = ascends_at (y ∷ ys) zero (suc k) parts.1 (omega arith) (omega arith) in
    omega (arith, first, later)
ascends_at (x ∷ (y ∷ ys)) (suc j) (suc k) up lt in' =
    ascends_at (y ∷ ys) j k (and_parts (ltb x y) (ascends (y ∷ ys)) up).1 (omega arith) (omega arith)

-- a number that stands at a place and at none before it has that first place
pub place_found : (xs : List ℕ) (i n : ℕ) → i < length xs → get_or xs i 0 ≡ n → ((k : ℕ) → k < i → get_or xs k 0 ≡ n → ⊥)
    → place_in xs n ≡ Some i
place_found [] i n in' here none = absurd (omega arith)
place_found (x ∷ xs) zero n in' here none =
    ap (λ t. cond t (Some 0) (option_map suc (place_in xs n))) (eq-eqb x n here)
place_found (x ∷ xs) (suc i) n in' here none =
    ap (λ t. cond t (Some 0) (option_map suc (place_in xs n))) (ne_eqb x n (none 0 (omega arith)))
    ∙ ap (option_map suc) (place_found xs i n (omega arith) here (λ k h. none (suc k) (omega arith)))

-- a number that stands nowhere has no place
pub place_none : (xs : List ℕ) (n : ℕ) → ((k : ℕ) → k < length xs → get_or xs k 0 ≡ n → ⊥) → place_in xs n ≡ None
place_none [] n none = refl
place_none (x ∷ xs) n none =
    ap (λ t. cond t (Some 0) (option_map suc (place_in xs n))) (ne_eqb x n (none 0 (omega arith)))
    ∙ ap (option_map suc) (place_none xs n (λ k h. none (suc k) (omega arith)))

-- what a search from the front tells is the first place of an IDN
pub first_place : (rs : List Row) (n : ℕ) (o : Option ℕ)
    → MatchOption o (AllWithin (λ r. row_idn r ≡ n → ⊥) rs 0 (length rs)) (λ i. (i < length rs) × HoldsAt (λ r. row_idn r ≡ n) rs i × AllWithin (λ r. row_idn r ≡ n → ⊥) rs 0 i)
    → o ≡ place_in (map row_idn rs) n
first_place rs n None none =
    let e : length (map row_idn rs) ≡ length rs = length-map rs row_idn in
    sym (place_none (map row_idn rs) n (λ k h is. none k blank_row (omega arith) (omega arith) (sym (idn_at rs k (omega arith)) ∙ is)))
first_place rs n (Some i) found =
    let e : length (map row_idn rs) ≡ length rs = length-map rs row_idn in
    sym (place_found (map row_idn rs) i n (omega (arith, found.0)) (idn_at rs i found.0 ∙ found.1 blank_row) (λ k h is. found.2 k blank_row (omega arith) h (sym (idn_at rs k (omega (arith, found.0))) ∙ is)))

-- of two rows that ascend the later has the larger IDN
rows_at : (rs : List Row) (j k : ℕ) (d : Row) → ascends (map row_idn rs) ≡ true → j < k → k < length rs
    → row_idn (get_or rs j d) < row_idn (get_or rs k d)
rows_at rs j k d up lt in' =
    let e : length (map row_idn rs) ≡ length rs = length-map rs row_idn in
    omega (arith, ascends_at (map row_idn rs) j k up lt (omega arith), get_or-map row_idn rs j d 0 (omega arith), get_or-map row_idn rs k d 0 in')

index_rises : (a b n : ℕ) → a ≤ b → ordering_index (nat_cmp a n) ≤ ordering_index (nat_cmp b n)
index_rises a b n le = grind (arith, nat_tests)

same_number : (a n : ℕ) → a ≡ n → nat_cmp a n ≡ Equal
same_number a n e = grind (arith, nat_tests)

-- and so the answers of a binary search rise
answers_rise : (ord : Row → Ordering) (rs : List Row) (n : ℕ) → ((r : Row) → ord r ≡ nat_cmp (row_idn r) n)
    → ascends (map row_idn rs) ≡ true → IsNonDecreasingBy (λ r. ordering_index (ord r)) rs
answers_rise ord rs n is up i j d le in' =
    rw (is (get_or rs i d), is (get_or rs j d)) (index_rises _ _ n (⊎_elim
    (λ same. rw same (omega arith))
    (⊎_elim
    (λ before. omega (arith, rows_at rs i j d up before in'))
    (λ behind. absurd (omega arith)))
    (cases_order i j)))

-- what a binary search in rows that ascend tells is the first place of an IDN
pub searched_place : (ord : Row → Ordering) (rs : List Row) (n : ℕ) (r : Result ℕ ℕ) → ((r : Row) → ord r ≡ nat_cmp (row_idn r) n)
    → ascends (map row_idn rs) ≡ true → IsSearchInRange r (length rs) → IsBinarySearchResult ord rs r
    → result_ok r ≡ place_in (map row_idn rs) n
searched_place ord rs n (Ok i) is up in' found =
    let here : (d : Row) → row_idn (get_or rs i d) ≡ n = λ d. exact_unsigned _ _ (sym (is (get_or rs i d)) ∙ found d) in
    first_place rs n (Some i) (in', here, λ k d from before same. omega (arith, rows_at rs k i d up before in', here d))
searched_place ord rs n (Err i) is up in' found =
    let parts = found (answers_rise ord rs n is up) in
    first_place rs n None (λ k d from last same.
    let equal = is (get_or rs k d) ∙ same_number _ n same in
    ⊎_elim (λ before. let less = parts.0 k d from before in cc) (λ behind. let greater = parts.1 k d behind last in cc) (cases_lt k i))

pairs_up : (rs : List Row) → AllAdjacentBelow (λ x y. true ≡ ltb (row_idn x) (row_idn y)) rs (length rs) → ascends (map row_idn rs) ≡ true
pairs_up [] all = refl
pairs_up (r ∷ []) all = refl
pairs_up (r ∷ (s ∷ rs)) all = and_from _ _ (sym (all 0 r (omega arith))) (pairs_up (s ∷ rs) (λ k d h. simp unary_clauses (simp unary_clauses at (all (suc k) d (omega arith)))))

pair_down : (rs : List Row) (k : ℕ) → k + 1 < length rs → ((d : Row) → false ≡ ltb (row_idn (get_or rs k d)) (row_idn (get_or rs (k + 1) d)))
    → ascends (map row_idn rs) ≡ false
pair_down [] k h one = absurd (omega arith)
pair_down (r ∷ []) k h one = absurd (omega arith)
pair_down (r ∷ (s ∷ rs)) zero h one = ap (λ b. b && ascends (map row_idn (s ∷ rs))) (sym (one r))
pair_down (r ∷ (s ∷ rs)) (suc k) h one = ap (λ b. ltb (row_idn r) (row_idn s) && b) (pair_down (s ∷ rs) k (omega arith) (λ d. simp unary_clauses (simp unary_clauses at (one d)))) ∙ and-false _

-- the next of two rows is larger at every place, or at one place it is not
pub pairs_ascend : (rs : List Row) (b : Bool) → IsAllAdjacentAnswer (λ x y t. t ≡ ltb (row_idn x) (row_idn y)) rs b → b ≡ ascends (map row_idn rs)
pairs_ascend rs true all = sym (pairs_up rs all)
pairs_ascend rs false one = sym (pair_down rs one.0 one.1 one.2)
