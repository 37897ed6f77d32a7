-- The blocks that rows, states and bytes show: place by place, in bounds, and after a change. Assumes nothing.
use Rattle.std.proofs.Common.{◌≡◌, ℕ, zero, suc, ◌+◌, ◌<◌, ◌≤◌, true, cond, ◌&&◌, eqb, leb, List, [], ◌∷◌, map, length, get_or, take, drop, set, Some, None, Option, sym, refl, ap, ◌∙◌, ⊎_elim, arith, length-drop, length-take}
use lib.Seq.{paste}
use Rattle.std.specs.List.{slice_get}
use Rattle.std.specs.Option.{option_map}
use Rattle.std.proofs.lemmas.List.Edits.{length-paste}
use Rattle.std.proofs.lemmas.Option.{slice_get_past}
use Rattle.std.proofs.lemmas.Bool.{and_parts, and_from, eqb-true, cond_both, cond-true, leb-true, le-leb, false≢true, cases_lt, cases_Bool}
use Rattle.std.proofs.lemmas.Bool.Decides.{nat_tests}
use Rattle.block.specs.Attributes.{length_code}
use Rattle.block.specs.Blocks.{Block, is_kept, length_fits, maximum_fits, block_kept}
use Rattle.block.specs.Lists.{place_of, all_kept, changed, with_content, with_status, may_replace, may_mark, most_blocks}
use Rattle.rows.specs.declared.row.Row.{Row}
use Rattle.rows.specs.declared.row.State.{State}
use Rattle.rows.specs.Rows.{row_idn, row_kept, area_of, laid_from, size_of, start_at, place_in}
use Rattle.rows.specs.Shown.{shortest, shown_length, block_of, blocks_of, states_fit, is_matched, matched_blocks, marked, resized, written}
use Rattle.rows.proofs.Laid.{row_at, area_small}
use Rattle.rows.proofs.Slices.{part_before, part_behind, part_at}

abbrev pub state_at : List State → ℕ → State
state_at ss i = get_or ss i (record { status = 0; length = 0 })

pub length-blocks : (rs : List Row) (ss : List State) (bytes : List ℕ) → length ss ≡ length rs
    → length (blocks_of rs ss bytes) ≡ length rs
length-blocks [] ss bytes e = refl
length-blocks (r ∷ rs) [] bytes e = absurd (omega arith)
length-blocks (r ∷ rs) (s ∷ ss) bytes e = ap suc (length-blocks rs ss bytes (omega arith))

-- the block at a place
pub nth_blocks : (rs : List Row) (ss : List State) (bytes : List ℕ) (i : ℕ) → length ss ≡ length rs → i < length rs
    → slice_get (blocks_of rs ss bytes) i ≡ Some (block_of (row_at rs i) (state_at ss i) bytes)
nth_blocks [] ss bytes i e h = absurd (omega arith)
nth_blocks (r ∷ rs) [] bytes i e h = absurd (omega arith)
nth_blocks (r ∷ rs) (s ∷ ss) bytes zero e h = refl
nth_blocks (r ∷ rs) (s ∷ ss) bytes (suc i) e h = nth_blocks rs ss bytes i (omega arith) (omega arith)

-- the first place of an IDN is that of its row
pub place-blocks : (rs : List Row) (ss : List State) (bytes : List ℕ) (n : ℕ) → length ss ≡ length rs
    → place_of (blocks_of rs ss bytes) n ≡ place_in (map row_idn rs) n
place-blocks [] ss bytes n e = refl
place-blocks (r ∷ rs) [] bytes n e = absurd (omega arith)
place-blocks (r ∷ rs) (s ∷ ss) bytes n e =
    ap (λ o. cond (eqb (row_idn r) n) (Some 0) (option_map suc o)) (place-blocks rs ss bytes n (omega arith))

-- what well laid rows begin with
pub laid_start : (r : Row) (rs : List Row) (from : ℕ) → laid_from from (r ∷ rs) ≡ true → r.start ≡ from
laid_start r rs from h = eqb-true r.start from (and_parts _ _ h).0

pub laid_kept : (r : Row) (rs : List Row) (from : ℕ) → laid_from from (r ∷ rs) ≡ true → row_kept r ≡ true
laid_kept r rs from h = (and_parts _ _ (and_parts (eqb r.start from) _ h).1).0

pub laid_rest : (r : Row) (rs : List Row) (from : ℕ) → laid_from from (r ∷ rs) ≡ true
    → laid_from (from + area_of r) rs ≡ true
laid_rest r rs from h = (and_parts (row_kept r) _ (and_parts (eqb r.start from) _ h).1).1

-- every row keeps the rules, and its area lies between the first and the last byte
pub row_within : (rs : List Row) (from i : ℕ) → laid_from from rs ≡ true → i < length rs
    → (row_kept (row_at rs i) ≡ true) × (from ≤ (row_at rs i).start) × ((row_at rs i).start + area_of (row_at rs i) ≤ from + size_of rs)
row_within [] from i laid h = absurd (omega arith)
row_within (r ∷ rs) from zero laid h =
    let s = laid_start r rs from laid in (laid_kept r rs from laid, omega arith, omega arith)
row_within (r ∷ rs) from (suc i) laid h =
    let rest = row_within rs (from + area_of r) i (laid_rest r rs from laid) (omega arith) in
    (rest.0, omega (arith, rest.1), omega (arith, rest.2))

-- a length that fits lies within the area
pub fits_area : (r : Row) (n : ℕ) → length_fits r.attribute.0 r.most n ≡ true → n ≤ area_of r
fits_area r n h = grind (arith, nat_tests)

pub shown_fits : (r : Row) (s : State) → row_kept r ≡ true → length_fits r.attribute.0 r.most (shown_length r s) ≡ true
shown_fits r s kept =
    let fits : maximum_fits r.attribute.0 r.most ≡ true = (and_parts _ _ kept).0 in
    grind (arith, nat_tests)

pub shown_area : (r : Row) (s : State) → row_kept r ≡ true → shown_length r s ≤ area_of r
shown_area r s kept = fits_area r (shown_length r s) (shown_fits r s kept)

-- a block that is shown keeps the block rules
pub block_kept_lem : (r : Row) (s : State) (bytes : List ℕ) → row_kept r ≡ true → r.start + area_of r ≤ length bytes
    → block_kept (block_of r s bytes) ≡ true
block_kept_lem r s bytes kept in' =
    let small = shown_area r s kept in
    let e : length (take (shown_length r s) (drop r.start bytes)) ≡ shown_length r s =
    simp (length-take, length-drop) (omega arith) in
    and_from (row_kept r) _ kept (ap (length_fits r.attribute.0 r.most) e ∙ shown_fits r s kept)

pub blocks_kept : (rs : List Row) (ss : List State) (bytes : List ℕ) (from : ℕ) → laid_from from rs ≡ true
    → from + size_of rs ≤ length bytes → all_kept (blocks_of rs ss bytes) ≡ true
blocks_kept [] ss bytes from laid in' = refl
blocks_kept (r ∷ rs) [] bytes from laid in' = refl
blocks_kept (r ∷ rs) (s ∷ ss) bytes from laid in' =
    let start = laid_start r rs from laid in
    and_from (block_kept (block_of r s bytes)) (all_kept (blocks_of rs ss bytes))
    (block_kept_lem r s bytes (laid_kept r rs from laid) (omega arith))
    (blocks_kept rs ss bytes (from + area_of r) (laid_rest r rs from laid) (omega arith))

-- another status at one place
blocks_marked : (rs : List Row) (ss : List State) (bytes : List ℕ) (i word : ℕ) → length ss ≡ length rs
    → blocks_of rs (marked ss i word) bytes ≡ changed (blocks_of rs ss bytes) i (with_status word)
blocks_marked [] ss bytes i word e = refl
blocks_marked (r ∷ rs) [] bytes i word e = refl
blocks_marked (r ∷ rs) (s ∷ ss) bytes zero word e = refl
blocks_marked (r ∷ rs) (s ∷ ss) bytes (suc i) word e =
    ap (λ l. block_of r s bytes ∷ l) (blocks_marked rs ss bytes i word (omega arith))

-- a write before the areas of these rows
blocks_behind : (rs : List Row) (ss : List State) (d src : List ℕ) (from at n : ℕ) → laid_from from rs ≡ true
    → at + n ≤ from → at + n ≤ length d → n ≡ length src → blocks_of rs ss (paste d at src n) ≡ blocks_of rs ss d
blocks_behind [] ss d src from at n laid h in' e = refl
blocks_behind (r ∷ rs) [] d src from at n laid h in' e = refl
blocks_behind (r ∷ rs) (s ∷ ss) d src from at n laid h in' e =
    let start = laid_start r rs from laid in
    let here = part_behind d src at n r.start (omega arith) in' e in
    let rest = blocks_behind rs ss d src (from + area_of r) at n (laid_rest r rs from laid) (omega arith) in' e in
    ap (λ c. with_content (take (shown_length r s) c) (block_of r s d) ∷ blocks_of rs ss (paste d at src n)) here
    ∙ ap (λ l. block_of r s d ∷ l) rest

-- other data at one place
pub blocks_content : (rs : List Row) (ss : List State) (d src : List ℕ) (from i n : ℕ) → laid_from from rs ≡ true
    → from + size_of rs ≤ length d → length ss ≡ length rs → i < length rs → n ≡ length src
    → length_fits (row_at rs i).attribute.0 (row_at rs i).most n ≡ true
    → blocks_of rs (resized ss i n) (paste d (row_at rs i).start src n)
    ≡ changed (blocks_of rs ss d) i (with_content src)
blocks_content [] ss d src from i n laid in' e h len fits = absurd (omega arith)
blocks_content (r ∷ rs) [] d src from i n laid in' e h len fits = absurd (omega arith)
blocks_content (r ∷ rs) (s ∷ ss) d src from zero n laid in' e h len fits =
    let start = laid_start r rs from laid in
    let small = fits_area r n fits in
    let shown : shown_length r (record { status = s.status; length = n }) ≡ n = ap (λ t. cond t n (shortest (length_code r.attribute.0))) fits in
    let here : take (shown_length r (record { status = s.status; length = n })) (drop r.start (paste d r.start src n)) ≡ src =
    ap (λ k. take k (drop r.start (paste d r.start src n))) shown ∙ part_at d src r.start n (omega arith) len in
    let rest = blocks_behind rs ss d src (from + area_of r) r.start n (laid_rest r rs from laid) (omega arith) (omega arith) len in
    ap (λ c. with_content c (block_of r s d) ∷ blocks_of rs ss (paste d r.start src n)) here
    ∙ ap (λ l. with_content src (block_of r s d) ∷ l) rest
blocks_content (r ∷ rs) (s ∷ ss) d src from (suc i) n laid in' e h len fits =
    let start = laid_start r rs from laid in
    let within = row_within rs (from + area_of r) i (laid_rest r rs from laid) (omega arith) in
    let small = shown_area r s (laid_kept r rs from laid) in
    let size = fits_area (row_at rs i) n fits in
    let here = part_before d src (row_at rs i).start n r.start (shown_length r s) (omega (arith, within.1)) (omega (arith, within.2)) len in
    let rest = blocks_content rs ss d src (from + area_of r) i n (laid_rest r rs from laid) (omega arith) (omega arith) (omega arith) len fits in
    ap (λ c. with_content c (block_of r s d) ∷ blocks_of rs (resized ss i n) (paste d (row_at rs i).start src n)) here
    ∙ ap (λ l. block_of r s d ∷ l) rest

-- what it means that states and memory match
pub match_parts : (rs : List Row) (ss : List State) (bytes : List ℕ) → is_matched rs ss bytes ≡ true
    → (length ss ≡ length rs) × (size_of rs ≤ length bytes)
match_parts rs ss bytes t =
    let q = and_parts (eqb (length ss) (length rs)) _ t in
    (eqb-true (length ss) (length rs) q.0, leb-true (size_of rs) (length bytes) q.1)

pub matched_few : (rs : List Row) (ss : List State) (bytes : List ℕ) → length rs ≤ most_blocks
    → length (matched_blocks rs ss bytes) ≤ most_blocks
matched_few rs ss bytes few =
    cond_both (is_matched rs ss bytes) (blocks_of rs ss bytes) [] (λ l. length l ≤ most_blocks)
    (λ t. omega (arith, length-blocks rs ss bytes (match_parts rs ss bytes t).0, few))
    (λ t. omega arith)

pub matched_kept : (rs : List Row) (ss : List State) (bytes : List ℕ) → laid_from 0 rs ≡ true
    → all_kept (matched_blocks rs ss bytes) ≡ true
matched_kept rs ss bytes laid =
    cond_both (is_matched rs ss bytes) (blocks_of rs ss bytes) [] (λ l. all_kept l ≡ true)
    (λ t. let in' = (match_parts rs ss bytes t).1 in blocks_kept rs ss bytes 0 laid (omega arith))
    (λ t. refl)

-- the block at a place of rows that match
pub matched_nth : (rs : List Row) (ss : List State) (bytes : List ℕ) (i : ℕ) → is_matched rs ss bytes ≡ true → i < length rs
    → slice_get (matched_blocks rs ss bytes) i ≡ Some (block_of (row_at rs i) (state_at ss i) bytes)
matched_nth rs ss bytes i t h =
    ap (λ l. slice_get l i) (cond-true (is_matched rs ss bytes) (blocks_of rs ss bytes) [] t) ∙ nth_blocks rs ss bytes i (match_parts rs ss bytes t).0 h

pub matched_past : (rs : List Row) (ss : List State) (bytes : List ℕ) (i : ℕ) → length rs ≤ i
    → slice_get (matched_blocks rs ss bytes) i ≡ None
matched_past rs ss bytes i h =
    cond_both (is_matched rs ss bytes) (blocks_of rs ss bytes) [] (λ l. slice_get l i ≡ None)
    (λ t. slice_get_past (blocks_of rs ss bytes) i (omega (arith, length-blocks rs ss bytes (match_parts rs ss bytes t).0)))
    (λ t. refl)

-- states that fit are as many as the rows
pub states_as_many : (rs : List Row) (ss : List State) → states_fit rs ss ≡ true → length ss ≡ length rs
states_as_many [] [] t = refl
states_as_many [] (s ∷ ss) t = absurd (false≢true t)
states_as_many (r ∷ rs) [] t = absurd (false≢true t)
states_as_many (r ∷ rs) (s ∷ ss) t = ap suc (states_as_many rs ss (and_parts _ _ t).1)

pub start_at_lem : (rs : List Row) (i : ℕ) → i < length rs → start_at rs i ≡ (row_at rs i).start
start_at_lem [] i h = absurd (omega arith)
start_at_lem (r ∷ rs) zero h = refl
start_at_lem (r ∷ rs) (suc i) h = start_at_lem rs i (omega arith)

length_marked : (ss : List State) (i word : ℕ) → length (marked ss i word) ≡ length ss
length_marked [] i word = refl
length_marked (s ∷ ss) zero word = refl
length_marked (s ∷ ss) (suc i) word = ap suc (length_marked ss i word)

length-resized : (ss : List State) (i n : ℕ) → length (resized ss i n) ≡ length ss
length-resized [] i n = refl
length-resized (s ∷ ss) zero n = refl
length-resized (s ∷ ss) (suc i) n = ap suc (length-resized ss i n)

pub length-written : (d : List ℕ) (from : ℕ) (src : List ℕ) → length (written d from src) ≡ length d
length-written d from src =
    cond_both (leb (from + length src) (length d)) (paste d from src (length src)) d (λ l. length l ≡ length d)
    (λ t. length-paste d from src (length src) (leb-true (from + length src) (length d) t) (omega arith))
    (λ t. refl)

-- what it means that a block may change: states and memory match, and the place has a row
pub mark_parts : (rs : List Row) (ss : List State) (d : List ℕ) (i : ℕ) → may_mark (slice_get (matched_blocks rs ss d) i) ≡ true
    → (is_matched rs ss d ≡ true) × (i < length rs)
mark_parts rs ss d i t =
    ⊎_elim
    (λ m. ⊎_elim
    (λ in'. (m, in'))
    (λ out. absurd (false≢true (ap may_mark (sym (matched_past rs ss d i out)) ∙ t)))
    (cases_lt i (length rs)))
    (λ m. absurd (false≢true (ap (λ b. may_mark (slice_get (cond b (blocks_of rs ss d) []) i)) (sym m) ∙ t)))
    (cases_Bool (is_matched rs ss d))

pub replace_marks : (o : Option Block) (n : ℕ) → may_replace o n ≡ true → may_mark o ≡ true
replace_marks None n t = t
replace_marks (Some b) n t = (and_parts (is_kept b.keeper) _ t).0

-- and that its data may be replaced: the length fits too
pub replace_fits : (rs : List Row) (ss : List State) (d : List ℕ) (i n : ℕ) → may_replace (slice_get (matched_blocks rs ss d) i) n ≡ true
    → length_fits (row_at rs i).attribute.0 (row_at rs i).most n ≡ true
replace_fits rs ss d i n t =
    let p = mark_parts rs ss d i (replace_marks (slice_get (matched_blocks rs ss d) i) n t) in
    (and_parts (is_kept (row_at rs i).keeper) _ (ap (λ o. may_replace o n) (sym (matched_nth rs ss d i p.0 p.1)) ∙ t)).1

-- the blocks after a change of one state's status
pub matched_marked : (rs : List Row) (ss : List State) (d : List ℕ) (i word : ℕ) → may_mark (slice_get (matched_blocks rs ss d) i) ≡ true
    → matched_blocks rs (marked ss i word) d ≡ changed (matched_blocks rs ss d) i (with_status word)
matched_marked rs ss d i word t =
    let m = (mark_parts rs ss d i t).0 in
    let still : is_matched rs (marked ss i word) d ≡ true =
    ap (λ n. eqb n (length rs) && leb (size_of rs) (length d)) (length_marked ss i word) ∙ m in
    cond-true (is_matched rs (marked ss i word) d) (blocks_of rs (marked ss i word) d) [] still
    ∙ blocks_marked rs ss d i word (match_parts rs ss d m).0
    ∙ ap (λ l. changed l i (with_status word)) (sym (cond-true (is_matched rs ss d) (blocks_of rs ss d) [] m))

module _ (rs : List Row) (ss : List State) (d src : List ℕ) (i : ℕ) (laid : laid_from 0 rs ≡ true)
    (may : may_replace (slice_get (matched_blocks rs ss d) i) (length src) ≡ true) where
  matched : is_matched rs ss d ≡ true
  matched = (mark_parts rs ss d i (replace_marks (slice_get (matched_blocks rs ss d) i) (length src) may)).0

  inside : i < length rs
  inside = (mark_parts rs ss d i (replace_marks (slice_get (matched_blocks rs ss d) i) (length src) may)).1

  -- the new data lie within the areas
  pub write_fits : (start_at rs i + length src ≤ length d) × (start_at rs i + length src ≤ size_of rs) × (length src ≤ 1020)
  write_fits =
      let fits = replace_fits rs ss d i (length src) may in
      let in' = row_within rs 0 i laid inside in
      let small = fits_area (row_at rs i) (length src) fits in
      let few = area_small (row_at rs i) in'.0 in
      let start = start_at_lem rs i inside in
      let size = (match_parts rs ss d matched).1 in
      (omega (arith, in'.2), omega (arith, in'.2), omega arith)

  written_is : written d (start_at rs i) src ≡ paste d (row_at rs i).start src (length src)
  written_is =
      cond-true (leb (start_at rs i + length src) (length d)) (paste d (start_at rs i) src (length src)) d (le-leb _ _ write_fits.0)
      ∙ ap (λ k. paste d k src (length src)) (start_at_lem rs i inside)

  -- the blocks after new data were written at their place
  pub matched_written : matched_blocks rs (resized ss i (length src)) (written d (start_at rs i) src) ≡ changed (matched_blocks rs ss d) i (with_content src)
  matched_written =
      let parts = match_parts rs ss d matched in
      let still : is_matched rs (resized ss i (length src)) (written d (start_at rs i) src) ≡ true =
      ap (λ n. eqb n (length rs) && leb (size_of rs) (length (written d (start_at rs i) src))) (length-resized ss i (length src))
      ∙ ap (λ n. eqb (length ss) (length rs) && leb (size_of rs) n) (length-written d (start_at rs i) src) ∙ matched in
      cond-true (is_matched rs (resized ss i (length src)) (written d (start_at rs i) src)) (blocks_of rs (resized ss i (length src)) (written d (start_at rs i) src)) [] still
      ∙ ap (blocks_of rs (resized ss i (length src))) written_is
      ∙ blocks_content rs ss d src 0 i (length src) laid (omega (arith, parts.1)) parts.0 inside refl (replace_fits rs ss d i (length src) may)
      ∙ ap (λ l. changed l i (with_content src)) (sym (cond-true (is_matched rs ss d) (blocks_of rs ss d) [] matched))

  -- and the bytes behind the last area
  pub spare_kept : drop (size_of rs) (written d (start_at rs i) src) ≡ drop (size_of rs) d
  spare_kept =
      let start = start_at_lem rs i inside in
      ap (drop (size_of rs)) written_is
      ∙ part_behind d src (row_at rs i).start (length src) (size_of rs) (omega (arith, write_fits.1)) (omega (arith, write_fits.0)) refl

-- one state, changed in place or past the end
pub set-marked : (ss : List State) (i word : ℕ) → set ss i (record { status = word; length = (state_at ss i).length }) ≡ marked ss i word
set-marked [] i word = refl
set-marked (s ∷ ss) zero word = refl
set-marked (s ∷ ss) (suc i) word = ap (λ l. s ∷ l) (set-marked ss i word)

pub marked_past : (ss : List State) (i word : ℕ) → length ss ≤ i → ss ≡ marked ss i word
marked_past [] i word h = refl
marked_past (s ∷ ss) zero word h = absurd (omega arith)
marked_past (s ∷ ss) (suc i) word h = ap (λ l. s ∷ l) (marked_past ss i word (omega arith))

pub set-resized : (ss : List State) (i n : ℕ) → set ss i (record { status = (state_at ss i).status; length = n }) ≡ resized ss i n
set-resized [] i n = refl
set-resized (s ∷ ss) zero n = refl
set-resized (s ∷ ss) (suc i) n = ap (λ l. s ∷ l) (set-resized ss i n)

pub resized_past : (ss : List State) (i n : ℕ) → length ss ≤ i → ss ≡ resized ss i n
resized_past [] i n h = refl
resized_past (s ∷ ss) zero n h = absurd (omega arith)
resized_past (s ∷ ss) (suc i) n h = ap (λ l. s ∷ l) (resized_past ss i n (omega arith))
