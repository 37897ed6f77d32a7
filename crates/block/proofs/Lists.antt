-- Laws of a list of blocks: one place changed, two lists joined. Assumes nothing.
use Rattle.std.proofs.Common.{◌≡◌, ℕ, zero, suc, ◌+◌, ◌<◌, ◌≤◌, true, false, cond, eqb, List, [], ◌∷◌, ◌++◌, length, drop, Some, None, Option, sym, refl, ap, ◌∙◌, subst, suc-add, zero-add, arith}
use Rattle.std.specs.List.{slice_get}
use Rattle.std.specs.Option.{option_map}
use Rattle.std.proofs.lemmas.Option.{none-some, slice_get_within, get_or_from_slice_get}
use Rattle.std.proofs.lemmas.List.{drop_more}
use Rattle.std.proofs.lemmas.Bool.{and_parts, and_from}
use Rattle.block.specs.Blocks.{Block, block_kept}
use Rattle.block.specs.Lists.{place_of, all_kept, changed}

-- a change keeps the count
pub length-changed : (bs : List Block) (place : ℕ) (f : Block → Block) → length (changed bs place f) ≡ length bs
length-changed [] place f = refl
length-changed (b ∷ bs) zero f = refl
length-changed (b ∷ bs) (suc place) f = ap suc (length-changed bs place f)

-- a change past the end is none
pub changed_past : (bs : List Block) (place : ℕ) (f : Block → Block) → length bs ≤ place → changed bs place f ≡ bs
changed_past [] place f h = refl
changed_past (b ∷ bs) zero f h = absurd (omega arith)
changed_past (b ∷ bs) (suc place) f h = ap (λ l. b ∷ l) (changed_past bs place f (omega arith))

-- a change within the first list
pub changed_left : (bs cs : List Block) (place : ℕ) (f : Block → Block) → place < length bs
    → changed (bs ++ cs) place f ≡ changed bs place f ++ cs
changed_left [] cs place f h = absurd (omega arith)
changed_left (b ∷ bs) cs zero f h = refl
changed_left (b ∷ bs) cs (suc place) f h = ap (λ l. b ∷ l) (changed_left bs cs place f (omega arith))

-- a change within the second list
pub changed_right : (bs cs : List Block) (place : ℕ) (f : Block → Block)
    → changed (bs ++ cs) (length bs + place) f ≡ bs ++ changed cs place f
changed_right [] cs place f = rw zero-add
changed_right (b ∷ bs) cs place f = rw suc-add (ap (λ l. b ∷ l) (changed_right bs cs place f))

pub nth_left : (bs cs : List Block) (place : ℕ) → place < length bs → slice_get (bs ++ cs) place ≡ slice_get bs place
nth_left [] cs place h = absurd (omega arith)
nth_left (b ∷ bs) cs zero h = refl
nth_left (b ∷ bs) cs (suc place) h = nth_left bs cs place (omega arith)

pub nth_right : (bs cs : List Block) (place : ℕ) → slice_get (bs ++ cs) (length bs + place) ≡ slice_get cs place
nth_right [] cs place = rw zero-add
nth_right (b ∷ bs) cs place = rw suc-add (nth_right bs cs place)

pub kept_append : (bs cs : List Block) → all_kept bs ≡ true → all_kept cs ≡ true → all_kept (bs ++ cs) ≡ true
kept_append [] cs p q = q
kept_append (b ∷ bs) cs p q =
    let parts = and_parts (block_kept b) (all_kept bs) p in
    and_from (block_kept b) (all_kept (bs ++ cs)) parts.0 (kept_append bs cs parts.1 q)

-- where the first list has the IDN, its place is the place in both; else it lies behind the first list
abbrev pub or_behind : Option ℕ → ℕ → Option ℕ → Option ℕ
or_behind (Some p) n o = Some p
or_behind None n o = option_map (λ p. n + p) o

mapped_suc_behind : (o : Option ℕ) (n : ℕ) (r : Option ℕ) → option_map suc (or_behind o n r) ≡ or_behind (option_map suc o) (suc n) r
mapped_suc_behind (Some p) n r = refl
mapped_suc_behind None n None = refl
mapped_suc_behind None n (Some p) = ap (λ m. Some m) (sym (suc-add n p))

pub place-append : (bs cs : List Block) (idn : ℕ)
    → place_of (bs ++ cs) idn ≡ or_behind (place_of bs idn) (length bs) (place_of cs idn)
place-append [] cs idn = plain (place_of cs idn)
  where
    plain : (o : Option ℕ) → o ≡ option_map (λ p. 0 + p) o
    plain None = refl
    plain (Some p) = ap (λ m. Some m) (sym (zero-add p))
place-append (b ∷ bs) cs idn =
    elim (eqb b.idn idn) as (λ t. cond t (Some 0) (option_map suc (place_of (bs ++ cs) idn)) ≡ or_behind (cond t (Some 0) (option_map suc (place_of bs idn))) (suc (length bs)) (place_of cs idn)) [
      | true ↦ refl
      | false ↦ ap (option_map suc) (place-append bs cs idn) ∙ mapped_suc_behind (place_of bs idn) (length bs) (place_of cs idn)
    ]

-- the block at a place heads what is left from there
pub nth_drop : (bs : List Block) (i : ℕ) (b : Block) → slice_get bs i ≡ Some b → drop i bs ≡ b ∷ drop (i + 1) bs
nth_drop bs i b e = drop_more bs i b (slice_get_within bs i b e) ∙ ap (λ x. x ∷ drop (i + 1) bs) (get_or_from_slice_get bs i b b e)

-- a place without a block lies past the end
pub nth_none : (bs : List Block) (i : ℕ) → slice_get bs i ≡ None → length bs ≤ i
nth_none [] i e = omega arith
nth_none (x ∷ bs) zero e = absurd (none-some _ (sym e))
nth_none (x ∷ bs) (suc i) e = let rest = nth_none bs i e in omega arith

-- every block keeps the block rules
pub nth_kept : (bs : List Block) (i : ℕ) (b : Block) → all_kept bs ≡ true → slice_get bs i ≡ Some b → block_kept b ≡ true
nth_kept [] i b kept e = absurd (none-some _ e)
nth_kept (x ∷ bs) zero b kept e = let same : x ≡ b = cc in subst (λ y. block_kept y ≡ true) same (and_parts (block_kept x) (all_kept bs) kept).0
nth_kept (x ∷ bs) (suc i) b kept e = nth_kept bs i b (and_parts (block_kept x) (all_kept bs) kept).1 e
