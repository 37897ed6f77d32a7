-- A scan over items that have IDNs: what it finds, and what it says where it found nothing. Assumes nothing.
use Rattle.std.proofs.Common.{◌≡◌, ℕ, zero, suc, ◌<◌, ◌≤◌, Bool, true, false, cond, not, List, [], ◌∷◌, is_some, Some, None, Option, refl, ap, ◌∙◌, ⊎_elim, arith}
use Rattle.std.specs.List.{find, slice_get}
use Rattle.std.specs.Option.{MatchOption, option_map}
use Rattle.std.specs.Result.{is_ok}
use Rattle.std.proofs.lemmas.Bool.{cases_Bool}
use Rattle.std.proofs.lemmas.Bool.Decides.{nat_tests}
use Rattle.block.specs.declared.idn.Idn.{Idn}
use Rattle.block.specs.Values.{ok_unless}
use Rattle.making.specs.Scans.{first_below, first_unfit}

-- what may be at fault is well where nothing is
pub ok_is : {E : Type 0} (o : Option E) → is_ok (ok_unless o) ≡ not (is_some o)
ok_is None = refl
ok_is (Some e) = refl

module _ {X : Type 0} (idn : X → Idn) where
  -- where the IDNs ascend from above a number, each is above it
  pub none_below : (before : ℕ) (xs : List X) → first_below idn before xs ≡ None
      → (i : ℕ) (x : X) → slice_get xs i ≡ Some x → before < (idn x).0
  none_below before [] none i x at = absurd (grind arith)
  none_below before (y ∷ ys) none zero x at = grind (arith, nat_tests)
  none_below before (y ∷ ys) none (suc i) x at =
      let first : before < (idn y).0 = grind (arith, nat_tests) in
      omega (arith, none_below (idn y).0 ys (grind arith) i x at)

  -- and of two the later is above the earlier
  pub none_swapped : (before : ℕ) (xs : List X) → first_below idn before xs ≡ None
      → (i j : ℕ) (x y : X) → i < j → slice_get xs i ≡ Some x → slice_get xs j ≡ Some y → (idn x).0 < (idn y).0
  none_swapped before [] none i j x y lt at at' = absurd (grind arith)
  none_swapped before (z ∷ zs) none i zero x y lt at at' = absurd (omega arith)
  none_swapped before (z ∷ zs) none zero (suc j) x y lt at at' =
      let same : (idn z).0 ≡ (idn x).0 = grind arith in
      omega (arith, same, none_below (idn z).0 zs (grind arith) j y at')
  none_swapped before (z ∷ zs) none (suc i) (suc j) x y lt at at' =
      none_swapped (idn z).0 zs (grind arith) i j x y (omega arith) at at'

  -- the item that a scan finds
  pub record Unfit (test : X → Bool) (xs : List X) (i : Idn) : Type 0 where
    pub place : ℕ
    pub item : X
    pub shown : slice_get xs place ≡ Some item
    pub named : idn item ≡ i
    pub unfit : test item ≡ false

  module _ (test : X → Bool) where
    found_unfit : (xs : List X) → option_map idn (find (λ x. not (test x)) xs) ≡ first_unfit idn test xs
    found_unfit [] = refl
    found_unfit (x ∷ xs) =
        elim (test x) as (λ t. option_map idn (cond (not t) (Some x) (find (λ y. not (test y)) xs)) ≡ cond t (first_unfit idn test xs) (Some (idn x))) [
          | true ↦ found_unfit xs
          | false ↦ refl
        ]

    -- the first that fails is what a search finds, where v reads what it gives
    pub unfit_found : {A : Type 0} (v : A → X) (xs : List X) (o : Option A) (r : Option Idn) → option_map v o ≡ find (λ x. not (test x)) xs
        → MatchOption o (r ≡ None) (λ a. r ≡ Some (idn (v a))) → r ≡ first_unfit idn test xs
    unfit_found v xs None r found given = given ∙ ap (option_map idn) found ∙ found_unfit xs
    unfit_found v xs (Some a) r found given = given ∙ ap (option_map idn) found ∙ found_unfit xs

    -- where no item fails, each passes
    pub none_unfit : (xs : List X) → first_unfit idn test xs ≡ None → (i : ℕ) (x : X) → slice_get xs i ≡ Some x → test x ≡ true
    none_unfit [] none i x at = absurd (grind arith)
    none_unfit (y ∷ ys) none zero x at = grind arith
    none_unfit (y ∷ ys) none (suc i) x at = none_unfit ys (grind arith) i x at

    pub unfit_at : (xs : List X) (i : Idn) → first_unfit idn test xs ≡ Some i → Unfit test xs i
    unfit_at [] i is = absurd (grind arith)
    unfit_at (y ∷ ys) i is =
        ⊎_elim
        (λ t. let later = unfit_at ys i (grind arith) in record { place = suc later.place; item = later.item; shown = later.shown; named = later.named; unfit = later.unfit })
        (λ f. record { place = 0; item = y; shown = refl; named = grind arith; unfit = f })
        (cases_Bool (test y))

    -- where the IDNs ascend, an item that fails is not below the first that does
    pub unfit_lowest : (before : ℕ) (xs : List X) → first_below idn before xs ≡ None
        → (i : Idn) → first_unfit idn test xs ≡ Some i → (k : ℕ) (x : X) → slice_get xs k ≡ Some x → test x ≡ false → i.0 ≤ (idn x).0
    unfit_lowest before [] up i is k x at bad = absurd (grind arith)
    unfit_lowest before (y ∷ ys) up i is zero x at bad =
        let first : idn x ≡ i = grind arith in
        omega (arith, ap (λ n. n.0) first)
    unfit_lowest before (y ∷ ys) up i is (suc k) x at bad =
        ⊎_elim
        (λ t. unfit_lowest (idn y).0 ys (grind arith) i (grind arith) k x at bad)
        (λ f. let first : idn y ≡ i = grind arith in omega (arith, ap (λ n. n.0) first, none_below (idn y).0 ys (grind arith) k x at))
        (cases_Bool (test y))
