-- What a scan over items that have IDNs finds. Assumes nothing.
use Rattle.std.specs.Prelude.{ℕ, Bool, cond, List, [], ◌∷◌, Some, None, Option, nat_lt}
use Rattle.block.specs.declared.idn.Idn.{Idn}

module _ {X : Type 0} (idn : X → Idn) where
  -- the first item whose IDN is not above the one before it; the first has to be above `before`
  abbrev pub first_below : ℕ → List X → Option Idn
  first_below before [] = None
  first_below before (x ∷ xs) = cond (nat_lt before (idn x).0) (first_below (idn x).0 xs) (Some (idn x))

  -- the first item that fails a test
  abbrev pub first_unfit : (X → Bool) → List X → Option Idn
  first_unfit test [] = None
  first_unfit test (x ∷ xs) = cond (test x) (first_unfit test xs) (Some (idn x))
