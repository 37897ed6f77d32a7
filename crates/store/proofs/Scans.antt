-- The blocks of a list from a place on. Assumes nothing.
use Rattle.std.proofs.Common.{◌≡◌, ℕ, ◌+◌, ◌<◌, List, [], length, Some, None, drop, sym, ap, arith}
use Rattle.std.specs.List.{slice_get}
use Rattle.std.proofs.lemmas.List.{drop_all}
use Rattle.block.specs.Blocks.{Block}
use Rattle.block.proofs.Lists.{nth_drop, nth_none}

-- none are left past the last
pub none_left : (bs : List Block) (i : ℕ) → None ≡ slice_get bs i → drop i bs ≡ []
none_left bs i at = drop_all i bs (nth_none bs i (sym at))

-- one fewer is left from the next place on
pub fewer_left : (bs : List Block) (i : ℕ) (b : Block) → Some b ≡ slice_get bs i → length (drop (i + 1) bs) < length (drop i bs)
fewer_left bs i b at = omega (arith, ap length (nth_drop bs i b (sym at)))
