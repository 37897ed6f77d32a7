-- What the joined list shows at a place and after a change, by the side that the place lies on. Assumes nothing.
use Rattle.std.proofs.Common.{◌≡◌, ℕ, Bool, cond, List, arith}
use Rattle.std.specs.List.{slice_get}
use Rattle.std.proofs.lemmas.Bool.Decides.{nat_tests}
use Rattle.block.specs.Blocks.{Block}
use Rattle.block.specs.Lists.{changed}
use Rattle.block.proofs.Lists.{length-changed, changed_left, changed_right, nth_left, nth_right}
use Rattle.joined.specs.Joining.{joined_blocks, left_out, side_of}
use Rattle.joined.specs.declared.Side.TheVariants.{First, Second}

module _ (bs cs : List Block) (place p : ℕ) where
  pub nth_first : First p ≡ side_of bs cs place → slice_get bs p ≡ slice_get (joined_blocks bs cs) place
  nth_first is = grind (arith, nat_tests, nth_left bs cs place)

  pub nth_second : Second p ≡ side_of bs cs place → slice_get cs p ≡ slice_get (joined_blocks bs cs) place
  nth_second is = grind (arith, nat_tests, nth_right bs cs p)

  -- where one list was changed at the place or not at all, the joined list was too, and what it leaves out was not
  pub after_first : (f : Block → Block) (r : Bool) (later : List Block) → First p ≡ side_of bs cs place
      → later ≡ cond r (changed bs p f) bs
      → (joined_blocks later cs ≡ cond r (changed (joined_blocks bs cs) place f) (joined_blocks bs cs))
      × (left_out later cs ≡ left_out bs cs)
  after_first f r later is was = grind (arith, nat_tests, length-changed bs place f, changed_left bs cs place f)

  pub after_second : (f : Block → Block) (r : Bool) (later : List Block) → Second p ≡ side_of bs cs place
      → later ≡ cond r (changed cs p f) cs
      → (joined_blocks bs later ≡ cond r (changed (joined_blocks bs cs) place f) (joined_blocks bs cs))
      × (left_out bs later ≡ left_out bs cs)
  after_second f r later is was = grind (arith, nat_tests, length-changed cs p f, changed_right bs cs p f)
