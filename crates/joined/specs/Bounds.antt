-- The joined list keeps the bounds of a store. Assumes nothing.
use Rattle.std.specs.Prelude.{◌≡◌, ◌≤◌, true, List, ◌++◌, length}
use Rattle.std.proofs.Common.{arith, length-append}
use Rattle.std.proofs.lemmas.Bool.{cond_both, leb-true}
use Rattle.block.specs.Blocks.{Block}
use Rattle.block.specs.Lists.{most_blocks, all_kept}
use Rattle.block.proofs.Lists.{kept_append}
use Rattle.joined.specs.Joining.{is_whole, joined_blocks}

pub joined_few : (first second : List Block) → length first ≤ most_blocks → length (joined_blocks first second) ≤ most_blocks
joined_few first second few =
    cond_both (is_whole first second) (first ++ second) first (λ bs. length bs ≤ most_blocks)
    (λ whole. simp length-append (omega (arith, leb-true _ _ whole)))
    (λ _. few)

pub joined_sound : (first second : List Block) → all_kept first ≡ true → all_kept second ≡ true
    → all_kept (joined_blocks first second) ≡ true
joined_sound first second one other =
    cond_both (is_whole first second) (first ++ second) first (λ bs. all_kept bs ≡ true)
    (λ _. kept_append first second one other)
    (λ _. one)
