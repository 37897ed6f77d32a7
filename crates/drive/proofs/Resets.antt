-- Commands that are reset one by one. Assumes nothing.
use Rattle.std.proofs.Common.{◌≡◌, ℕ, zero, suc, ◌+◌, ◌<◌, true, false, List, [], ◌∷◌, ◌++◌, map, length, take, drop, refl, ap, ◌∙◌, arith}
use Rattle.std.specs.List.{slice_get}
use Rattle.std.proofs.lemmas.Bool.Decides.{nat_tests}
use Rattle.block.specs.Blocks.{Block}
use Rattle.block.specs.Lists.{changed}
use Rattle.service.specs.Changes.{accepted}
use Rattle.drive.specs.Phases.{is_command_block, reset_block}

-- one block more is reset
pub reset_more : (bs : List Block) (i : ℕ) → i < length bs
    → changed (map reset_block (take i bs) ++ drop i bs) i reset_block ≡ map reset_block (take (i + 1) bs) ++ drop (i + 1) bs
reset_more [] i h = absurd (omega arith)
reset_more (b ∷ bs) zero h = refl
reset_more (b ∷ bs) (suc i) h =
    ap (λ l. reset_block b ∷ l) (reset_more bs i (omega arith))
    ∙ ap (λ n. map reset_block (take n (b ∷ bs)) ++ drop n (b ∷ bs)) (let e : suc (i + 1) ≡ suc i + 1 = omega arith in e)

accepted-suc : (b : Block) (bs : List Block) (i : ℕ) (bytes : List ℕ) → accepted (b ∷ bs) (suc i) bytes ≡ b ∷ accepted bs i bytes
accepted-suc b bs i bytes = grind (arith, nat_tests)

-- a command that takes the data 0 and the status 0 is reset
pub reset_command : (bs : List Block) (i : ℕ) → is_command_block (slice_get bs i) ≡ true
    → accepted bs i (0 ∷ 0 ∷ []) ≡ changed bs i reset_block
reset_command [] i t = refl
reset_command (b ∷ bs) zero t = grind (arith, nat_tests)
reset_command (b ∷ bs) (suc i) t = accepted-suc b bs i (0 ∷ 0 ∷ []) ∙ ap (λ l. b ∷ l) (reset_command bs i t)

-- another block is not
pub reset_other : (bs : List Block) (i : ℕ) → is_command_block (slice_get bs i) ≡ false → bs ≡ changed bs i reset_block
reset_other [] i t = refl
reset_other (b ∷ bs) zero t = grind (arith, nat_tests)
reset_other (b ∷ bs) (suc i) t = ap (λ l. b ∷ l) (reset_other bs i t)
