-- The other commands, place by place. Assumes nothing.
use Rattle.std.proofs.Common.{◌≡◌, ℕ, ◌+◌, Bool, not, ◌&&◌, ◌||◌, eqb, List, [], ◌∷◌, Some, refl, ap}
use Rattle.std.specs.List.{enumerate_from, list_any}
use Rattle.block.specs.Blocks.{Block}
use Rattle.service.specs.Steps.{is_active_command, others_from}

-- a block that is such a command, with its place
abbrev pub is_other : ℕ → ℕ × Block → Bool
is_other place p = not (eqb p.0 place) && is_active_command (Some p.1)

pub any_other : (place i : ℕ) (bs : List Block) → list_any (is_other place) (enumerate_from i bs) ≡ others_from i place bs
any_other place i [] = refl
any_other place i (b ∷ bs) = ap (λ t. is_other place (i, b) || t) (any_other place (i + 1) bs)
