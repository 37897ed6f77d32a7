-- The communication phases and their numbers. Assumes nothing.
use Rattle.std.specs.Prelude.{ℕ, Bool, nat_le}
use Rattle.block.specs.declared.phase.Phase.{Phase}
use Rattle.block.specs.declared.phase.Phase.TheVariants.{Zero, One, Two, Three, Four}

-- the number of a phase
abbrev pub phase_number : Phase → ℕ
phase_number Zero = 0
phase_number One = 1
phase_number Two = 2
phase_number Three = 3
phase_number Four = 4

-- the phases there are
abbrev pub known_phase : ℕ → Bool
known_phase n = nat_le n 4
