-- The AT, the drive's telegram: address, status word, service info. Assumes nothing.
use Rattle.std.specs.Prelude.{ℕ, ◌+◌, Bool, false, cond, ◌&&◌, List, ◌∷◌, ◌++◌, length, drop, Some, None, Option, Result, ◌==◌, nat_lt}
use Rattle.std.specs.List.{list_any}
use Rattle.refusal.specs.declared.Refusal.{Refusal}
use Rattle.refusal.specs.declared.Refusal.TheVariants.{PhaseZero, Buffer}
use Rattle.block.specs.Attributes.{is_command}
use Rattle.block.specs.Blocks.{Block}
use Rattle.block.specs.Phases.{phase_number}
use Rattle.channel.specs.Commands.{has_ended}
use Rattle.channel.specs.Controls.{upper_bits}
use Rattle.service.specs.Words.{bytes_of}
use Rattle.drive.specs.Machines.{Machine}
use Rattle.drive.specs.Telegrams.{unless_refused}

-- a command that has ended
abbrev pub is_ended_block : Option Block → Bool
is_ended_block None = false
is_ended_block (Some b) = is_command b.attribute && has_ended b.status

-- some command has ended
abbrev pub any_ended : List Block → Bool
any_ended bs = list_any (λ b. is_ended_block (Some b)) bs

-- bit 0 AHS, bit 2 error, bit 5 some command has ended, bits 15 to 6 the caller's
abbrev pub status_word : Machine → ℕ → ℕ
status_word m bits =
    upper_bits bits + cond m.service.link.ahs 1 0 + cond m.service.link.error 4 0 + cond (any_ended m.service.blocks) 32 0

abbrev pub at_bytes : Machine → ℕ → List ℕ
at_bytes m bits = m.address ∷ (bytes_of (status_word m bits) ++ bytes_of m.service.link.info)

-- refused in phase 0, then for a buffer under five bytes
abbrev pub at_refusal : Machine → ℕ → Option Refusal
at_refusal m size =
    cond (phase_number m.phase == 0) (Some PhaseZero) (cond (nat_lt size 5) (Some Buffer) None)

abbrev pub at_answer : Machine → ℕ → Result (Unit {0}) Refusal
at_answer m size = unless_refused (at_refusal m size) tt

-- the buffer after the call: its first five bytes, or none where the call is refused
abbrev pub written_unless : Option Refusal → List ℕ → List ℕ → List ℕ
written_unless (Some r) bytes buffer = buffer
written_unless None bytes buffer = bytes ++ drop 5 buffer

abbrev pub at_after : Machine → ℕ → List ℕ → List ℕ
at_after m bits buffer = written_unless (at_refusal m (length buffer)) (at_bytes m bits) buffer
