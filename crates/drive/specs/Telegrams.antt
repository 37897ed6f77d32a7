-- The telegrams of the master: which are refused, and what the others do. Assumes nothing.
use Rattle.std.specs.Prelude.{ℕ, ◌+◌, Bool, false, cond, not, List, length, drop, Some, None, Ok, Err, Option, Result, ◌==◌, nat_le, slice_index}
use Rattle.refusal.specs.declared.Refusal.{Refusal}
use Rattle.refusal.specs.declared.Refusal.TheVariants.{Length, Addressee, PhaseZero}
use Rattle.block.specs.Named.{record_position, mdt_length}
use Rattle.block.specs.Numbers.{word}
use Rattle.block.specs.Phases.{phase_number}
use Rattle.channel.specs.Controls.{handshake, upper_bits}
use Rattle.service.specs.States.{State, same}
use Rattle.service.specs.Steps.{step}
use Rattle.drive.specs.Machines.{Machine, value_at}
use Rattle.drive.specs.Phases.{mst_taken}

-- an answer, unless the call is refused
abbrev pub unless_refused : {A : Type 0} → Option Refusal → A → Result A Refusal
unless_refused (Some r) a = Err r
unless_refused None a = Ok a

-- a refused call changes nothing
abbrev pub after_unless : Option Refusal → Machine → Machine → Machine
after_unless (Some r) m t = m
after_unless None m t = t

-- an MST has two bytes: the address 255 and the INFO
abbrev pub mst_refusal : List ℕ → Option Refusal
mst_refusal t =
    cond (not (length t == 2)) (Some Length) (cond (not (slice_index t 0 == 255)) (Some Addressee) None)

abbrev pub mst_answer : List ℕ → Result (Unit {0}) Refusal
mst_answer t = unless_refused (mst_refusal t) tt

abbrev pub mst_after : Machine → List ℕ → Machine
mst_after m t = after_unless (mst_refusal t) m (mst_taken m (slice_index t 1))

-- in phases 3 and 4 one MDT serves all drives, and each has its record in it
abbrev pub is_shared : Machine → Bool
is_shared m = nat_le 3 (phase_number m.phase)

-- the bytes of an MDT: 5, or the address and as many as S-0-0010 says
abbrev pub mdt_size : Machine → ℕ
mdt_size m = cond (is_shared m) (1 + value_at m.service.blocks mdt_length) 5

-- whom it is addressed to: the drive, or all
abbrev pub mdt_address : Machine → ℕ
mdt_address m = cond (is_shared m) 255 m.address

-- where the drive's record begins: after the address, or where S-0-0009 says
abbrev pub record_start : Machine → ℕ
record_start m = cond (is_shared m) (value_at m.service.blocks record_position) 1

abbrev pub record_of : Machine → List ℕ → List ℕ
record_of m t = drop (record_start m) t

-- a record is control word and info
abbrev pub control_of : List ℕ → ℕ
control_of record' = word (slice_index record' 0) (slice_index record' 1)

abbrev pub info_of : List ℕ → ℕ
info_of record' = word (slice_index record' 2) (slice_index record' 3)

-- refused in phase 0, then by length, then by address
abbrev pub mdt_refusal : Machine → List ℕ → Option Refusal
mdt_refusal m t =
    cond (phase_number m.phase == 0) (Some PhaseZero)
    (cond (not (length t == mdt_size m)) (Some Length)
    (cond (not (slice_index t 0 == mdt_address m)) (Some Addressee) None))

-- the handshake alone
abbrev pub with_handshake : State → Bool → State
with_handshake s ahs = record { blocks = s.blocks; mark = s.mark; link = record { ahs = ahs; place = s.link.place; transfer = s.link.transfer; error = s.link.error; info = s.link.info }; words = s.words }

-- phase 1 takes only the handshake; from phase 2 on an MDT is a step if MHS differs from AHS, else a repeat
abbrev pub record_taken : Machine → List ℕ → State
record_taken m r =
    cond (phase_number m.phase == 1) (with_handshake m.service (handshake (control_of r)))
    (cond (same m.service.link.ahs (handshake (control_of r))) m.service
    (step (phase_number m.phase) m.out m.service (control_of r) (info_of r)))

-- an accepted MDT, which also ends a run of misses
abbrev pub mdt_taken : Machine → List ℕ → Machine
mdt_taken m r = record { address = m.address; phase = m.phase; service = record_taken m r; misses = record { mst = m.misses.mst; mdt = false }; out = m.out }

-- the answer to the caller: bits 15 to 6 of the control word
abbrev pub mdt_answer : Machine → List ℕ → Result ℕ Refusal
mdt_answer m t = unless_refused (mdt_refusal m t) (upper_bits (control_of (record_of m t)))

abbrev pub mdt_after : Machine → List ℕ → Machine
mdt_after m t = after_unless (mdt_refusal m t) m (mdt_taken m (record_of m t))
