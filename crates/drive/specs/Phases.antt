-- Phases: what an MST, a miss and the entry into a phase do. Assumes nothing.
use Rattle.std.specs.Prelude.{ℕ, ◌+◌, ◌*◌, ◌/◌, ◌%◌, Bool, true, false, cond, ◌&&◌, List, [], ◌∷◌, map, Some, None, Option, ◌==◌, nat_le, nat_lt}
use Rattle.block.specs.declared.phase.Phase.{Phase}
use Rattle.block.specs.declared.phase.Phase.TheVariants.{Zero, One, Two, Three, Four}
use Rattle.block.specs.Numbers.{bit}
use Rattle.block.specs.Attributes.{is_command}
use Rattle.block.specs.Blocks.{Block, is_kept, length_fits}
use Rattle.block.specs.Lists.{place_of, with_content, with_status}
use Rattle.block.specs.Named.{interface_status}
use Rattle.block.specs.Phases.{phase_number}
use Rattle.service.specs.Changes.{accepted_at}
use Rattle.service.specs.States.{State, Channel}
use Rattle.service.specs.Words.{bytes_of}
use Rattle.drive.specs.declared.drive.Misses.{Misses}
use Rattle.drive.specs.declared.phases.Fault.{Fault}
use Rattle.drive.specs.declared.phases.Fault.TheVariants.{MstMissed, MdtMissed, WrongInfo, JumpUp, StepDown, NoPass}
use Rattle.drive.specs.Machines.{Machine, no_miss, empty_link, value_at}

-- the fault bits of S-0-0014, the interface status: its bits 2 to 0 are the phase, and bits 3 to 8 the faults
abbrev pub faults_in : List Block → ℕ
faults_in bs = value_at bs interface_status / 8 % 64 * 8

-- the bits of the faults, 3 to 8, as numbers
abbrev pub fault_bit : Fault → ℕ
fault_bit MstMissed = 8
fault_bit MdtMissed = 16
fault_bit WrongInfo = 32
fault_bit JumpUp = 64
fault_bit StepDown = 128
fault_bit NoPass = 256

-- the fault bits with one more
abbrev pub with_fault : Fault → ℕ → ℕ
with_fault f faults = cond (bit (fault_bit f) faults) faults (faults + fault_bit f)

-- the interface status is written, and so valid
abbrev pub noted : List Block → ℕ → List Block
noted bs word = accepted_at bs (place_of bs interface_status) (bytes_of word)

abbrev pub is_command_block : Option Block → Bool
is_command_block None = false
is_command_block (Some b) = is_command b.attribute

-- a command at data and status 0
abbrev pub reset_block : Block → Block
reset_block b =
    cond (is_command b.attribute && is_kept b.keeper)
    (with_status 0 (cond (length_fits b.attribute b.most 2) (with_content (0 ∷ 0 ∷ []) b) b)) b

abbrev pub commands_reset : List Block → List Block
commands_reset bs = map reset_block bs

-- entering 0 resets the commands
abbrev pub blocks_entering : Phase → List Block → List Block
blocks_entering Zero bs = commands_reset bs
blocks_entering One bs = bs
blocks_entering Two bs = bs
blocks_entering Three bs = bs
blocks_entering Four bs = bs

-- entering 0, 1 or 2 closes and empties the channel; 3 and 4 keep it
abbrev pub link_entering : Phase → Channel → Channel
link_entering Zero link = empty_link
link_entering One link = empty_link
link_entering Two link = empty_link
link_entering Three link = link
link_entering Four link = link

abbrev pub words_entering : Phase → List ℕ → List ℕ
words_entering Zero words = []
words_entering One words = []
words_entering Two words = []
words_entering Three words = words
words_entering Four words = words

-- a phase is entered: the interface status is written, the pass mark and both miss counts are cleared
abbrev pub service_entering : State → Phase → ℕ → State
service_entering s p faults = record { blocks = noted (blocks_entering p s.blocks) (faults + phase_number p); mark = false; link = link_entering p s.link; words = words_entering p s.words }

abbrev pub entering : Machine → Phase → ℕ → Machine
entering m p faults = record { address = m.address; phase = p; service = service_entering m.service p faults; misses = no_miss; out = m.out }

-- a fault leads to phase 0
abbrev pub faulted : Machine → Fault → Machine
faulted m f = entering m Zero (with_fault f (faults_in m.service.blocks))

-- a fault is noted, and the phase is kept
abbrev pub fault_noted : Machine → Fault → Machine
fault_noted m f = record { address = m.address; phase = m.phase; service = record { blocks = noted m.service.blocks (with_fault f (faults_in m.service.blocks) + phase_number m.phase); mark = m.service.mark; link = m.service.link; words = m.service.words }; misses = m.misses; out = m.out }

abbrev pub with_misses : Machine → Misses → Machine
with_misses m k = record { address = m.address; phase = m.phase; service = m.service; misses = k; out = m.out }

-- a missed MST: the second running in phase 3 or 4 is a fault
abbrev pub mst_miss : Machine → Machine
mst_miss m =
    cond (nat_le 3 (phase_number m.phase))
    (cond m.misses.mst (faulted m MstMissed) (with_misses m (record { mst = true; mdt = m.misses.mdt }))) m

-- a missed MDT: the second running in phase 4 is a fault
abbrev pub mdt_miss : Machine → Machine
mdt_miss m =
    cond (phase_number m.phase == 4)
    (cond m.misses.mdt (faulted m MdtMissed) (with_misses m (record { mst = m.misses.mst; mdt = true }))) m

-- raising the phase: from 0 the fault bits are cleared; 3 and 4 need the pass mark
abbrev pub raised : Machine → Phase → Machine
raised m Zero = entering m One 0
raised m One = entering m Two (faults_in m.service.blocks)
raised m Two = cond m.service.mark (entering m Three (faults_in m.service.blocks)) (faulted m NoPass)
raised m Three = cond m.service.mark (entering m Four (faults_in m.service.blocks)) (faulted m NoPass)
raised m Four = m

-- an accepted MST with its INFO
abbrev pub mst_taken : Machine → ℕ → Machine
mst_taken m info =
    cond (nat_lt 4 info) (mst_miss (fault_noted m WrongInfo))
    (cond (info == phase_number m.phase) (with_misses m (record { mst = false; mdt = m.misses.mdt }))
    (cond (info == 0) (entering m Zero (faults_in m.service.blocks))
    (cond (info == phase_number m.phase + 1) (raised m m.phase)
    (cond (nat_lt (phase_number m.phase) info) (faulted m JumpUp) (faulted m StepDown)))))
