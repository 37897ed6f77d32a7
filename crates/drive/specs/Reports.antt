-- Reports of the drive's firmware: which are refused, and what the others do. Assumes nothing.
use Rattle.std.specs.Prelude.{ℕ, ◌+◌, ◌/◌, ◌%◌, Bool, true, false, cond, not, ◌&&◌, List, [], ◌∷◌, length, Some, None, Option, Result, ◌==◌, nat_lt}
use Rattle.std.specs.Int.Count.{count_trailing_zeros}
use Rattle.std.specs.List.{slice_get}
use Rattle.std.specs.Option.{option_map}
use Rattle.refusal.specs.declared.Cause.{Cause}
use Rattle.refusal.specs.declared.Cause.TheVariants.{TooShort, TooLong, Broken}
use Rattle.refusal.specs.Refusals.{fault_cause}
use Rattle.refusal.specs.declared.Refusal.{Refusal}
use Rattle.refusal.specs.declared.Refusal.TheVariants.{Unknown, Keeper, Timing, Value}
use Rattle.block.specs.declared.keeper.Keeper as keeper
use Rattle.block.specs.declared.keeper.Keeper.TheVariants.{Master, Drive, Channel, Nobody}
use Rattle.block.specs.declared.value.ValueFault.{ValueFault}
use Rattle.block.specs.Attributes.{length_code, is_list, item_size}
use Rattle.block.specs.Blocks.{Block}
use Rattle.block.specs.Lists.{place_of}
use Rattle.block.specs.Named as named
use Rattle.block.specs.Named.{class_1_diagnostic, is_timing}
use Rattle.block.specs.Numbers.{pattern}
use Rattle.block.specs.Phases.{phase_number}
use Rattle.block.specs.Values.{value_fault}
use Rattle.service.specs.declared.link.Head.{Head}
use Rattle.service.specs.Changes.{accepted, accepted_at}
use Rattle.service.specs.States.{head_of}
use Rattle.drive.specs.Machines.{Machine}
use Rattle.drive.specs.Telegrams.{unless_refused, after_unless}

-- the drive keeps the block
abbrev pub is_drives : keeper.Keeper → Bool
is_drives Master = false
is_drives Drive = true
is_drives Channel = false
is_drives Nobody = false

-- the length does not fit: too long, then a broken item of a list, then too short
abbrev pub length_cause : ℕ → ℕ → ℕ → Option Cause
length_cause a most n =
    cond (is_list (length_code a))
    (cond (nat_lt most n) (Some TooLong) (cond (n % item_size (length_code a) == 0) None (Some Broken)))
    (cond (nat_lt (item_size (length_code a)) n) (Some TooLong) (cond (nat_lt n (item_size (length_code a))) (Some TooShort) None))

-- the value does not pass its check
abbrev pub value_cause : Option ValueFault → Option Cause
value_cause fault = option_map fault_cause fault

-- the first cause against the data: length, then value
abbrev pub first_cause : Option Cause → Option Cause → Option Cause
first_cause (Some c) v = Some c
first_cause None v = v

abbrev pub data_cause : List Block → Head → List ℕ → Option Cause
data_cause bs h bytes =
    first_cause (length_cause h.attribute.0 h.most (length bytes)) (value_cause (value_fault bs h.attribute.0 h.limits bytes))

abbrev pub cause_refusal : Option Cause → Option Refusal
cause_refusal None = None
cause_refusal (Some c) = Some (Value c)

-- refused: a keeper other than the drive, then a timing outside phase 0, then the data
abbrev pub head_refusal : ℕ → List Block → Head → List ℕ → Option Refusal
head_refusal phase bs h bytes =
    cond (not (is_drives h.keeper)) (Some Keeper)
    (cond (is_timing h.idn.0 && not (phase == 0)) (Some Timing) (cause_refusal (data_cause bs h bytes)))

abbrev pub block_refusal : ℕ → List Block → Option Block → List ℕ → Option Refusal
block_refusal phase bs None bytes = Some Unknown
block_refusal phase bs (Some b) bytes = head_refusal phase bs (head_of b) bytes

abbrev pub place_refusal : ℕ → List Block → Option ℕ → List ℕ → Option Refusal
place_refusal phase bs None bytes = Some Unknown
place_refusal phase bs (Some place) bytes = block_refusal phase bs (slice_get bs place) bytes

abbrev pub report_refusal : Machine → ℕ → List ℕ → Option Refusal
report_refusal m idn bytes = place_refusal (phase_number m.phase) m.service.blocks (place_of m.service.blocks idn) bytes

-- the text of a bit of the class 1 diagnostic: C1D and the bit in two digits; no bit, no text
abbrev pub diagnostic_text : ℕ → List ℕ
diagnostic_text row = cond (nat_lt row 16) (67 ∷ 49 ∷ 68 ∷ 32 ∷ (48 + row / 10) ∷ (48 + row % 10) ∷ []) []

-- S-0-0095 follows S-0-0011: the text of its lowest set bit
abbrev pub diagnosed : List Block → ℕ → List ℕ → List Block
diagnosed bs idn bytes =
    cond (idn == class_1_diagnostic) (accepted_at bs (place_of bs named.diagnostic_text) (diagnostic_text (count_trailing_zeros 16 (pattern bytes % 0x1_0000)))) bs

-- an accepted report: the data are replaced and valid, and the pass mark is gone
abbrev pub reported_at : List Block → Option ℕ → ℕ → List ℕ → List Block
reported_at bs None idn bytes = bs
reported_at bs (Some place) idn bytes = diagnosed (accepted bs place bytes) idn bytes

abbrev pub report_taken : Machine → ℕ → List ℕ → Machine
report_taken m idn bytes = record { address = m.address; phase = m.phase; service = record { blocks = reported_at m.service.blocks (place_of m.service.blocks idn) idn bytes; mark = false; link = m.service.link; words = m.service.words }; misses = m.misses; out = m.out }

abbrev pub report_answer : Machine → ℕ → List ℕ → Result (Unit {0}) Refusal
report_answer m idn bytes = unless_refused (report_refusal m idn bytes) tt

abbrev pub report_after : Machine → ℕ → List ℕ → Machine
report_after m idn bytes = after_unless (report_refusal m idn bytes) m (report_taken m idn bytes)
