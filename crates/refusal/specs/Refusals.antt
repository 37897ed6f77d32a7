-- The refusals of calls and the causes of a refused report, with their numbers. Assumes nothing.
use Rattle.std.specs.Prelude.{ℕ, Some, None, Option}
use Rattle.block.specs.declared.idn.Idn.{Idn}
use Rattle.block.specs.declared.value.ValueFault as fault
use Rattle.block.specs.declared.value.ValueFault.{ValueFault}
use Rattle.refusal.specs.declared.Cause.{Cause}
use Rattle.refusal.specs.declared.Cause.TheVariants.{TooShort, TooLong, TooLow, TooHigh, Broken}
use Rattle.refusal.specs.declared.Refusal.{Refusal}
use Rattle.refusal.specs.declared.Refusal.TheVariants.{Address, Order, Attribute, Content, Demanded, Length, Addressee, PhaseZero, Buffer, Unknown, Keeper, Timing, Value, NoOrder, Foreign}

-- the cause of a refused report
abbrev pub cause_number : Cause → ℕ
cause_number TooShort = 2
cause_number TooLong = 3
cause_number TooLow = 6
cause_number TooHigh = 7
cause_number Broken = 8

-- the cause that a fault of a value is
abbrev pub fault_cause : ValueFault → Cause
fault_cause fault.ValueFault.TooLow = TooLow
fault_cause fault.ValueFault.TooHigh = TooHigh
fault_cause fault.ValueFault.UnknownIdn = Broken

-- the number of a refusal
abbrev pub refusal_number : Refusal → ℕ
refusal_number Address = 1
refusal_number (Order idn) = 2
refusal_number (Attribute idn) = 3
refusal_number (Content idn) = 4
refusal_number (Demanded idn) = 5
refusal_number Length = 6
refusal_number Addressee = 7
refusal_number PhaseZero = 8
refusal_number Buffer = 9
refusal_number Unknown = 10
refusal_number Keeper = 11
refusal_number Timing = 12
refusal_number (Value cause) = 13
refusal_number NoOrder = 14
refusal_number Foreign = 15

-- the IDN that a refusal of making carries
abbrev pub refused_idn : Refusal → Option Idn
refused_idn Address = None
refused_idn (Order idn) = Some idn
refused_idn (Attribute idn) = Some idn
refused_idn (Content idn) = Some idn
refused_idn (Demanded idn) = Some idn
refused_idn Length = None
refused_idn Addressee = None
refused_idn PhaseZero = None
refused_idn Buffer = None
refused_idn Unknown = None
refused_idn Keeper = None
refused_idn Timing = None
refused_idn (Value cause) = None
refused_idn NoOrder = None
refused_idn Foreign = None
