-- The one check of a value, which writes, reports and making share. Assumes nothing.
use Rattle.std.specs.Prelude.{ℕ, Bool, true, cond, not, ◌&&◌, ◌||◌, List, [], ◌∷◌, is_some, Some, None, Option, Ok, Err, Result, ◌==◌}
use Rattle.block.specs.declared.limits.Limits.{Limits}
use Rattle.block.specs.declared.value.ValueFault.{ValueFault}
use Rattle.block.specs.declared.value.ValueFault.TheVariants.{TooLow, TooHigh, UnknownIdn}
use Rattle.block.specs.Numbers.{pattern, words_of}
use Rattle.block.specs.Attributes.{type_code}
use Rattle.block.specs.Limits.{is_below}
use Rattle.block.specs.Blocks.{Block}
use Rattle.block.specs.Lists.{place_of}

-- the cause digit of each fault, which error codes and reports carry
abbrev pub cause_of : ValueFault → ℕ
cause_of TooLow = 6
cause_of TooHigh = 7
cause_of UnknownIdn = 8

-- the value lies outside the limits: below is found before above
abbrev pub range_fault : ℕ → Option Limits → ℕ → Option ValueFault
range_fault a None x = None
range_fault a (Some l) x =
    cond (is_below a x l.lower) (Some TooLow) (cond (is_below a l.upper x) (Some TooHigh) None)

-- what may be at fault, as a result: the fault, or nothing
abbrev pub ok_unless : {E : Type 0} → Option E → Result (Unit {0}) E
ok_unless None = Ok tt
ok_unless (Some e) = Err e

-- an entry is 0 or the IDN of a block of the store
abbrev pub idn_known : List Block → ℕ → Bool
idn_known blocks e = e == 0 || is_some (place_of blocks e)

-- every entry is known
abbrev pub idns_known : List Block → List ℕ → Bool
idns_known blocks [] = true
idns_known blocks (e ∷ es) = idn_known blocks e && idns_known blocks es

-- data of an IDN type name a block that the store lacks
abbrev pub idn_fault : List Block → ℕ → List ℕ → Option ValueFault
idn_fault blocks a bytes =
    cond (type_code a == 5 && not (idns_known blocks (words_of bytes))) (Some UnknownIdn) None

-- the first fault of these data for a block of this attribute and these limits: below, above, unknown IDN
abbrev pub value_fault : List Block → ℕ → Option Limits → List ℕ → Option ValueFault
value_fault blocks a limits bytes =
    elim (range_fault a limits (pattern bytes)) [ Some f ↦ Some f | None ↦ idn_fault blocks a bytes ]
