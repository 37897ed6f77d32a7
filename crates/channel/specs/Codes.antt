-- The error codes of the service channel: the first digit names the element, the last the cause. Assumes nothing.
use Rattle.std.specs.Prelude.{ℕ, ◌+◌, ◌*◌}
use Rattle.channel.specs.declared.code.Digit.{Digit}
use Rattle.channel.specs.declared.code.Digit.TheVariants.{Missing, Early, Late, ReadOnly, Locked, TooLow, TooHigh, Wrong, Misused}

-- the last digit
abbrev pub digit_number : Digit → ℕ
digit_number Missing = 1
digit_number Early = 2
digit_number Late = 3
digit_number ReadOnly = 4
digit_number Locked = 5
digit_number TooLow = 6
digit_number TooHigh = 7
digit_number Wrong = 8
digit_number Misused = 9

-- the code of a cause at an element
abbrev pub code_of : ℕ → Digit → ℕ
code_of element digit = element * 0x1000 + digit_number digit
