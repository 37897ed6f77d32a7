-- The control word of an MDT, and the elements that it names. Assumes nothing.
use Rattle.std.specs.Prelude.{ℕ, ◌*◌, ◌/◌, ◌%◌, Bool, cond, ◌==◌}
use Rattle.block.specs.Numbers.{bit}
use Rattle.channel.specs.declared.control.Element.{Element}
use Rattle.channel.specs.declared.control.Element.TheVariants.{Closing, Number, Name, Attribute, Unit, Lower, Upper, Content}

-- bit 0: the master's handshake MHS
abbrev pub handshake : ℕ → Bool
handshake c = bit 1 c

-- bit 1: the step writes
abbrev pub is_write : ℕ → Bool
is_write c = bit 2 c

-- bit 2: the last word of a transfer
abbrev pub is_last : ℕ → Bool
is_last c = bit 4 c

-- bits 5 to 3: the element
abbrev pub element_of : ℕ → ℕ
element_of c = c / 8 % 8

-- bits 15 to 6: the answer of an MDT to its caller, and the part of an AT that its caller supplies
abbrev pub upper_bits : ℕ → ℕ
upper_bits c = c / 64 * 64

-- the numbers of the elements
abbrev pub element_number : Element → ℕ
element_number Closing = 0
element_number Number = 1
element_number Name = 2
element_number Attribute = 3
element_number Unit = 4
element_number Lower = 5
element_number Upper = 6
element_number Content = 7

-- the element of a number from 0 to 7
abbrev pub element_named : ℕ → Element
element_named n =
    cond (n == 0) Closing
    (cond (n == 1) Number
    (cond (n == 2) Name
    (cond (n == 3) Attribute (cond (n == 4) Unit (cond (n == 5) Lower (cond (n == 6) Upper Content))))))
