-- The attribute of a data block, bit by bit, and the rules that it keeps. Assumes nothing.
use Rattle.std.specs.Prelude.{ℕ, ◌/◌, ◌%◌, Bool, false, cond, not, ◌&&◌, ◌||◌, ◌==◌, nat_le}
use Rattle.block.specs.Numbers.{bit}
use Rattle.block.specs.declared.attribute.LengthCode.{LengthCode}
use Rattle.block.specs.declared.attribute.LengthCode.TheVariants.{TwoBytes, FourBytes, ByteList, WordList, LongList}
use Rattle.block.specs.declared.attribute.DataType.{DataType}
use Rattle.block.specs.declared.attribute.DataType.TheVariants.{Binary, Unsigned, Signed, Hexadecimal, Text, IdnType}

-- bits 15 to 0: the conversion factor
abbrev pub factor : ℕ → ℕ
factor a = a % 0x1_0000

-- bits 18 to 16: the length code
abbrev pub length_code : ℕ → ℕ
length_code a = a / 0x1_0000 % 8

-- bit 19: the block is a command
abbrev pub is_command : ℕ → Bool
is_command a = bit 0x8_0000 a

-- bits 22 to 20: the type
abbrev pub type_code : ℕ → ℕ
type_code a = a / 0x10_0000 % 8

-- bits 27 to 24: the decimals
abbrev pub decimals : ℕ → ℕ
decimals a = a / 0x100_0000 % 16

-- bits 28, 29, 30: protected in phase 2, 3, 4
abbrev pub is_protected : ℕ → ℕ → Bool
is_protected phase a =
    cond (phase == 2) (bit 0x1000_0000 a)
    (cond (phase == 3) (bit 0x2000_0000 a) (cond (phase == 4) (bit 0x4000_0000 a) false))

-- bits 23 and 31 are 0
abbrev pub reserved_clear : ℕ → Bool
reserved_clear a = not (bit 0x80_0000 a) && not (bit 0x8000_0000 a)

-- the numbers of the length codes
abbrev pub code_number : LengthCode → ℕ
code_number TwoBytes = 1
code_number FourBytes = 2
code_number ByteList = 4
code_number WordList = 5
code_number LongList = 6

-- the length codes there are
abbrev pub known_code : ℕ → Bool
known_code c = c == 1 || (c == 2 || (c == 4 || (c == 5 || c == 6)))

-- the data are a list
abbrev pub is_list : ℕ → Bool
is_list c = nat_le 4 c

-- the bytes of one item of a list, or of fixed data
abbrev pub item_size : ℕ → ℕ
item_size c = cond (c == 4) 1 (cond (c == 1 || c == 5) 2 4)

-- the numbers of the types
abbrev pub type_number : DataType → ℕ
type_number Binary = 0
type_number Unsigned = 1
type_number Signed = 2
type_number Hexadecimal = 3
type_number Text = 4
type_number IdnType = 5

-- the types there are
abbrev pub known_type : ℕ → Bool
known_type t = nat_le t 5

-- which type goes with which length code; a command is a two-byte binary
abbrev pub type_fits_code : Bool → ℕ → ℕ → Bool
type_fits_code command t c =
    cond command (t == 0 && c == 1)
    (cond (t == 4) (c == 4)
    (cond (t == 5) (c == 1 || c == 5) (nat_le t 3 && (c == 1 || (c == 2 || (c == 5 || c == 6))))))

-- the rules of an attribute: factor not 0, reserved bits clear, type and length code go together
abbrev pub attribute_kept : ℕ → Bool
attribute_kept a =
    not (factor a == 0) && (reserved_clear a && type_fits_code (is_command a) (type_code a) (length_code a))
