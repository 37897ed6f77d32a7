-- The words by which a listing names keepers, types, lengths and validity. Assumes nothing.
use Rattle.std.specs.Prelude.{ℕ, cond, List, codes}
use Rattle.block.specs.Numbers.{bit}
use Rattle.block.specs.declared.keeper.Keeper.{Keeper}
use Rattle.block.specs.declared.keeper.Keeper.TheVariants.{Master, Drive, Channel, Nobody}
use Rattle.block.specs.declared.attribute.LengthCode.{LengthCode}
use Rattle.block.specs.declared.attribute.LengthCode.TheVariants.{TwoBytes, FourBytes, ByteList, WordList, LongList}
use Rattle.block.specs.declared.attribute.DataType.{DataType}
use Rattle.block.specs.declared.attribute.DataType.TheVariants.{Binary, Unsigned, Signed, Hexadecimal, Text, IdnType}

abbrev pub keeper_word : Keeper → List ℕ
keeper_word Master = codes "master"
keeper_word Drive = codes "drive"
keeper_word Channel = codes "channel"
keeper_word Nobody = codes "nobody"

abbrev pub type_word : DataType → List ℕ
type_word Binary = codes "binary"
type_word Unsigned = codes "unsigned"
type_word Signed = codes "signed"
type_word Hexadecimal = codes "hex"
type_word Text = codes "text"
type_word IdnType = codes "IDN"

abbrev pub length_words : LengthCode → List ℕ
length_words TwoBytes = codes "2 bytes"
length_words FourBytes = codes "4 bytes"
length_words ByteList = codes "list of 1 byte"
length_words WordList = codes "list of 2 bytes"
length_words LongList = codes "list of 4 bytes"

-- status bit 8 is set while the data are invalid
abbrev pub valid_word : ℕ → List ℕ
valid_word status = cond (bit 0x100 status) (codes "invalid") (codes "valid")
