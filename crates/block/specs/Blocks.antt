-- A data block and the rules that every store keeps of it. Assumes nothing.
use Rattle.std.specs.Prelude.{ℕ, ◌%◌, Bool, true, false, cond, ◌&&◌, List, length, Option, ◌==◌, nat_le}
use Rattle.block.specs.declared.keeper.Keeper.{Keeper}
use Rattle.block.specs.declared.keeper.Keeper.TheVariants.{Master, Drive, Channel, Nobody}
use Rattle.block.specs.declared.limits.Limits.{Limits}
use Rattle.block.specs.declared.view.View.{View}
use Rattle.block.specs.Numbers.{bit}
use Rattle.block.specs.Attributes.{length_code, known_code, is_list, item_size}
use Rattle.block.specs.Limits.{limits_kept}

-- one data block; most is the maximum m of a list in bytes, content the bytes of the operation data
pub record Block : Type 0 where
  pub idn : ℕ
  pub keeper : Keeper
  pub status : ℕ
  pub name : List ℕ
  pub attribute : ℕ
  pub unit : List ℕ
  pub limits : Option Limits
  pub most : ℕ
  pub content : List ℕ

-- the block that a view shows
abbrev pub seen : View → Block
seen v = record { idn = v.idn.0; keeper = v.keeper; status = v.status; name = v.name.now; attribute = v.attribute.0; unit = v.unit.now; limits = v.limits; most = v.most; content = v.content.now }

-- status bit 8: the data are invalid
abbrev pub is_invalid : Block → Bool
is_invalid b = bit 0x100 b.status

-- somebody may change the block
abbrev pub is_kept : Keeper → Bool
is_kept Master = true
is_kept Drive = true
is_kept Channel = true
is_kept Nobody = false

-- n bytes are a possible length of data of this attribute and maximum
abbrev pub length_fits : ℕ → ℕ → ℕ → Bool
length_fits a most n =
    known_code (length_code a)
    && cond (is_list (length_code a)) (n % item_size (length_code a) == 0 && nat_le n most)
    (n == item_size (length_code a))

-- the length code is known, and a list's maximum is a whole number of items and at most 1,020 bytes
abbrev pub maximum_fits : ℕ → ℕ → Bool
maximum_fits a most =
    known_code (length_code a)
    && cond (is_list (length_code a)) (most % item_size (length_code a) == 0 && nat_le most 1020) true

-- what does not change in a block: its length code, name, unit, maximum and limits
abbrev pub form_kept : ℕ → List ℕ → List ℕ → Option Limits → ℕ → Bool
form_kept a name unit limits most =
    maximum_fits a most && (nat_le (length name) 60 && (nat_le (length unit) 12 && limits_kept a limits))

-- the rules on length codes, lengths and limits
abbrev pub block_kept : Block → Bool
block_kept b =
    form_kept b.attribute b.name b.unit b.limits b.most
    && length_fits b.attribute b.most (length b.content)
