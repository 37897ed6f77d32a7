-- The rules that a store is checked by before a drive is made over it, each over all blocks. Assumes nothing.
use Rattle.std.specs.Prelude.{ℕ, ◌%◌, Bool, cond, not, ◌&&◌, ◌||◌, List, is_some, Some, None, Option, ◌==◌, nat_le, nat_lt}
use Rattle.block.specs.declared.idn.Idn.{Idn}
use Rattle.block.specs.declared.keeper.Keeper.TheVariants.{Master}
use Rattle.block.specs.Attributes.{is_command, attribute_kept}
use Rattle.block.specs.Blocks.{Block, is_invalid, is_kept}
use Rattle.block.specs.Values.{value_fault}
use Rattle.making.specs.Scans.{first_below, first_unfit}
use Rattle.making.specs.Met.{is_kept_by, is_idle, first_unmet}
use Rattle.making.specs.Table.{demanded}

-- an address that a drive may have
abbrev pub address_fits : ℕ → Bool
address_fits a = nat_le 1 a && nat_le a 254

abbrev pub idn_of : Block → Idn
idn_of b = record { 0 = b.idn }

-- the first block whose IDN is not above the one before it; the first has to be above `before`
abbrev pub first_unordered : ℕ → List Block → Option Idn
first_unordered before blocks = first_below idn_of before blocks

-- the first block that fails a test
abbrev pub first_failing : (Block → Bool) → List Block → Option Idn
first_failing test blocks = first_unfit idn_of test blocks

-- the attribute keeps its rules
abbrev pub attribute_fits : Block → Bool
attribute_fits b = attribute_kept b.attribute

-- a parameter's status has bit 8 only, a command's bits 8 and 3 to 0 only
abbrev pub status_fits : Bool → ℕ → Bool
status_fits command status =
    cond command (nat_lt status 0x200 && nat_lt (status % 0x100) 0x10) (status == 0 || status == 0x100)

-- what nobody can make valid is valid
abbrev pub valid_fits : Block → Bool
valid_fits b = is_kept b.keeper || not (is_invalid b)

-- the data pass the one check of a value, also where they are invalid
abbrev pub value_fits : List Block → Block → Bool
value_fits blocks b = not (is_some (value_fault blocks b.attribute b.limits b.content))

abbrev pub content_fits : List Block → Block → Bool
content_fits blocks b =
    status_fits (is_command b.attribute) b.status && (valid_fits b && value_fits blocks b)

-- a command is kept by the master and has not been started
abbrev pub command_fits : Block → Bool
command_fits b = not (is_command b.attribute) || (is_kept_by Master b && is_idle b)

-- the lower of two IDNs that may be there
abbrev pub lower_of : Option Idn → Option Idn → Option Idn
lower_of None o = o
lower_of (Some i) None = Some i
lower_of (Some i) (Some j) = Some (cond (nat_le i.0 j.0) i j)

-- the lowest IDN that is missing or different: of the demanded blocks, and of the commands
abbrev pub lowest_unmet : List Block → Option Idn
lowest_unmet blocks = lower_of (first_unmet blocks demanded) (first_failing command_fits blocks)
