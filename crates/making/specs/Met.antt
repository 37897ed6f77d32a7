-- Which demand a list of blocks does not meet. Assumes nothing.
use Rattle.std.specs.Prelude.{ℕ, Bool, true, false, not, ◌&&◌, List, length, Some, None, Option, ◌==◌, nat_le, slice_index}
use Rattle.block.specs.declared.idn.Idn.{Idn}
use Rattle.block.specs.declared.keeper.Keeper.{Keeper}
use Rattle.block.specs.declared.keeper.Keeper.TheVariants.{Master, Drive, Channel, Nobody}
use Rattle.block.specs.Attributes.{length_code, is_command, type_code, code_number, type_number}
use Rattle.block.specs.Blocks.{Block}
use Rattle.block.specs.Lists.{block_of}
use Rattle.making.specs.declared.table.Demand.{Demand}
use Rattle.making.specs.declared.table.Form.{Form}
use Rattle.making.specs.declared.table.Form.TheVariants.{Parameter, Command}
use Rattle.making.specs.declared.table.Asked.{Asked}
use Rattle.making.specs.declared.table.Asked.TheVariants.{Nothing, Zero, Idle, Room, RoomFor}
use Rattle.making.specs.Scans.{first_unfit}

-- how many bytes the data of a block have that may be there
abbrev pub bytes_in : Option Block → ℕ
bytes_in None = 0
bytes_in (Some b) = length b.content

-- how many bytes the data of an IDN have; none where there is no such block
abbrev pub bytes_of : List Block → ℕ → ℕ
bytes_of blocks n = bytes_in (block_of blocks n)

-- numbers that tell keepers apart
abbrev pub keeper_number : Keeper → ℕ
keeper_number Master = 0
keeper_number Drive = 1
keeper_number Channel = 2
keeper_number Nobody = 3

abbrev pub is_kept_by : Keeper → Block → Bool
is_kept_by keeper b = keeper_number b.keeper == keeper_number keeper

-- the data are two bytes 0
abbrev pub is_zero : List ℕ → Bool
is_zero bytes = length bytes == 2 && (slice_index bytes 0 == 0 && slice_index bytes 1 == 0)

-- data 0 and status 0, as of a command that has not been started
abbrev pub is_idle : Block → Bool
is_idle b = is_zero b.content && b.status == 0

-- an attribute of the demanded form
abbrev pub form_fits : Form → ℕ → Bool
form_fits (Parameter code kind) a =
    not (is_command a) && (length_code a == code_number code && type_code a == type_number kind)
form_fits Command a = is_command a

-- what else is asked of a demanded block
abbrev pub asked_fits : List Block → Asked → Block → Bool
asked_fits blocks Nothing b = true
asked_fits blocks Zero b = is_zero b.content
asked_fits blocks Idle b = is_idle b
asked_fits blocks (Room n) b = nat_le n b.most
asked_fits blocks (RoomFor idn) b = nat_le (bytes_of blocks idn.0) b.most

-- a block is as a demand asks
abbrev pub meets : List Block → Demand → Block → Bool
meets blocks d b =
    is_kept_by d.keeper b && (form_fits d.form b.attribute && asked_fits blocks d.asked b)

-- a block that may be there is there, and is as a demand asks
abbrev pub met_by : List Block → Demand → Option Block → Bool
met_by blocks d None = false
met_by blocks d (Some b) = meets blocks d b

-- the demanded block is there, and is as asked
abbrev pub demand_met : List Block → Demand → Bool
demand_met blocks d = met_by blocks d (block_of blocks d.idn.0)

-- the first demand that is not met
abbrev pub first_unmet : List Block → List Demand → Option Idn
first_unmet blocks demands = first_unfit (λ d. d.idn) (demand_met blocks) demands
