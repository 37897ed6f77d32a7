-- What is known of a store that passed the check. Assumes nothing.
use Rattle.std.specs.Prelude.{◌≡◌, ℕ, ◌<◌, ◌≤◌, true, false, List, [], ◌∷◌, Some, None}
use Rattle.std.specs.List.{slice_get}
use Rattle.block.specs.declared.attribute.LengthCode.TheVariants.{ByteList}
use Rattle.block.specs.declared.attribute.DataType.TheVariants.{Text}
use Rattle.block.specs.declared.keeper.Keeper.TheVariants.{Master, Drive, Channel, Nobody}
use Rattle.block.specs.Named as idns
use Rattle.block.specs.Attributes.{length_code, is_command, type_code, code_number, type_number, attribute_kept}
use Rattle.block.specs.Blocks.{Block}
use Rattle.block.specs.Lists.{place_of}
use Rattle.block.specs.Values.{value_fault}
use Rattle.making.specs.declared.table.Demand.{Demand}
use Rattle.making.specs.declared.table.Form.{Form}
use Rattle.making.specs.declared.table.Form.TheVariants.{Parameter, Command}
use Rattle.making.specs.declared.table.Asked.{Asked}
use Rattle.making.specs.declared.table.Asked.TheVariants.{Nothing, Zero, Idle, Room, RoomFor}
use Rattle.making.specs.Rules.{status_fits, valid_fits}
use Rattle.making.specs.Met.{bytes_of}
use Rattle.making.specs.Table.{demand, timing, bits, idn_list, command}

-- data 0 and status 0
pub record AtRest (b : Block) : Type 0 where
  pub content : b.content ≡ 0 ∷ 0 ∷ []
  pub status : b.status ≡ 0

-- a block of a store that passed
pub record PassedBlock (blocks : List Block) (b : Block) : Type 0 where
  pub idn : 0 < b.idn
  pub attribute : attribute_kept b.attribute ≡ true
  pub status : status_fits (is_command b.attribute) b.status ≡ true
  pub valid : valid_fits b ≡ true
  pub value : value_fault blocks b.attribute b.limits b.content ≡ None
  pub master : is_command b.attribute ≡ true → b.keeper ≡ Master
  pub rest : is_command b.attribute ≡ true → AtRest b

-- what the attribute of a demanded block says
abbrev pub HasForm : Form → ℕ → Type 0
HasForm (Parameter code kind) a =
    (is_command a ≡ false) × (length_code a ≡ code_number code) × (type_code a ≡ type_number kind)
HasForm Command a = is_command a ≡ true

-- what else is known of a demanded block
abbrev pub HasAsked : List Block → Asked → Block → Type 0
HasAsked blocks Nothing b = Unit {0}
HasAsked blocks Zero b = b.content ≡ 0 ∷ 0 ∷ []
HasAsked blocks Idle b = AtRest b
HasAsked blocks (Room n) b = n ≤ b.most
HasAsked blocks (RoomFor idn) b = bytes_of blocks idn.0 ≤ b.most

-- the demanded block is there, and is as asked
pub record Stands (blocks : List Block) (d : Demand) : Type 0 where
  pub place : ℕ
  pub block : Block
  pub found : place_of blocks d.idn.0 ≡ Some place
  pub shown : slice_get blocks place ≡ Some block
  pub named : block.idn ≡ d.idn.0
  pub keeper : block.keeper ≡ d.keeper
  pub form : HasForm d.form block.attribute
  pub asked : HasAsked blocks d.asked block

-- all of them, by their names
pub record AllStand (blocks : List Block) : Type 0 where
  pub t_ncyc : Stands blocks (timing idns.t_ncyc Master)
  pub t_scyc : Stands blocks (timing idns.t_scyc Master)
  pub t1min : Stands blocks (timing idns.t1min Drive)
  pub t5 : Stands blocks (timing idns.t5 Drive)
  pub t1 : Stands blocks (timing idns.t1 Master)
  pub t4 : Stands blocks (timing idns.t4 Master)
  pub record_position : Stands blocks (timing idns.record_position Master)
  pub mdt_length : Stands blocks (timing idns.mdt_length Master)
  pub class_1_diagnostic : Stands blocks (bits idns.class_1_diagnostic Drive Nothing)
  pub interface_status : Stands blocks (bits idns.interface_status Channel Zero)
  pub phase_4_blocks : Stands blocks (idn_list idns.phase_4_blocks Nobody Nothing)
  pub invalid_for_phase_3 : Stands blocks (idn_list idns.invalid_for_phase_3 Channel (Room 16))
  pub invalid_for_phase_4 : Stands blocks (idn_list idns.invalid_for_phase_4 Channel (RoomFor (record { 0 = idns.phase_4_blocks })))
  pub diagnostic_text : Stands blocks (demand idns.diagnostic_text Channel (Parameter ByteList Text) (Room 32))
  pub phase_3_check : Stands blocks (command idns.phase_3_check)
  pub phase_4_check : Stands blocks (command idns.phase_4_check)

-- an address and a store that passed
pub record Passed (address : ℕ) (blocks : List Block) : Type 0 where
  pub above : 1 ≤ address
  pub below : address ≤ 254
  pub order : (i j : ℕ) (b c : Block) → i < j → slice_get blocks i ≡ Some b → slice_get blocks j ≡ Some c → b.idn < c.idn
  pub found : (i : ℕ) (b : Block) → slice_get blocks i ≡ Some b → place_of blocks b.idn ≡ Some i
  pub each : (i : ℕ) (b : Block) → slice_get blocks i ≡ Some b → PassedBlock blocks b
  pub demanded : AllStand blocks
