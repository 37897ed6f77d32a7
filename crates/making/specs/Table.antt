-- The demanded blocks as a table. Assumes nothing.
use Rattle.std.specs.Prelude.{ℕ, List, [], ◌∷◌}
use Rattle.block.specs.declared.attribute.LengthCode.TheVariants.{TwoBytes, ByteList, WordList}
use Rattle.block.specs.declared.attribute.DataType.TheVariants.{Binary, Unsigned, Text, IdnType}
use Rattle.block.specs.declared.keeper.Keeper.{Keeper}
use Rattle.block.specs.declared.keeper.Keeper.TheVariants.{Master, Drive, Channel, Nobody}
use Rattle.making.specs.declared.table.Demand.{Demand}
use Rattle.making.specs.declared.table.Form.{Form}
use Rattle.making.specs.declared.table.Form.TheVariants.{Parameter, Command}
use Rattle.making.specs.declared.table.Asked.{Asked}
use Rattle.making.specs.declared.table.Asked.TheVariants.{Nothing, Zero, Idle, Room, RoomFor}
use Rattle.block.specs.Named.{t_ncyc, t_scyc, t1min, t5, t1, t4, record_position, mdt_length, class_1_diagnostic, interface_status, phase_4_blocks, invalid_for_phase_3, invalid_for_phase_4, diagnostic_text, phase_3_check, phase_4_check}

-- one line of the table
abbrev pub demand : ℕ → Keeper → Form → Asked → Demand
demand n keeper form asked = record { idn = record { 0 = n }; keeper = keeper; form = form; asked = asked }

-- a timing
abbrev pub timing : ℕ → Keeper → Demand
timing n keeper = demand n keeper (Parameter TwoBytes Unsigned) Nothing

-- two bytes of bits
abbrev pub bits : ℕ → Keeper → Asked → Demand
bits n keeper asked = demand n keeper (Parameter TwoBytes Binary) asked

-- a list of IDNs
abbrev pub idn_list : ℕ → Keeper → Asked → Demand
idn_list n keeper asked = demand n keeper (Parameter WordList IdnType) asked

-- a command that has not been started
abbrev pub command : ℕ → Demand
command n = demand n Master Command Idle

-- the demanded blocks, in the order of their IDNs
abbrev pub demanded : List Demand
demanded =
    timing t_ncyc Master
    ∷ timing t_scyc Master
    ∷ timing t1min Drive
    ∷ timing t5 Drive
    ∷ timing t1 Master
    ∷ timing t4 Master
    ∷ timing record_position Master
    ∷ timing mdt_length Master
    ∷ bits class_1_diagnostic Drive Nothing
    ∷ bits interface_status Channel Zero
    ∷ idn_list phase_4_blocks Nobody Nothing
    ∷ idn_list invalid_for_phase_3 Channel (Room 16)
    ∷ idn_list invalid_for_phase_4 Channel (RoomFor (record { 0 = phase_4_blocks }))
    ∷ demand diagnostic_text Channel (Parameter ByteList Text) (Room 32)
    ∷ command phase_3_check
    ∷ command phase_4_check
    ∷ []
