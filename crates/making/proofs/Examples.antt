-- A smallest store that passes, and stores one step beside it that do not. Assumes nothing.
use Rattle.std.proofs.Common.{◌≡◌, ℕ, List, [], ◌∷◌, ◌++◌, None, Ok, Err, refl}
use Rattle.block.specs.declared.keeper.Keeper.{Keeper}
use Rattle.block.specs.declared.keeper.Keeper.TheVariants.{Master, Drive, Channel, Nobody}
use Rattle.block.specs.Blocks.{Block}
use Rattle.refusal.specs.declared.Refusal.TheVariants.{Address, Order, Attribute, Content, Demanded}
use Rattle.making.specs.Making.{making_verdict}
use Rattle.block.specs.Named.{t_ncyc, t_scyc, t1min, t5, t1, t4, record_position, mdt_length, class_1_diagnostic, interface_status, phase_4_blocks, invalid_for_phase_3, invalid_for_phase_4, diagnostic_text, phase_3_check, phase_4_check}

abbrev plain : ℕ → Keeper → ℕ → ℕ → ℕ → List ℕ → Block
plain n keeper status attribute most content =
    record { idn = n; keeper = keeper; status = status; name = []; attribute = attribute; unit = []; limits = None; most = most; content = content }

-- two bytes of an unsigned number, or of bits, with data 0; a command; a list of IDNs
abbrev number : ℕ → Keeper → Block
number n keeper = plain n keeper 0 0x11_0001 0 (0 ∷ 0 ∷ [])

abbrev word : ℕ → Keeper → Block
word n keeper = plain n keeper 0 0x01_0001 0 (0 ∷ 0 ∷ [])

abbrev order : ℕ → Keeper → Block
order n keeper = plain n keeper 0 0x09_0001 0 (0 ∷ 0 ∷ [])

abbrev list : ℕ → Keeper → ℕ → List ℕ → Block
list n keeper most content = plain n keeper 0 0x55_0001 most content

abbrev timings : List Block
timings =
    number t_ncyc Master
    ∷ number t_scyc Master
    ∷ number t1min Drive
    ∷ number t5 Drive
    ∷ number t1 Master
    ∷ number t4 Master
    ∷ number record_position Master
    ∷ number mdt_length Master
    ∷ []

-- the other demanded blocks, with the maximum of 0021 and that of 0022
abbrev others : ℕ → ℕ → List Block
others most3 most4 =
    word class_1_diagnostic Drive
    ∷ word interface_status Channel
    ∷ list phase_4_blocks Nobody 4 (2 ∷ 0 ∷ 10 ∷ 0 ∷ [])
    ∷ list invalid_for_phase_3 Channel most3 []
    ∷ list invalid_for_phase_4 Channel most4 []
    ∷ plain diagnostic_text Channel 0 0x44_0001 32 []
    ∷ order phase_3_check Master
    ∷ order phase_4_check Master
    ∷ []

passes : making_verdict 1 (timings ++ others 16 4) ≡ Ok tt
unfolding making_verdict
passes = refl

no_address : making_verdict 255 (timings ++ others 16 4) ≡ Err Address
unfolding making_verdict
no_address = refl

twice : making_verdict 1 (number t_ncyc Master ∷ timings ++ others 16 4) ≡ Err (Order (record { 0 = 1 }))
unfolding making_verdict
twice = refl

no_factor : making_verdict 1 (timings ++ others 16 4 ++ plain 200 Drive 0 0x11_0000 0 (0 ∷ 0 ∷ []) ∷ []) ≡ Err (Attribute (record { 0 = 200 }))
unfolding making_verdict
no_factor = refl

unknown_idn : making_verdict 1 (timings ++ others 16 4 ++ list 200 Drive 2 (4 ∷ 0 ∷ []) ∷ []) ≡ Err (Content (record { 0 = 200 }))
unfolding making_verdict
unknown_idn = refl

no_room : making_verdict 1 (timings ++ others 16 2) ≡ Err (Demanded (record { 0 = 22 }))
unfolding making_verdict
no_room = refl

-- the lower of the two
two_faults : making_verdict 1 (timings ++ others 14 4 ++ order 200 Drive ∷ []) ≡ Err (Demanded (record { 0 = 21 }))
unfolding making_verdict
two_faults = refl

foreign_command : making_verdict 1 (timings ++ others 16 4 ++ order 200 Drive ∷ []) ≡ Err (Demanded (record { 0 = 200 }))
unfolding making_verdict
foreign_command = refl
