-- One step of the service channel, case by case. Assumes nothing.
use Rattle.std.specs.Prelude.{ℕ, ◌+◌, Bool, true, false, cond, not, ◌&&◌, ◌||◌, List, [], ◌∷◌, Some, None, Ok, Err, Option, Result, ◌==◌}
use Rattle.std.specs.List.{slice_get}
use Rattle.block.specs.declared.idn.Idn.{Idn}
use Rattle.block.specs.Attributes.{is_command}
use Rattle.block.specs.Blocks.{Block}
use Rattle.block.specs.Lists.{place_of, block_of}
use Rattle.block.specs.Named.{phase_3_check, phase_4_check, invalid_for_phase_3, invalid_for_phase_4}
use Rattle.block.specs.Values.{value_fault, cause_of}
use Rattle.channel.specs.declared.control.Element.TheVariants.{Closing, Number, Name, Attribute, Unit, Lower, Upper, Content}
use Rattle.channel.specs.declared.control.Element.{Element}
use Rattle.channel.specs.declared.code.Digit.{Digit}
use Rattle.channel.specs.declared.code.Digit.TheVariants.{Missing, ReadOnly, Misused}
use Rattle.channel.specs.Controls.{handshake, is_write, is_last, element_of, element_number, element_named}
use Rattle.channel.specs.Codes.{code_of}
use Rattle.channel.specs.Layouts.{Shape, shape_of, word_count, word_at, read_fault}
use Rattle.channel.specs.Writes.{is_locked, write_rule}
use Rattle.channel.specs.Commands.{is_active, runs_in, command_rule}
use Rattle.service.specs.Words.{word_bytes, pushed, written_length, written_data}
use Rattle.service.specs.Changes.{replaced, status_set, accepted, accepted_at}
use Rattle.service.specs.Names.{names_for_phase_3, names_for_phase_4}
use Rattle.service.specs.declared.link.Head.{Head}
use Rattle.service.specs.States.{State, head_of, next_word, words_so_far, ended, going}

-- a word, unless something is wrong
abbrev pub word_unless : Option Digit → ℕ → Result ℕ Digit
word_unless (Some d) w = Err d
word_unless None w = Ok w

-- reading word k of an element
abbrev pub shape_word : Option Shape → ℕ → Bool → Result ℕ Digit
shape_word None k last = Err Missing
shape_word (Some sh) k last = word_unless (read_fault (word_count sh) k last) (word_at sh k)

abbrev pub read_word : Option Block → ℕ → ℕ → Bool → Result ℕ Digit
read_word None element k last = Err Missing
read_word (Some b) element k last = shape_word (shape_of b element) k last

-- writing elements 2 to 6: nothing there, or only to be read
abbrev pub write_refusal : Option Shape → Digit
write_refusal None = Missing
write_refusal (Some sh) = ReadOnly

-- a command that is interrupted or under way
abbrev pub is_active_command : Option Block → Bool
is_active_command None = false
is_active_command (Some b) = is_command b.attribute && is_active b.status

-- another command than the one at a place is interrupted or under way; i is the place of the first block
abbrev pub others_from : ℕ → ℕ → List Block → Bool
others_from i place [] = false
others_from i place (b ∷ bs) = (not (i == place) && is_active_command (Some b)) || others_from (i + 1) place bs

abbrev pub others_active : ℕ → List Block → Bool
others_active place bs = others_from 0 place bs

-- an order is out for a command at status 0
abbrev pub at_zero : Option Block → Bool
at_zero None = false
at_zero (Some b) = b.status == 0

abbrev pub is_recalled : List Block → Option Idn → Bool
is_recalled bs None = false
is_recalled bs (Some idn) = at_zero (block_of bs idn.0)

-- the status of a command after a word, or what is wrong with the word
abbrev pub command_verdict : ℕ → Option Idn → List Block → ℕ → Head → ℕ → Result ℕ Digit
command_verdict phase out bs place h info =
    command_rule info h.status (others_active place bs) (is_recalled bs out) (runs_in h.idn.0 phase)

-- a check that was started ends at once: it names what it found in its list
pub record Check : Type 0 where
  pub list : ℕ
  pub names : List ℕ

-- the checks: S-0-0127 names in S-0-0021, S-0-0128 in S-0-0022
abbrev pub check_of : ℕ → List Block → Option Check
check_of idn bs =
    cond (idn == phase_3_check) (Some (record { list = invalid_for_phase_3; names = names_for_phase_3 bs }))
    (cond (idn == phase_4_check) (Some (record { list = invalid_for_phase_4; names = names_for_phase_4 bs })) None)

abbrev pub is_empty : List ℕ → Bool
is_empty [] = true
is_empty (n ∷ ns) = false

-- blocks and pass mark
pub record Stock : Type 0 where
  pub blocks : List Block
  pub mark : Bool

abbrev pub stock_of : State → Stock
stock_of s = record { blocks = s.blocks; mark = s.mark }

-- after a check: no name means status 3 and the pass mark, otherwise status 15
abbrev pub checked : List Block → Bool → ℕ → Check → Stock
checked bs mark place c =
    record { blocks = status_set (accepted_at bs (place_of bs c.list) (word_bytes c.names)) place (cond (is_empty c.names) 3 15); mark = cond (is_empty c.names) true mark }

-- after a word that the command takes: its data are stored, and word 3 runs a check to its end
abbrev pub commanded : List Block → Bool → ℕ → ℕ → List ℕ → ℕ → ℕ → Stock
commanded bs mark place idn bytes info status =
    elim (cond (info == 3) (check_of idn (replaced bs place bytes)) None) [
      | Some c ↦ checked (replaced bs place bytes) mark place c
      | None ↦ record { blocks = status_set (replaced bs place bytes) place status; mark = mark }
    ]

-- a write that is refused
abbrev pub refused : State → Bool → Digit → State
refused s ahs d = ended s.blocks s.mark ahs s.link.place true (code_of 7 d)

-- a stock after an accepted write
abbrev pub taken : State → Bool → Stock → State
taken s ahs k = ended k.blocks k.mark ahs s.link.place false 0

-- the right "last" of a command
abbrev pub finish_command : ℕ → Option Idn → State → Bool → ℕ → Head → List ℕ → ℕ → State
finish_command phase out s ahs place h bytes info =
    elim (command_verdict phase out s.blocks place h info) [
      | Err d ↦ refused s ahs d
      | Ok status ↦ taken s ahs (commanded s.blocks s.mark place h.idn.0 bytes info status)
    ]

-- the right "last" of a parameter: the value is checked, stored and valid, and the pass mark is gone
abbrev pub finish_parameter : State → Bool → ℕ → Head → List ℕ → State
finish_parameter s ahs place h bytes =
    elim (value_fault s.blocks h.attribute.0 h.limits bytes) [
      | Some f ↦ ended s.blocks s.mark ahs s.link.place true (0x7000 + cause_of f)
      | None ↦ ended (accepted s.blocks place bytes) false ahs s.link.place false 0
    ]

abbrev pub finish : ℕ → Option Idn → State → Bool → ℕ → Head → List ℕ → ℕ → State
finish phase out s ahs place h bytes info =
    cond (is_command h.attribute.0) (finish_command phase out s ahs place h bytes info)
    (finish_parameter s ahs place h bytes)

-- the first fault of word k of a write, after the words before it
abbrev pub write_fault : ℕ → Head → Bool → ℕ → ℕ → List ℕ → Option Digit
write_fault phase h last info k before =
    write_rule h.keeper (is_locked phase h.idn.0 h.attribute.0) h.attribute.0 h.most (written_length k before info) k last

-- a write goes on unless it is refused
abbrev pub unless_fault : State → Bool → Option Digit → State → State
unless_fault s ahs (Some d) t = refused s ahs d
unless_fault s ahs None t = t

-- word k of a write to the operation data, after the words before it
abbrev pub write_word : ℕ → Option Idn → State → Bool → ℕ → Head → Bool → ℕ → ℕ → List ℕ → State
write_word phase out s ahs place h last info k before =
    unless_fault s ahs (write_fault phase h last info k before)
    (cond last
    (finish phase out s ahs place h (written_data h.attribute.0 (written_length k before info) (pushed before info)) info)
    (going s.blocks s.mark ahs s.link.place (record { element = Content; write = true; count = k }) (pushed before info) 0))

abbrev pub write_step : ℕ → Option Idn → State → Bool → ℕ → Head → Bool → ℕ → State
write_step phase out s ahs place h last info =
    write_word phase out s ahs place h last info (next_word s.link.transfer 7 true) (words_so_far s.link.transfer s.words 7 true)

-- a step that reads an element from 2 to 7
abbrev pub read_step : State → Bool → Element → Block → Bool → State
read_step s ahs element b last =
    elim (read_word (Some b) (element_number element) (next_word s.link.transfer (element_number element) false) last) [
      | Err d ↦ ended s.blocks s.mark ahs s.link.place true (code_of (element_number element) d)
      | Ok w ↦ cond last (ended s.blocks s.mark ahs s.link.place false w)
          (going s.blocks s.mark ahs s.link.place (record { element = element; write = false; count = next_word s.link.transfer (element_number element) false }) [] w)
    ]

-- the channel is closed
abbrev pub closed_step : State → Bool → State
closed_step s ahs = ended s.blocks s.mark ahs s.link.place true (code_of 0 Missing)

-- what needs an open block
abbrev pub with_block : State → Bool → Option Block → (Block → State) → State
with_block s ahs None act = closed_step s ahs
with_block s ahs (Some b) act = act b

abbrev pub with_open : State → Bool → Option ℕ → (ℕ → Block → State) → State
with_open s ahs None act = closed_step s ahs
with_open s ahs (Some place) act = with_block s ahs (slice_get s.blocks place) (act place)

-- element 0: reading closes, writing is misuse
abbrev pub closing_step : State → Bool → Bool → State
closing_step s ahs write =
    cond write (ended s.blocks s.mark ahs s.link.place true (code_of 0 Misused))
    (ended s.blocks s.mark ahs None false 0)

-- an opening step: the IDN is looked up; one that is not in the store closes
abbrev pub opening_step : State → Bool → ℕ → State
opening_step s ahs info =
    elim (place_of s.blocks info) [
      | None ↦ ended s.blocks s.mark ahs None true (code_of 1 Missing)
      | Some place ↦ ended s.blocks s.mark ahs (Some place) false 0
    ]

-- reading element 1: the data status
abbrev pub status_step : State → Bool → Block → State
status_step s ahs b = ended s.blocks s.mark ahs s.link.place false b.status

-- element 1: writing opens, reading gives the data status
abbrev pub number_step : State → Bool → Bool → Bool → ℕ → State
number_step s ahs write last info =
    cond write
    (cond last (opening_step s ahs info) (ended s.blocks s.mark ahs s.link.place true (code_of 1 Misused)))
    (with_open s ahs s.link.place (λ place b. status_step s ahs b))

-- a step that writes an element from 2 to 6: they are only to be read
abbrev pub refusing_step : State → Bool → Element → Block → State
refusing_step s ahs element b =
    ended s.blocks s.mark ahs s.link.place true (code_of (element_number element) (write_refusal (shape_of b (element_number element))))

-- elements 2 to 6: to be read only
abbrev pub part_step : State → Bool → Element → Bool → Bool → State
part_step s ahs element write last =
    with_open s ahs s.link.place (λ place b. cond write (refusing_step s ahs element b) (read_step s ahs element b last))

-- element 7: the operation data
abbrev pub content_step : ℕ → Option Idn → State → Bool → Bool → Bool → ℕ → State
content_step phase out s ahs write last info =
    with_open s ahs s.link.place (λ place b. cond write (write_step phase out s ahs place (head_of b) last info) (read_step s ahs Content b last))

-- one step on an element
abbrev pub step_on : ℕ → Option Idn → State → Bool → Element → Bool → Bool → ℕ → State
step_on phase out s ahs Closing write last info = closing_step s ahs write
step_on phase out s ahs Number write last info = number_step s ahs write last info
step_on phase out s ahs Name write last info = part_step s ahs Name write last
step_on phase out s ahs Attribute write last info = part_step s ahs Attribute write last
step_on phase out s ahs Unit write last info = part_step s ahs Unit write last
step_on phase out s ahs Lower write last info = part_step s ahs Lower write last
step_on phase out s ahs Upper write last info = part_step s ahs Upper write last
step_on phase out s ahs Content write last info = content_step phase out s ahs write last info

-- one step
abbrev pub step : ℕ → Option Idn → State → ℕ → ℕ → State
step phase out s control info =
    step_on phase out s (handshake control) (element_named (element_of control)) (is_write control) (is_last control) info
