-- Procedure commands: the words that the master writes, and the status that follows. Assumes nothing.
use Rattle.std.specs.Prelude.{ℕ, Bool, true, cond, not, ◌||◌, Ok, Err, Result, ◌==◌}
use Rattle.block.specs.Named.{phase_3_check, phase_4_check}
use Rattle.channel.specs.declared.code.Digit.{Digit}
use Rattle.channel.specs.declared.code.Digit.TheVariants.{Locked, Wrong}
use Rattle.channel.specs.declared.command.CommandStatus.{CommandStatus}
use Rattle.channel.specs.declared.command.CommandStatus.TheVariants.{Idle, Done, Interrupted, UnderWay, Failed}
use Rattle.channel.specs.declared.command.CommandWord.{CommandWord}
use Rattle.channel.specs.declared.command.CommandWord.TheVariants.{Cancel, Interrupt, Start}

-- the numbers of the statuses
abbrev pub status_number : CommandStatus → ℕ
status_number Idle = 0
status_number Done = 3
status_number Interrupted = 5
status_number UnderWay = 7
status_number Failed = 15

-- the statuses there are
abbrev pub known_status : ℕ → Bool
known_status n = n == 0 || (n == 3 || (n == 5 || (n == 7 || n == 15)))

-- the numbers of the words
abbrev pub word_number : CommandWord → ℕ
word_number Cancel = 0
word_number Interrupt = 1
word_number Start = 3

-- the words there are
abbrev pub known_word : ℕ → Bool
known_word n = n == 0 || (n == 1 || n == 3)

-- the command is interrupted or under way
abbrev pub is_active : ℕ → Bool
is_active status = status == 5 || status == 7

-- the command has ended: done, or failed
abbrev pub has_ended : ℕ → Bool
has_ended status = status == 3 || status == 15

-- S-0-0127 runs in phase 2 only, S-0-0128 in phase 3 only, other commands in every phase
abbrev pub runs_in : ℕ → ℕ → Bool
runs_in idn phase = cond (idn == phase_3_check) (phase == 2) (cond (idn == phase_4_check) (phase == 3) true)

-- words 1 and 3 are shut out: the command has ended, another is active, an order is out for a command at 0, or the phase is wrong
abbrev pub is_shut : ℕ → Bool → Bool → Bool → Bool
is_shut status busy recalled runs = has_ended status || (busy || (recalled || not runs))

-- the status after a word: 0 cancels, 1 interrupts, 3 starts
abbrev pub command_rule : ℕ → ℕ → Bool → Bool → Bool → Result ℕ Digit
command_rule word status busy recalled runs =
    cond (word == 0) (Ok 0)
    (cond (word == 1 || word == 3)
    (cond (is_shut status busy recalled runs) (Err Locked) (Ok (cond (word == 1) 5 7))) (Err Wrong))
