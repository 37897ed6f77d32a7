-- What the channel is after the reply to a step: one that is a word, or one that is an error. Assumes nothing.
use Rattle.std.specs.Prelude.{ℕ, true, false, cond, [], Some, None, Ok, Err, Option, Result}
use Rattle.channel.specs.declared.code.Digit.{Digit}
use Rattle.channel.specs.declared.code.Code.{Code}
use Rattle.channel.specs.Codes.{code_of}
use Rattle.channel.specs.Controls.{element_number}
use Rattle.service.specs.declared.link.Reply.{Reply}
use Rattle.service.specs.declared.link.Transfer.{Transfer}
use Rattle.service.specs.States.{State, ended, going}

-- a transfer ends or is dropped, or it goes on; words are kept only while a write goes on
abbrev pub gone_on : State → ℕ → Option Transfer → State
gone_on s word None = ended s.blocks s.mark s.link.ahs s.link.place false word
gone_on s word (Some t) = going s.blocks s.mark s.link.ahs s.link.place t (cond t.write s.words []) word

abbrev pub replied : State → Result Reply Code → State
replied s (Ok r) = gone_on s r.word r.goes_on
replied s (Err c) = ended s.blocks s.mark s.link.ahs s.link.place true (code_of (element_number c.element) c.digit)

-- the reply to a word that is written
abbrev pub write_replied : State → Result Reply Digit → State
write_replied s (Ok r) = gone_on s r.word r.goes_on
write_replied s (Err d) = ended s.blocks s.mark s.link.ahs s.link.place true (code_of 7 d)

-- the reply to the right "last"
abbrev pub last_replied : State → Result (Unit {0}) Digit → State
last_replied s (Ok u) = gone_on s 0 None
last_replied s (Err d) = ended s.blocks s.mark s.link.ahs s.link.place true (code_of 7 d)
