-- What a step of the service channel may change: blocks, pass mark, channel. Assumes nothing.
use Rattle.std.specs.Prelude.{ℕ, ◌+◌, Bool, true, false, cond, ◌&&◌, List, [], Some, None, Ok, Err, Option, Result, ◌==◌}
use Rattle.std.specs.Result.{is_err}
use Rattle.block.specs.Blocks.{Block}
use Rattle.channel.specs.Controls.{element_number}
use Rattle.service.specs.declared.link.Head.{Head}
use Rattle.service.specs.declared.link.Link.{Link}
use Rattle.service.specs.declared.link.Transfer.{Transfer}
use Rattle.service.specs.declared.service.Service.{Service}

-- the channel: the handshake, the open block by its place, a transfer, and the last answer
pub record Channel : Type 0 where
  pub ahs : Bool
  pub place : Option ℕ
  pub transfer : Option Transfer
  pub error : Bool
  pub info : ℕ

-- what an answer puts into the service info: its word, or the number of a code, which is any number
abbrev pub info_of : Result ℕ ℕ → ℕ
info_of (Ok word) = word
info_of (Err code) = code

abbrev pub channel_of : Link → Channel
channel_of l = record { ahs = l.ahs; place = l.place; transfer = l.transfer; error = is_err l.answer; info = info_of l.answer }

-- the blocks of the store, the pass mark, the channel, and the bytes of the words of a write that goes on
pub record State : Type 0 where
  pub blocks : List Block
  pub mark : Bool
  pub link : Channel
  pub words : List ℕ

-- the state of a service over a store
abbrev pub viewed : {S : Type 0} → (S → List Block) → Service S → State
viewed blocks s = record { blocks = blocks s.store; mark = s.mark; link = channel_of s.link; words = s.kept }

-- what a write needs to know of a block
abbrev pub head_of : Block → Head
head_of b = record { idn = record { 0 = b.idn }; keeper = b.keeper; status = b.status; attribute = record { 0 = b.attribute }; limits = b.limits; most = b.most }

-- both true or both false
abbrev pub same : Bool → Bool → Bool
same true b = b
same false true = false
same false false = true

-- a transfer goes on with this element and direction
abbrev pub goes_on : Option Transfer → ℕ → Bool → Bool
goes_on None element write = false
goes_on (Some t) element write = element_number t.element == element && same t.write write

-- the number of its next word, from 1
abbrev pub next_word : Option Transfer → ℕ → Bool → ℕ
next_word None element write = 1
next_word (Some t) element write = cond (goes_on (Some t) element write) (t.count + 1) 1

-- its words so far
abbrev pub words_so_far : Option Transfer → List ℕ → ℕ → Bool → List ℕ
words_so_far transfer words element write = cond (goes_on transfer element write) words []

-- a step that ends or drops a transfer: none of its words is left
abbrev pub ended : List Block → Bool → Bool → Option ℕ → Bool → ℕ → State
ended blocks mark ahs place error info = record { blocks = blocks; mark = mark; link = record { ahs = ahs; place = place; transfer = None; error = error; info = info }; words = [] }

-- a step after which a transfer goes on
abbrev pub going : List Block → Bool → Bool → Option ℕ → Transfer → List ℕ → ℕ → State
going blocks mark ahs place transfer words info = record { blocks = blocks; mark = mark; link = record { ahs = ahs; place = place; transfer = Some transfer; error = false; info = info }; words = words }
