-- The whole of a drive: address, phase, service channel over its blocks, misses, and the order that is out. Assumes nothing.
use Rattle.std.specs.Prelude.{ℕ, ◌%◌, false, List, [], Some, None, Option}
use Rattle.block.specs.declared.idn.Idn.{Idn}
use Rattle.block.specs.declared.phase.Phase.{Phase}
use Rattle.block.specs.declared.phase.Phase.TheVariants.{Zero}
use Rattle.block.specs.Numbers.{pattern}
use Rattle.block.specs.Blocks.{Block}
use Rattle.block.specs.Lists.{block_of}
use Rattle.service.specs.States.{State, Channel, viewed}
use Rattle.drive.specs.declared.drive.Drive.{Drive}
use Rattle.drive.specs.declared.drive.Misses.{Misses}

pub record Machine : Type 0 where
  pub address : ℕ
  pub phase : Phase
  pub service : State
  pub misses : Misses
  pub out : Option Idn

-- the machine that a drive over a store is
abbrev pub view : {S : Type 0} → (S → List Block) → Drive S → Machine
view blocks d = record { address = d.address; phase = d.phase; service = viewed blocks d.service; misses = d.misses; out = d.out }

-- no miss is running
abbrev pub no_miss : Misses
no_miss = record { mst = false; mdt = false }

-- a closed and empty channel, with AHS 0
abbrev pub empty_link : Channel
empty_link = record { ahs = false; place = None; transfer = None; error = false; info = 0 }

-- a drive as it is made: phase 0, no mark, miss or order
abbrev pub made : ℕ → List Block → Machine
made address blocks = record { address = address; phase = Zero; service = record { blocks = blocks; mark = false; link = empty_link; words = [] }; misses = no_miss; out = None }

-- the two-byte value of a block, or 0
abbrev pub value_of_block : Option Block → ℕ
value_of_block None = 0
value_of_block (Some b) = pattern b.content % 0x1_0000

abbrev pub value_at : List Block → ℕ → ℕ
value_at bs idn = value_of_block (block_of bs idn)
