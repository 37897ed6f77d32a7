-- The IDN that a refusal for demanded blocks and commands carries. Assumes nothing.
use Rattle.std.specs.Prelude.{◌≡◌, ℕ, ◌≤◌, false, ◌⊎◌, List, Some}
use Rattle.std.specs.List.{slice_get}
use Rattle.block.specs.declared.idn.Idn.{Idn}
use Rattle.block.specs.Blocks.{Block}
use Rattle.making.specs.declared.table.Demand.{Demand}
use Rattle.making.specs.Rules.{idn_of, command_fits}
use Rattle.making.specs.Met.{demand_met}
use Rattle.making.specs.Table.{demanded}

-- the IDN of a demand that is not met
pub record UnmetDemand (blocks : List Block) (i : Idn) : Type 0 where
  pub line : ℕ
  pub demand : Demand
  pub listed : slice_get demanded line ≡ Some demand
  pub named : demand.idn ≡ i
  pub unmet : demand_met blocks demand ≡ false

-- the IDN of a command that does not fit
pub record BadCommand (blocks : List Block) (i : Idn) : Type 0 where
  pub place : ℕ
  pub block : Block
  pub shown : slice_get blocks place ≡ Some block
  pub named : idn_of block ≡ i
  pub unfit : command_fits block ≡ false

-- it is one of these, and none of these is lower
pub record Lowest (blocks : List Block) (i : Idn) : Type 0 where
  pub one : UnmetDemand blocks i ⊎ BadCommand blocks i
  pub demands : (j : Idn) → UnmetDemand blocks j → i.0 ≤ j.0
  pub commands : (j : Idn) → BadCommand blocks j → i.0 ≤ j.0
