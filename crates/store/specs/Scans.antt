-- A walk over the blocks of a store. Assumes nothing.
use Rattle.std.specs.Prelude.{List, drop}
use Rattle.block.specs.Blocks.{Block}
use Rattle.store.specs.declared.scan.Views.{Views}

-- the blocks that are still to come
abbrev pub to_come : {S : Type 0} → (S → List Block) → Views S → List Block
to_come blocks views = drop views.place (blocks views.store.now)
