-- What a sheet shows: the blocks of its parts. Assumes nothing.
use Rattle.std.specs.Prelude.{List}
use Rattle.block.specs.Blocks.{Block}
use Rattle.rows.specs.declared.sheet.Sheet.{Sheet}
use Rattle.rows.specs.Shown.{blocks_of}

-- the blocks of a sheet
abbrev pub sheet_blocks : Sheet → List Block
sheet_blocks s = blocks_of s.plan.rows.now s.states.now s.bytes.now
