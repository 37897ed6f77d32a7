-- A store's list of blocks: places, changes at one place, and the bounds. Assumes nothing.
use Rattle.std.specs.Prelude.{ℕ, zero, suc, Bool, true, false, cond, ◌&&◌, List, [], ◌∷◌, Some, None, Option, ◌==◌}
use Rattle.std.specs.List.{slice_get}
use Rattle.std.specs.Option.{option_map}
use Rattle.block.specs.Blocks.{Block, is_kept, length_fits, block_kept}

-- the most blocks that a store shows
abbrev pub most_blocks : ℕ
most_blocks = 510

-- the first place of an IDN
abbrev pub place_of : List Block → ℕ → Option ℕ
place_of [] idn = None
place_of (b ∷ bs) idn = cond (b.idn == idn) (Some 0) (option_map suc (place_of bs idn))

-- the block at a place that may be there
abbrev pub block_at : List Block → Option ℕ → Option Block
block_at bs None = None
block_at bs (Some place) = slice_get bs place

-- the first block of an IDN
abbrev pub block_of : List Block → ℕ → Option Block
block_of bs idn = block_at bs (place_of bs idn)

-- every block keeps the block rules
abbrev pub all_kept : List Block → Bool
all_kept [] = true
all_kept (b ∷ bs) = block_kept b && all_kept bs

-- the list with the block at one place changed
abbrev pub changed : List Block → ℕ → (Block → Block) → List Block
changed [] place f = []
changed (b ∷ bs) zero f = f b ∷ bs
changed (b ∷ bs) (suc place) f = b ∷ changed bs place f

-- a block with other data
abbrev pub with_content : List ℕ → Block → Block
with_content bytes b = record { idn = b.idn; keeper = b.keeper; status = b.status; name = b.name; attribute = b.attribute; unit = b.unit; limits = b.limits; most = b.most; content = bytes }

-- a block with another status
abbrev pub with_status : ℕ → Block → Block
with_status word b = record { idn = b.idn; keeper = b.keeper; status = word; name = b.name; attribute = b.attribute; unit = b.unit; limits = b.limits; most = b.most; content = b.content }

-- n bytes may replace the data: there is a block, somebody keeps it, and the length fits
abbrev pub may_replace : Option Block → ℕ → Bool
may_replace None n = false
may_replace (Some b) n = is_kept b.keeper && length_fits b.attribute b.most n

-- the status may be set: there is a block, and somebody keeps it
abbrev pub may_mark : Option Block → Bool
may_mark None = false
may_mark (Some b) = is_kept b.keeper
