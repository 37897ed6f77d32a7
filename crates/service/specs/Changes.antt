-- Changes of a list of blocks as a store makes them: one part of one block, or nothing where the store refuses. Assumes nothing.
use Rattle.std.specs.Prelude.{ℕ, cond, List, length, Some, None, Option}
use Rattle.std.specs.List.{slice_get}
use Rattle.block.specs.Blocks.{Block}
use Rattle.block.specs.Lists.{changed, with_content, with_status, may_replace, may_mark}

-- other data at a place
abbrev pub replaced : List Block → ℕ → List ℕ → List Block
replaced bs place bytes =
    cond (may_replace (slice_get bs place) (length bytes)) (changed bs place (with_content bytes)) bs

-- another status at a place
abbrev pub status_set : List Block → ℕ → ℕ → List Block
status_set bs place status = cond (may_mark (slice_get bs place)) (changed bs place (with_status status)) bs

-- other data at a place, which are valid
abbrev pub accepted : List Block → ℕ → List ℕ → List Block
accepted bs place bytes = status_set (replaced bs place bytes) place 0

-- the same for the block of an IDN, if there is one
abbrev pub accepted_at : List Block → Option ℕ → List ℕ → List Block
accepted_at bs None bytes = bs
accepted_at bs (Some place) bytes = accepted bs place bytes
