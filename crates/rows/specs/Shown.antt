-- What rows, their states and a byte area show together: a list of blocks. Assumes nothing.
use Rattle.std.specs.Prelude.{ℕ, zero, suc, ◌+◌, Bool, true, false, cond, ◌&&◌, List, [], ◌∷◌, length, take, drop, ◌==◌, nat_le}
use Rattle.std.proofs.Math.Seq.{paste}
use Rattle.block.specs.Attributes.{length_code}
use Rattle.block.specs.declared.keeper.Keeper.TheVariants.{Nobody}
use Rattle.block.specs.Blocks.{Block, length_fits}
use Rattle.rows.specs.declared.row.Row.{Row}
use Rattle.rows.specs.declared.row.State.{State}
use Rattle.rows.specs.Rows.{row_idn, size_of, laid_out}

-- the shortest data of a length code: none of a list, all of fixed data
abbrev pub shortest : ℕ → ℕ
shortest c = cond (c == 1) 2 (cond (c == 2) 4 0)

-- the length of a block's data; one that does not fit, which no table shows, counts as the shortest that does
abbrev pub shown_length : Row → State → ℕ
shown_length r s =
    cond (length_fits r.attribute.0 r.most s.length) s.length (shortest (length_code r.attribute.0))

-- the block of a row: its data stand at the start of its area
abbrev pub block_of : Row → State → List ℕ → Block
block_of r s bytes = record { idn = row_idn r; keeper = r.keeper; status = s.status; name = r.name.now; attribute = r.attribute.0; unit = r.unit.now; limits = r.limits; most = r.most; content = take (shown_length r s) (drop r.start bytes) }

-- the blocks of rows and their states
abbrev pub blocks_of : List Row → List State → List ℕ → List Block
blocks_of [] ss bytes = []
blocks_of (r ∷ rs) [] bytes = []
blocks_of (r ∷ rs) (s ∷ ss) bytes = block_of r s bytes ∷ blocks_of rs ss bytes

-- every row has a state, and the length in it fits
abbrev pub states_fit : List Row → List State → Bool
states_fit [] [] = true
states_fit [] (s ∷ ss) = false
states_fit (r ∷ rs) [] = false
states_fit (r ∷ rs) (s ∷ ss) = length_fits r.attribute.0 r.most s.length && states_fit rs ss

-- states and memory match the rows: a state for each, and bytes for all areas
abbrev pub is_matched : List Row → List State → List ℕ → Bool
is_matched rs ss bytes = length ss == length rs && nat_le (size_of rs) (length bytes)

-- rows that were checked show their blocks where states and memory match them, else none
abbrev pub matched_blocks : List Row → List State → List ℕ → List Block
matched_blocks rs ss bytes = cond (is_matched rs ss bytes) (blocks_of rs ss bytes) []

-- the same, where `fits` notes that the lengths in the states were found to fit
abbrev pub shown_blocks : Bool → List Row → List State → List ℕ → List Block
shown_blocks fits rs ss bytes = cond fits (matched_blocks rs ss bytes) []

-- what rows, states and memory mean: their blocks, or none where one of them breaks the rules
abbrev pub row_blocks : List Row → List State → List ℕ → List Block
row_blocks rs ss bytes =
    cond (laid_out rs && (states_fit rs ss && nat_le (size_of rs) (length bytes))) (blocks_of rs ss bytes) []

-- a block as a catalogue shows it: kept by nobody
abbrev pub nobodys : Block → Block
nobodys b = record { idn = b.idn; keeper = Nobody; status = b.status; name = b.name; attribute = b.attribute; unit = b.unit; limits = b.limits; most = b.most; content = b.content }

-- the states with another status at one place
abbrev pub marked : List State → ℕ → ℕ → List State
marked [] place word = []
marked (s ∷ ss) zero word = record { status = word; length = s.length } ∷ ss
marked (s ∷ ss) (suc place) word = s ∷ marked ss place word

-- the states with another length at one place
abbrev pub resized : List State → ℕ → ℕ → List State
resized [] place n = []
resized (s ∷ ss) zero n = record { status = s.status; length = n } ∷ ss
resized (s ∷ ss) (suc place) n = s ∷ resized ss place n

-- an area with bytes written from a place on, where they do not pass its end
abbrev pub written : List ℕ → ℕ → List ℕ → List ℕ
written area from bytes =
    cond (nat_le (from + length bytes) (length area)) (paste area from bytes (length bytes)) area
