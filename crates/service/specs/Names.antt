-- What the checks S-0-0127 and S-0-0128 name, from the blocks as they stand. Assumes nothing.
use Rattle.std.specs.Prelude.{ℕ, ◌%◌, Bool, false, cond, not, ◌&&◌, List, [], ◌∷◌, Some, None, Option, ◌==◌}
use Rattle.block.specs.Numbers.{pattern, words_of}
use Rattle.block.specs.Blocks.{Block, is_invalid}
use Rattle.block.specs.Lists.{block_of}
use Rattle.block.specs.Named.{t_ncyc, t_scyc, t1min, t5, t1, t4, record_position, mdt_length, phase_4_blocks}
use Rattle.channel.specs.declared.timing.Timings.{Timings}
use Rattle.channel.specs.Timings.{timing_names}

-- the two-byte value of a block that is there and valid
abbrev pub valid_value : Option Block → Option ℕ
valid_value None = None
valid_value (Some b) = cond (is_invalid b) None (Some (pattern b.content % 0x1_0000))

-- the ring's timings, each if it is valid
abbrev pub timings_of : List Block → Timings
timings_of bs = record { ncyc = valid_value (block_of bs t_ncyc); scyc = valid_value (block_of bs t_scyc); least = valid_value (block_of bs t1min); t5 = valid_value (block_of bs t5); t1 = valid_value (block_of bs t1); t4 = valid_value (block_of bs t4); position = valid_value (block_of bs record_position); size = valid_value (block_of bs mdt_length) }

-- an entry of S-0-0019 that is not 0 and whose block is invalid
abbrev pub is_invalid_block : Option Block → Bool
is_invalid_block None = false
is_invalid_block (Some b) = is_invalid b

abbrev pub is_to_name : List Block → ℕ → Bool
is_to_name bs e = not (e == 0) && is_invalid_block (block_of bs e)

-- those entries, in order, as often as they stand there
abbrev pub invalid_among : List Block → List ℕ → List ℕ
invalid_among bs [] = []
invalid_among bs (e ∷ es) = cond (is_to_name bs e) (e ∷ invalid_among bs es) (invalid_among bs es)

-- the entries of a list of IDNs
abbrev pub entries_of : Option Block → List ℕ
entries_of None = []
entries_of (Some b) = words_of b.content

-- what S-0-0127 names
abbrev pub names_for_phase_3 : List Block → List ℕ
names_for_phase_3 bs = timing_names (timings_of bs)

-- what S-0-0128 names
abbrev pub names_for_phase_4 : List Block → List ℕ
names_for_phase_4 bs = invalid_among bs (entries_of (block_of bs phase_4_blocks))
