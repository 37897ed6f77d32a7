-- The blocks of two stores as one list, and where a place of it lies. Assumes nothing.
use Rattle.std.specs.Prelude.{ℕ, ◌+◌, ◌-◌, Bool, cond, not, ◌||◌, List, [], ◌++◌, length, None, Option, nat_le, nat_lt}
use Rattle.std.specs.Option.{option_map}
use Rattle.block.specs.Blocks.{Block}
use Rattle.block.specs.Lists.{most_blocks, place_of}
use Rattle.joined.specs.declared.Side.{Side}
use Rattle.joined.specs.declared.Side.TheVariants.{First, Second}

-- both lists together are no more blocks than a store shows
abbrev pub is_whole : List Block → List Block → Bool
is_whole first second = nat_le (length first + length second) most_blocks

-- the first list and then the second, or the first alone where both together are too many
abbrev pub joined_blocks : List Block → List Block → List Block
joined_blocks first second = cond (is_whole first second) (first ++ second) first

-- the blocks that the joined list does not show: the second list where both together are too many
abbrev pub left_out : List Block → List Block → List Block
left_out first second = cond (is_whole first second) [] second

-- the place in the joined list of an IDN that the first list does not have
abbrev pub found_behind : List Block → List Block → ℕ → Option ℕ
found_behind first second idn =
    cond (is_whole first second) (option_map (λ p. length first + p) (place_of second idn)) None

-- which list a place of the joined list lies in, and at which place of it
abbrev pub side_of : List Block → List Block → ℕ → Side
side_of first second place =
    cond (nat_lt place (length first) || not (is_whole first second)) (First place) (Second (place - length first))
