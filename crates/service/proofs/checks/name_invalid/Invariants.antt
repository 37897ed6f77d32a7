use Rattle.std.proofs.Common.{◌≡◌, ◌+◌, ◌≤◌, ◌++◌, length}
use Rattle.std.specs.Slice.Iter.{chunks_exact_rest, chunks_exact_size}
use Rattle.block.specs.Numbers.{words_of}
use Rattle.service.specs.Names.{invalid_among}
use Rattle.service.specs.Words.{word_bytes}
use Rattle.service.proofs.checks.name_invalid.Given as goal

-- what is named so far, and then what is to be named of the rest
abbrev pub invariant-loop-pair : goal.invariant-loop-pair
invariant-loop-pair g l =
    let rest = chunks_exact_rest l.pair-iterator in
    (chunks_exact_size l.pair-iterator ≡ 2) × (length l.names + length rest ≤ length l.entries)
    × (l.names ++ word_bytes (invalid_among (g.S.Store.blocks l.store) (words_of rest)) ≡ word_bytes (invalid_among (g.S.Store.blocks l.store) (words_of l.entries)))
