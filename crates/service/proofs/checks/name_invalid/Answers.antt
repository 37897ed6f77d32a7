use Rattle.std.proofs.Common.{◌+◌, ◌≤◌, length, ◌∙◌, arith}
use Rattle.std.specs.Slice.Iter.{chunks_exact_rest}
use Rattle.service.specs.Words.{kept_most}
use Rattle.service.proofs.Naming.{entry_named}
use Rattle.service.proofs.checks.name_invalid.Goals as goal

pub loop-pair-preserved : goal.loop-pair-preserved
loop-pair-preserved g c =
    let step = c.in-Some.ensures.steps in
    let so_far = c.loop-pair.invariant in
    let room : length c.loop-pair.names + length (chunks_exact_rest c.loop-pair.pair-iterator) ≤ kept_most = omega (arith, so_far.1, c.requires.entries_len_bound) in
    let next = entry_named (g.S.Store.blocks c.args.store.now) c.in-Some.pair.now (chunks_exact_rest c.next.new.self) (chunks_exact_rest c.loop-pair.pair-iterator)
    c.loop-pair.names c.push_if.new.names _ c.word_at.result c.is_to_name.result (step.1.1 ∙ so_far.0) step.1.0 c.word_at.ensures c.is_to_name.ensures room c.push_if.ensures so_far.2 in
    (step.0 ∙ so_far.0, omega (arith, next.0, so_far.1), next.1)
