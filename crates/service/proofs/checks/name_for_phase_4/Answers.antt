use Rattle.block.specs.Blocks.{seen}
use Rattle.service.proofs.Naming.{entries_small}
use Rattle.service.proofs.checks.name_for_phase_4.Goals as goal

pub name_invalid-requires-clause-entries_len_bound : goal.name_invalid-requires-clause-entries_len_bound
name_invalid-requires-clause-entries_len_bound g c =
    entries_small (g.S.Store.blocks c.args.store.now) 19 (seen c.in-Some.list) (g.S.Store.sound c.args.store.now) c.in-Some.ensures
