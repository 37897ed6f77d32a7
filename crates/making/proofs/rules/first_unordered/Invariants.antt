use Rattle.std.proofs.Common.{◌≡◌}
use Rattle.store.specs.Scans.{to_come}
use Rattle.making.specs.Rules.{first_unordered}
use Rattle.making.proofs.rules.first_unordered.Given as goal

-- what is left decides
abbrev pub invariant-loop-view : goal.invariant-loop-view
invariant-loop-view g l =
    first_unordered l.before.0 (to_come g.S.Store.blocks l.view-iterator) ≡ first_unordered 0 (g.S.Store.blocks l.store)
