use Rattle.std.proofs.Common.{◌≡◌, ◌++◌, map, take, drop}
use Rattle.drive.specs.Phases.{reset_block}
use Rattle.drive.proofs.phases.reset_commands.Given as goal

-- the blocks so far are reset, the rest is as it was
abbrev pub invariant-loop-place : goal.invariant-loop-place
invariant-loop-place g l =
    g.S.Store.blocks l.store ≡ map reset_block (take l.place (g.S.Store.blocks l.initial.store)) ++ drop l.place (g.S.Store.blocks l.initial.store)
