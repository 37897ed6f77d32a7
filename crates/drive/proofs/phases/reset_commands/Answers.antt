use Rattle.std.proofs.Common.{ap, ◌∙◌, arith}
use Rattle.block.specs.Lists.{changed}
use Rattle.drive.specs.Phases.{reset_block}
use Rattle.drive.proofs.Resets.{reset_more}
use Rattle.drive.proofs.phases.reset_commands.Goals as goal

pub loop-place-preserved : goal.loop-place-preserved
loop-place-preserved g c =
    c.reset_at.ensures ∙ ap (λ l. changed l c.loop-place.place reset_block) c.loop-place.invariant
    ∙ reset_more (g.S.Store.blocks c.args.store.now) c.loop-place.place (omega arith)
