use Rattle.std.proofs.Common.{sym, ◌∙◌}
use Rattle.drive.proofs.Resets.{reset_command, reset_other}
use Rattle.drive.proofs.phases.reset_at.Goals as goal

pub returns-then-is_command_at : goal.returns-then-is_command_at
returns-then-is_command_at g c =
    c.accept.ensures ∙ reset_command (g.S.Store.blocks c.args.store.now) c.args.place (sym c.if-is_command_at.ensures)

pub returns-else-is_command_at : goal.returns-else-is_command_at
returns-else-is_command_at g c = reset_other (g.S.Store.blocks c.args.store.now) c.args.place (sym c.if-is_command_at.ensures)
