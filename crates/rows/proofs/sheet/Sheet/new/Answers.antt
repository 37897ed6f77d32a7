use Rattle.std.proofs.Common.{◌∙◌}
use Rattle.rows.proofs.Sheets.{made_means}
use Rattle.rows.proofs.sheet.Sheet.new.Goals as goal

pub returns : goal.returns
returns c = c.noted.ensures.blocks ∙ made_means c.args.plan.now c.args.states.now c.args.bytes.now c.states_fit.result c.states_fit.ensures
