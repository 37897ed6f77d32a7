use Rattle.std.proofs.Common.{arith}
use Rattle.rows.proofs.Meaning.{set-marked, marked_past}
use Rattle.rows.proofs.change.mark.Goals as goal

pub returns-then-place-states : goal.returns-then-place-states
returns-then-place-states c = set-marked c.args.states.now c.args.place c.args.status

pub returns-else-place-states : goal.returns-else-place-states
returns-else-place-states c = marked_past c.args.states.now c.args.place c.args.status (omega arith)
