use Rattle.std.proofs.Common.{arith}
use Rattle.rows.proofs.Meaning.{set-resized, resized_past}
use Rattle.rows.proofs.change.resize.Goals as goal

pub returns-then-place-states : goal.returns-then-place-states
returns-then-place-states c = set-resized c.args.states.now c.args.place c.args.length

pub returns-else-place-states : goal.returns-else-place-states
returns-else-place-states c = resized_past c.args.states.now c.args.place c.args.length (omega arith)
