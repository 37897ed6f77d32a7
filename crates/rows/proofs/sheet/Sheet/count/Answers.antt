use Rattle.std.proofs.Common.{sym}
use Rattle.rows.proofs.Meaning.{length-blocks, match_parts}
use Rattle.rows.proofs.sheet.Sheet.count.Goals as goal

pub returns : goal.returns
returns c =
    let s = c.args.self.now in
    sym (length-blocks s.plan.rows.now s.states.now s.bytes.now (match_parts s.plan.rows.now s.states.now s.bytes.now s.matched).0)
