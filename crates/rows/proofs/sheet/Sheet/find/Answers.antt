use Rattle.std.proofs.Common.{sym, ◌∙◌}
use Rattle.rows.proofs.Meaning.{place-blocks, match_parts}
use Rattle.rows.proofs.sheet.Sheet.find.Goals as goal

pub returns : goal.returns
returns c =
    let s = c.args.self.now in
    c.find.ensures ∙ sym (place-blocks s.plan.rows.now s.states.now s.bytes.now c.args.idn.0 (match_parts s.plan.rows.now s.states.now s.bytes.now s.matched).0)
