use Rattle.std.proofs.Common.{sym, ◌∙◌}
use Rattle.joined.proofs.Places.{length_joined}
use Rattle.joined.proofs.JoinedStore.count.Goals as goal

pub returns-then-is_whole : goal.returns-then-is_whole
returns-then-is_whole g c =
    let first = g.F.Store.blocks c.args.self.now.first in
    let second = g.S.Store.blocks c.args.self.now.second in
    let both = length_joined first second (sym c.is_whole.ensures ∙ c.if-is_whole.true) in
    cc
