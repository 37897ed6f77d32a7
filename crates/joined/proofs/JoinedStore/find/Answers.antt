use Rattle.std.proofs.Common.{rules}
use Rattle.joined.proofs.Places.{place_joined}
use Rattle.joined.proofs.JoinedStore.find.Goals as goal

pub returns : goal.returns
returns g c =
    let first = g.F.Store.blocks c.args.self.now.first in
    let second = g.S.Store.blocks c.args.self.now.second in
    place_joined first second c.args.idn.0 c.find.result c.or_else.result c.find.ensures (search rules)
