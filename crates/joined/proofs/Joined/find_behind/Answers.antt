use Rattle.std.proofs.Common.{arith}
use Rattle.joined.proofs.Places.{place_within}
use Rattle.joined.proofs.Joined.find_behind.Goals as goal

pub overflow_add-result : goal.overflow_add-result
overflow_add-result g c =
    let second = g.S.Store.blocks c.args.self.now.second in
    let found = c.in_ok-find.was in
    let within = place_within second c.args.idn.0 c.in_ok-find.field-0 (cc) in
    let few = g.F.Store.few c.args.self.now.first in
    let few-more = g.S.Store.few c.args.self.now.second in
    omega arith
