use Rattle.block.specs.Lists.{with_status}
use Rattle.joined.proofs.Sides.{nth_first, nth_second, after_first, after_second}
use Rattle.joined.proofs.JoinedStore.set_status.Goals as goal

pub returns-in-First : goal.returns-in-First
returns-in-First g c =
    let first = g.F.Store.blocks c.args.self.now.first in
    let second = g.S.Store.blocks c.args.self.now.second in
    let later = g.F.Store.blocks c.set_status.new.self in
    let side = c.in-First.ensures in
    let here = nth_first first second c.args.place c.in-First.place side in
    let then = after_first first second c.args.place c.in-First.place (with_status c.args.status) c.set_status.result later side (cc) in
    record { value = cc; after = then.0; rest = cc then.1 }

pub returns-in-Second : goal.returns-in-Second
returns-in-Second g c =
    let first = g.F.Store.blocks c.args.self.now.first in
    let second = g.S.Store.blocks c.args.self.now.second in
    let later = g.S.Store.blocks c.set_status-in-Second.new.self in
    let side = c.in-Second.ensures in
    let here = nth_second first second c.args.place c.in-Second.place side in
    let then = after_second first second c.args.place c.in-Second.place (with_status c.args.status) c.set_status-in-Second.result later side (cc) in
    record { value = cc; after = then.0; rest = cc then.1 }
