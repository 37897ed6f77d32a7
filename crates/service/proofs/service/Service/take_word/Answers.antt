use Rattle.std.proofs.Common.{◌≡◌, rules}
use Rattle.service.specs.Changes.{replaced}
use Rattle.service.specs.States.{viewed}
use Rattle.service.specs.Steps.{stock_of}
use Rattle.service.specs.Words.{written_data}
use Rattle.service.proofs.Checking.{word_taken}
use Rattle.service.proofs.service.Service.take_word.Goals as goal

pub returns-in-Some-clause-stock : goal.returns-in-Some-clause-stock
returns-in-Some-clause-stock g c =
    let s = c.args.self.now in
    let bs = g.S.Store.blocks s.store in
    let head = c.args.target.head in
    let bytes = written_data head.attribute.0 c.args.target.n s.kept in
    let stored : g.S.Store.blocks c.replace.new.self ≡ replaced bs c.args.target.place bytes = search rules in
    let start : c.args.info ≡ 3 = search rules in
    word_taken bs (g.S.Store.blocks c.replace.new.self) s.mark c.args.target.place head.idn.0 c.args.info c.args.status c.in-Some.list.0 bytes c.run_check.new.kept
    (stock_of (viewed g.S.Store.blocks c.end_check.new.self)) start stored
    c.in-Some.ensures.list c.in-Some.ensures.names c.end_check.ensures.blocks c.end_check.ensures.mark
