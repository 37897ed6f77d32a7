use Rattle.std.proofs.Common.{subst, arith}
use Rattle.std.specs.Fmt.{DisplaysOnOk}
use Rattle.bench.proofs.Texts.{answer_output}
use Rattle.bench.proofs.line.AnswerDisplay.fmt.Goals as goal

pub returns-clause-writes : goal.returns-clause-writes
returns-clause-writes g c =
    subst (λ o. DisplaysOnOk g.W.Write.write_str_gives c.args.f.now c.write.result o c.write.new.self)
    (answer_output c.in_radix.result c.in_radix-2.result c.args.self.now (omega arith) (omega arith) c.in_radix.ensures c.laid_out.ensures c.in_radix-2.ensures c.laid_out-2.ensures)
    c.write.ensures.writes
