use Rattle.std.proofs.Output.{has_written_of_eq}
use Rattle.bench.proofs.Texts.{refusal_written}
use Rattle.bench.proofs.line.ShownDisplay.fmt.Goals as goal

pub returns-in-Err-clause-writes : goal.returns-in-Err-clause-writes
returns-in-Err-clause-writes g c plain ok =
    has_written_of_eq _ _ _ _ _ (refusal_written c.args.self.now.0 c.in-Err.refusal c.in-Err.is c.number-number.ensures c.laid_out.ensures) (c.write-in-Err.ensures.writes plain ok)
