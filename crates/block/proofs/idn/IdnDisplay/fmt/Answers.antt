use Rattle.std.proofs.Common.{arith, rules}
use Rattle.std.proofs.Output.{has_written_of_eq}
use Rattle.block.proofs.Texts.{idn_written}
use Rattle.block.proofs.idn.IdnDisplay.fmt.Goals as goal
use Rattle.block.proofs.idn.IdnDisplay.fmt.Goals.{then-is_product, else-is_product}

pub returns-clause-writes : goal.returns-clause-writes
returns-clause-writes g c plain ok =
    has_written_of_eq _ _ _ _ _ (idn_written c.if-is_product.letter c.args.self.now.0 _ _ _ (search rules) (search rules) c.set-set.ensures (omega (arith, c.number-number.ensures)) c.laid_out.ensures) (c.write.ensures.writes plain ok)
