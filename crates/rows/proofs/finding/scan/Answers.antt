use Rattle.std.proofs.Common.{◌≡◌, rules}
use Rattle.std.proofs.lemmas.Iterator.{IsFirst-from_position, YieldsList-from_slice}
use borrow.Author.Tests.{tests}
use Rattle.rows.specs.Rows.{row_idn}
use Rattle.rows.proofs.Ascending.{first_place}
use Rattle.rows.proofs.finding.scan.Goals as goal

pub returns : goal.returns
returns c =
    first_place c.args.rows.now c.args.idn.0 c.position.result
    (IsFirst-from_position _ _ _ (λ r. row_idn r ≡ c.args.idn.0) (λ r. row_idn r ≡ c.args.idn.0 → ⊥) c.position.ensures.ran (YieldsList-from_slice c.args.rows.now (cc)) (λ x q k. search (rules, tests)) (λ x q k. search (rules, tests)))
