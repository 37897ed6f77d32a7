use Rattle.std.proofs.Common.{◌≡◌, true, false, sym, ◌∙◌, ⊎_elim, arith, rules}
use Rattle.std.proofs.lemmas.Bool.{cases_Bool, ne_eqb}
use Rattle.std.proofs.lemmas.Iterator.{cases_from_all, YieldsList-from_slice, YieldsList-from_zip}
use borrow.Author.Tests.{tests}
use Rattle.rows.specs.Shown.{states_fit}
use Rattle.rows.proofs.Fitting.{pair_fits, pairs_say}
use Rattle.rows.proofs.Meaning.{states_as_many}
use Rattle.rows.proofs.shown.states_fit.Goals as goal

pub returns-then-states-plan : goal.returns-then-states-plan
returns-then-states-plan c =
    let rows = c.args.plan.now.rows.now in
    pairs_say rows c.args.states.now c.all.result (omega arith)
    (cases_from_all c.all.new.self _ _ (λ p. pair_fits p ≡ true) (λ p. pair_fits p ≡ false) c.all.ensures.ran (YieldsList-from_zip (YieldsList-from_slice rows (cc)) (YieldsList-from_slice c.args.states.now (cc))) (λ x q k. search (rules, tests)) (λ x q k. search (rules, tests)))

pub returns-else-states-plan : goal.returns-else-states-plan
returns-else-states-plan c =
    ⊎_elim
    (λ t. absurd (c.if-states-plan.false (states_as_many c.args.plan.now.rows.now c.args.states.now t)))
    (λ f. ne_eqb _ _ c.if-states-plan.false ∙ sym f)
    (cases_Bool (states_fit c.args.plan.now.rows.now c.args.states.now))
