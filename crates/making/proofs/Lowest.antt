-- In a store whose IDNs ascend, the IDN of the last rule is the lowest. Assumes nothing.
use Rattle.std.proofs.Common.{◌≡◌, ◌<◌, ◌≤◌, List, Some, None, Option, refl, ap, ◌∙◌, inl, inr, ⊎_elim, leb, arith}
use Rattle.std.proofs.lemmas.Bool.{cases_Bool, leb-true, leb-false, both_ways}
use Rattle.block.specs.declared.idn.Idn.{Idn}
use Rattle.block.specs.Blocks.{Block}
use Rattle.making.specs.Lowest.{UnmetDemand, BadCommand, Lowest}
use Rattle.making.specs.Rules.{idn_of, first_unordered, first_failing, command_fits, lower_of, lowest_unmet}
use Rattle.making.specs.Met.{demand_met, first_unmet}
use Rattle.making.specs.Table.{demanded}
use Rattle.making.proofs.Scans.{none_unfit, unfit_at, unfit_lowest}

-- both scans found nothing below what either found
module _ (bs : List Block) (up : first_unordered 0 bs ≡ None) where
  demand_is : (i : Idn) → first_unmet bs demanded ≡ Some i → UnmetDemand bs i
  demand_is i is =
      let found = unfit_at (λ d. d.idn) (demand_met bs) demanded i is in
      record { line = found.place; demand = found.item; listed = found.shown; named = found.named; unmet = found.unfit }

  command_is : (i : Idn) → first_failing command_fits bs ≡ Some i → BadCommand bs i
  command_is i is =
      let found = unfit_at idn_of command_fits bs i is in
      record { place = found.place; block = found.item; shown = found.shown; named = found.named; unfit = found.unfit }

  no_demand : first_unmet bs demanded ≡ None → (j : Idn) → UnmetDemand bs j → ⊥
  no_demand none j u = both_ways _ u.unmet (none_unfit (λ d. d.idn) (demand_met bs) demanded none u.line u.demand u.listed)

  no_command : first_failing command_fits bs ≡ None → (j : Idn) → BadCommand bs j → ⊥
  no_command none j u = both_ways _ u.unfit (none_unfit idn_of command_fits bs none u.place u.block u.shown)

  below_demands : (i : Idn) → first_unmet bs demanded ≡ Some i → (j : Idn) → UnmetDemand bs j → i.0 ≤ j.0
  below_demands i is j u =
      omega (arith, ap (λ x. x.0) u.named, unfit_lowest (λ d. d.idn) (demand_met bs) 0 demanded refl i is u.line u.demand u.listed u.unmet)

  below_commands : (i : Idn) → first_failing command_fits bs ≡ Some i → (j : Idn) → BadCommand bs j → i.0 ≤ j.0
  below_commands i is j u =
      omega (arith, ap (λ x. x.0) u.named, unfit_lowest idn_of command_fits 0 bs up i is u.place u.block u.shown u.unfit)

  lowest_of : (o p : Option Idn) → first_unmet bs demanded ≡ o → first_failing command_fits bs ≡ p
      → (i : Idn) → lower_of o p ≡ Some i → Lowest bs i
  lowest_of None p none is i found =
      record {
        one = inr (command_is i (is ∙ found));
        demands = λ j u. absurd (no_demand none j u);
        commands = below_commands i (is ∙ found);
      }
  lowest_of (Some a) None is none i found =
      record {
        one = inl (demand_is i (is ∙ found));
        demands = below_demands i (is ∙ found);
        commands = λ j u. absurd (no_command none j u);
      }
  lowest_of (Some a) (Some b) is is' i found =
      ⊎_elim
      (λ t. let at : a ≡ i = grind arith in let le : a.0 ≤ b.0 = leb-true a.0 b.0 t in record {
        one = inl (demand_is i (is ∙ ap (λ x. Some x) at));
        demands = below_demands i (is ∙ ap (λ x. Some x) at);
        commands = λ j u. omega (arith, ap (λ x. x.0) at, le, below_commands b is' j u);
      })
      (λ f. let at : b ≡ i = grind arith in let lt : b.0 < a.0 = leb-false a.0 b.0 f in record {
        one = inr (command_is i (is' ∙ ap (λ x. Some x) at));
        demands = λ j u. omega (arith, ap (λ x. x.0) at, lt, below_demands a is j u);
        commands = below_commands i (is' ∙ ap (λ x. Some x) at);
      })
      (cases_Bool (leb a.0 b.0))

  -- the IDN that the last rule gives is missing or different, and the lowest that is
  pub lowest_unmet_lem : (i : Idn) → lowest_unmet bs ≡ Some i → Lowest bs i
  lowest_unmet_lem i found = lowest_of (first_unmet bs demanded) (first_failing command_fits bs) refl refl i found
