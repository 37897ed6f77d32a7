-- A check that has put its names into its list. Assumes nothing.
use Rattle.std.proofs.Common.{◌≡◌, ℕ, Bool, true, false, cond, eqb, List, length, IfSome, MatchOption, Some, None, Option, refl, ap, ◌∙◌, arith}
use Rattle.std.specs.Option.{option_map}
use Rattle.block.specs.Blocks.{Block}
use Rattle.block.specs.Lists.{place_of}
use Rattle.service.specs.Changes.{replaced, accepted_at, status_set}
use Rattle.service.specs.Steps.{Check, check_of, checked, commanded, Stock, is_empty}
use Rattle.service.specs.Words.{word_bytes}
use Rattle.service.proofs.Naming.{no_names}

stock_is : (a b : Stock) → a.blocks ≡ b.blocks → a.mark ≡ b.mark → a ≡ b
stock_is a b e f = λ i. record { blocks = e i; mark = f i }

-- a check that has put its names into its list
pub check_ended : (o : Option Check) (bs : List Block) (mark : Bool) (place list : ℕ) (k : List ℕ) (before after : Stock)
    → Some list ≡ option_map (λ (c : Check). c.list) o → IfSome o (λ c. k ≡ word_bytes c.names)
    → after.blocks ≡ status_set (accepted_at bs (place_of bs list) k) place (cond (eqb (length k) 0) 3 15)
    → after.mark ≡ cond (eqb (length k) 0) true mark
    → MatchOption o ((true ≡ false) × (after ≡ before)) (λ c. (true ≡ true) × (after ≡ checked bs mark place c))
check_ended None bs mark place list k before after e names blocks marks = absurd (let z : ◌≡◌ {A = ℕ} 0 1 = cc in omega arith)
check_ended (Some c) bs mark place list k before after e names blocks marks =
    let same : list ≡ c.list = cc in
    let none : eqb (length k) 0 ≡ is_empty c.names = ap (λ l. eqb (length l) 0) names ∙ no_names c.names in (
      refl,
      stock_is after (checked bs mark place c)
          (blocks ∙ ap (λ t. status_set (accepted_at bs (place_of bs list) k) place (cond t 3 15)) none
          ∙ ap (λ n. status_set (accepted_at bs (place_of bs n) k) place (cond (is_empty c.names) 3 15)) same
          ∙ ap (λ l. status_set (accepted_at bs (place_of bs c.list) l) place (cond (is_empty c.names) 3 15)) names)
          (marks ∙ ap (λ t. cond t true mark) none),
    )

-- the same by what is there where the IDN is that of no check
ended_or : (o : Option Check) (bs : List Block) (mark : Bool) (place : ℕ) (after other : Stock)
    → MatchOption o ((true ≡ false) × (after ≡ other)) (λ c. (true ≡ true) × (after ≡ checked bs mark place c))
    → after ≡ elim o as (λ x. Stock) [ Some c ↦ checked bs mark place c | None ↦ other ]
ended_or None bs mark place after other e = e.1
ended_or (Some c) bs mark place after other e = e.1

-- word 3 ran a check to its end, over the blocks as they are once the data are stored
pub word_taken : (bs stored : List Block) (mark : Bool) (place idn info status list : ℕ) (bytes k : List ℕ) (after : Stock) → info ≡ 3
    → stored ≡ replaced bs place bytes
    → Some list ≡ option_map (λ (c : Check). c.list) (check_of idn stored)
    → IfSome (check_of idn stored) (λ c. k ≡ word_bytes c.names)
    → after.blocks ≡ status_set (accepted_at stored (place_of stored list) k) place (cond (eqb (length k) 0) 3 15)
    → after.mark ≡ cond (eqb (length k) 0) true mark
    → after ≡ commanded bs mark place idn bytes info status
word_taken bs stored mark place idn info status list bytes k after start same e names blocks marks =
    let over : List Block → Stock = λ x. elim (check_of idn x) as (λ o. Stock) [
      | Some c ↦ checked x mark place c
      | None ↦ record { blocks = status_set x place status; mark = mark }
    ] in
    let none : Stock = record { blocks = status_set stored place status; mark = mark } in
    let ended = check_ended (check_of idn stored) stored mark place list k none after e names blocks marks in
    rw start (ended_or (check_of idn stored) stored mark place after none ended ∙ ap over same)
