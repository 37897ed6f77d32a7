-- One word of a write, put together from the verdicts on it. Assumes nothing.
use Rattle.std.proofs.Common.{◌≡◌, ℕ, ◌<◌, ◌≤◌, Bool, true, cond, List, Ok, Err, Some, None, Option, refl, sym, ap, ◌∙◌, arith}
use Rattle.std.specs.Option.{option_map}
use Rattle.std.proofs.lemmas.Bool.{cond-true}
use Rattle.std.proofs.lemmas.Bool.Decides.{nat_tests}
use Rattle.block.specs.declared.idn.Idn.{Idn}
use Rattle.block.specs.declared.keeper.Keeper.{Keeper}
use Rattle.block.specs.Blocks.{Block}
use Rattle.block.specs.Values.{ok_unless}
use Rattle.channel.specs.declared.code.Digit.{Digit}
use Rattle.channel.specs.Writes.{is_locked, write_rule}
use Rattle.service.specs.declared.link.Head.{Head}
use Rattle.channel.specs.declared.control.Element.TheVariants.{Content}
use Rattle.service.specs.States.{State, head_of, next_word, words_so_far, going}
use Rattle.service.specs.Steps.{finish, refused, unless_fault, write_step, with_block}
use Rattle.service.specs.Words.{written_length, written_data, pushed}

passed : (o : Option Digit) → Ok tt ≡ ok_unless o → o ≡ None
passed None e = refl
passed (Some d) e = absurd (cc)

failed : (o : Option Digit) (d : Digit) → Err d ≡ ok_unless o → o ≡ Some d
failed None d e = absurd (cc)
failed (Some x) d e = cc

module _ (phase : ℕ) (out : Option Idn) (s : State) (ahs : Bool) (place : ℕ) (h : Head) (last : Bool) (info k n : ℕ) (before : List ℕ) (locked : Bool)
    (ek : k ≡ next_word s.link.transfer 7 true) (eb : before ≡ words_so_far s.link.transfer s.words 7 true) (en : n ≡ written_length k before info)
    (elo : locked ≡ is_locked phase h.idn.0 h.attribute.0) where
  rule : Option Digit
  rule = write_rule h.keeper locked h.attribute.0 h.most n k last

  word_is : (o : Option Digit) → rule ≡ o
      → unless_fault s ahs o (cond last (finish phase out s ahs place h (written_data h.attribute.0 n (pushed before info)) info)
      (going s.blocks s.mark ahs s.link.place (record { element = Content; write = true; count = k }) (pushed before info) 0))
      ≡ write_step phase out s ahs place h last info
  unfolding rule
  word_is o e = rw (← e, ← ek, ← eb, en, elo)

  -- a word that is refused
  pub write_refused : (d : Digit) → Err d ≡ ok_unless (write_rule h.keeper locked h.attribute.0 h.most n k last)
      → refused s ahs d ≡ write_step phase out s ahs place h last info
  unfolding rule
  write_refused d e = word_is (Some d) (failed _ d e)

  -- the final word of a write
  pub write_last : (words : List ℕ) → Ok tt ≡ ok_unless (write_rule h.keeper locked h.attribute.0 h.most n k last)
      → last ≡ true → words ≡ pushed before info
      → finish phase out s ahs place h (written_data h.attribute.0 n words) info ≡ write_step phase out s ahs place h last info
  unfolding rule
  write_last words e el ew = rw ew (sym (cond-true last _ _ el) ∙ word_is None (passed _ e))

pub write_few : (keeper : Keeper) (locked : Bool) (a most n k : ℕ) (last : Bool) → None ≡ write_rule keeper locked a most n k last → n < 0x1_0000 → k ≤ 40000
write_few keeper locked a most n k last e small = grind (arith, nat_tests)

-- what is done with the head of a block
pub with_head : (s : State) (ahs : Bool) (o : Option Block) (h : Head) (F : Head → State) → Some h ≡ option_map head_of o
    → F h ≡ with_block s ahs o (λ b. F (head_of b))
with_head s ahs None h F e = absurd (cc)
with_head s ahs (Some b) h F e = let same : h ≡ head_of b = cc in ap F same
