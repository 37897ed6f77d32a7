-- A store that the check passes has all that the rules ask. Assumes nothing.
use Rattle.std.proofs.Common.{◌≡◌, ℕ, zero, suc, ◌<◌, true, cond, not, ◌&&◌, eqb, leb, List, [], ◌∷◌, length, is_some, Some, None, Ok, Err, Option, Result, sym, refl, ap, ◌∙◌, arith}
use Rattle.std.specs.List.{slice_get}
use Rattle.std.proofs.lemmas.Bool.{and_parts, not-true, eqb-true, leb-true}
use Rattle.std.proofs.lemmas.Bool.Decides.{nat_tests}
use Rattle.block.specs.declared.idn.Idn.{Idn}
use Rattle.block.specs.declared.keeper.Keeper.{Keeper}
use Rattle.block.specs.declared.keeper.Keeper.TheVariants.{Master, Drive, Channel, Nobody}
use Rattle.block.specs.Attributes.{length_code, is_command, type_code, code_number, type_number}
use Rattle.block.specs.Blocks.{Block}
use Rattle.block.specs.Lists.{place_of, block_at}
use Rattle.block.specs.Values.{value_fault}
use Rattle.refusal.specs.declared.Refusal.{Refusal}
use Rattle.refusal.specs.declared.Refusal.TheVariants.{Address, Order, Attribute, Content, Demanded}
use Rattle.making.specs.declared.table.Demand.{Demand}
use Rattle.making.specs.declared.table.Form.{Form}
use Rattle.making.specs.declared.table.Form.TheVariants.{Parameter, Command}
use Rattle.making.specs.declared.table.Asked.{Asked}
use Rattle.making.specs.declared.table.Asked.TheVariants.{Nothing, Zero, Idle, Room, RoomFor}
use Rattle.making.specs.Making.{or_next, blocks_verdict, making_verdict}
use Rattle.making.specs.Passed.{AtRest, PassedBlock, HasForm, HasAsked, Stands, AllStand, Passed}
use Rattle.making.specs.Rules.{idn_of, address_fits, first_unordered, first_failing, attribute_fits, status_fits, valid_fits, value_fits, content_fits, command_fits, lower_of, lowest_unmet}
use Rattle.making.specs.Met.{bytes_of, bytes_in, keeper_number, is_kept_by, is_zero, is_idle, form_fits, asked_fits, meets, met_by, demand_met, first_unmet}
use Rattle.making.specs.Table.{demanded}
use Rattle.making.proofs.Scans.{none_unfit, none_below, none_swapped}

-- a rule that lets the store pass found nothing
passed_rule : (refusal : Idn → Refusal) (o : Option Idn) (next : Result (Unit {0}) Refusal) → or_next refusal o next ≡ Ok tt
    → (o ≡ None) × (next ≡ Ok tt)
passed_rule refusal None next h = (refl, h)
passed_rule refusal (Some i) next h = absurd (grind arith)

lower_none : (o p : Option Idn) → lower_of o p ≡ None → (o ≡ None) × (p ≡ None)
lower_none None p h = (refl, h)
lower_none (Some i) None h = absurd (grind arith)
lower_none (Some i) (Some j) h = absurd (grind arith)

-- the block at the place of an IDN has that IDN
place_named : (bs : List Block) (n p : ℕ) (b : Block) → place_of bs n ≡ Some p → slice_get bs p ≡ Some b → b.idn ≡ n
place_named [] n p b found at = absurd (grind arith)
place_named (c ∷ cs) n zero b found at = grind (arith, nat_tests)
place_named (c ∷ cs) n (suc p) b found at = place_named cs n p b (grind arith) at

-- where the IDNs ascend, each block is found at its own place
place_at : (before : ℕ) (bs : List Block) → first_unordered before bs ≡ None
    → (i : ℕ) (b : Block) → slice_get bs i ≡ Some b → place_of bs b.idn ≡ Some i
place_at before [] up i b at = absurd (grind arith)
place_at before (c ∷ cs) up zero b at = grind (arith, nat_tests)
place_at before (c ∷ cs) up (suc i) b at =
    let above = none_below idn_of c.idn cs (grind arith) i b at in
    let later = place_at c.idn cs (grind arith) i b at in
    grind (arith, nat_tests)

abbrev keeper_of : ℕ → Keeper
keeper_of n = cond (eqb n 0) Master (cond (eqb n 1) Drive (cond (eqb n 2) Channel Nobody))

keeper_back : (k : Keeper) → keeper_of (keeper_number k) ≡ k
keeper_back Master = refl
keeper_back Drive = refl
keeper_back Channel = refl
keeper_back Nobody = refl

same_keeper : (b : Block) (k : Keeper) → is_kept_by k b ≡ true → b.keeper ≡ k
same_keeper b k h =
    sym (keeper_back b.keeper) ∙ ap keeper_of (eqb-true (keeper_number b.keeper) (keeper_number k) h) ∙ keeper_back k

zero_bytes : (bytes : List ℕ) → is_zero bytes ≡ true → bytes ≡ 0 ∷ 0 ∷ []
zero_bytes [] h = absurd (grind arith)
zero_bytes (a ∷ []) h = absurd (grind arith)
zero_bytes (a ∷ (b ∷ [])) h = grind (arith, nat_tests)
zero_bytes (a ∷ (b ∷ (c ∷ cs))) h = absurd (grind (arith, nat_tests))

at_rest : (b : Block) → is_idle b ≡ true → AtRest b
at_rest b h =
    let parts = and_parts (is_zero b.content) (eqb b.status 0) h in
    record { content = zero_bytes b.content parts.0; status = eqb-true b.status 0 parts.1 }

none_fault : {X : Type 0} (o : Option X) → not (is_some o) ≡ true → o ≡ None
none_fault None h = refl
none_fault (Some x) h = absurd (grind arith)

-- a command that fits its rule
command_rest : (b : Block) → command_fits b ≡ true → is_command b.attribute ≡ true → (is_kept_by Master b && is_idle b) ≡ true
command_rest b h is = grind arith

module _ (bs : List Block) (b : Block) (above : 0 < b.idn) (attribute : attribute_fits b ≡ true)
    (content : content_fits bs b ≡ true) (command : command_fits b ≡ true) where
  passed_block : PassedBlock bs b
  passed_block =
      let parts = and_parts (status_fits (is_command b.attribute) b.status) (valid_fits b && value_fits bs b) content in
      let more = and_parts (valid_fits b) (value_fits bs b) parts.1 in
      record {
        idn = above;
        attribute = attribute;
        status = parts.0;
        valid = more.0;
        value = none_fault (value_fault bs b.attribute b.limits b.content) more.1;
        master = λ is. same_keeper b Master (and_parts (is_kept_by Master b) (is_idle b) (command_rest b command is)).0;
        rest = λ is. at_rest b (and_parts (is_kept_by Master b) (is_idle b) (command_rest b command is)).1;
      }

has_form_lem : (form : Form) (a : ℕ) → form_fits form a ≡ true → HasForm form a
has_form_lem (Parameter code kind) a h =
    let one = eqb (length_code a) (code_number code) in
    let two = eqb (type_code a) (type_number kind) in
    let parts = and_parts (not (is_command a)) (one && two) h in
    let more = and_parts one two parts.1 in
    (not-true (is_command a) parts.0, eqb-true (length_code a) (code_number code) more.0, eqb-true (type_code a) (type_number kind) more.1)
has_form_lem Command a h = h

has_asked : (bs : List Block) (asked : Asked) (b : Block) → asked_fits bs asked b ≡ true → HasAsked bs asked b
has_asked bs Nothing b h = tt
has_asked bs Zero b h = zero_bytes b.content h
has_asked bs Idle b h = at_rest b h
has_asked bs (Room n) b h = leb-true n b.most h
has_asked bs (RoomFor idn) b h = leb-true (bytes_of bs idn.0) b.most h

-- a demand that is met stands
module _ (bs : List Block) (d : Demand) where
  stands_at : (p : ℕ) → place_of bs d.idn.0 ≡ Some p → (b : Block) → slice_get bs p ≡ Some b → meets bs d b ≡ true → Stands bs d
  stands_at p found b shown h =
      let parts = and_parts (is_kept_by d.keeper b) (form_fits d.form b.attribute && asked_fits bs d.asked b) h in
      let more = and_parts (form_fits d.form b.attribute) (asked_fits bs d.asked b) parts.1 in
      record {
        place = p;
        block = b;
        found = found;
        shown = shown;
        named = place_named bs d.idn.0 p b found shown;
        keeper = same_keeper b d.keeper parts.0;
        form = has_form_lem d.form b.attribute more.0;
        asked = has_asked bs d.asked b more.1;
      }

  stands_by : (p : ℕ) → place_of bs d.idn.0 ≡ Some p → (o : Option Block) → slice_get bs p ≡ o → met_by bs d o ≡ true → Stands bs d
  stands_by p found None shown h = absurd (grind arith)
  stands_by p found (Some b) shown h = stands_at p found b shown h

  stands_in : (o : Option ℕ) → place_of bs d.idn.0 ≡ o → met_by bs d (block_at bs o) ≡ true → Stands bs d
  stands_in None found h = absurd (grind arith)
  stands_in (Some p) found h = stands_by p found (slice_get bs p) refl h

  pub met_stands : demand_met bs d ≡ true → Stands bs d
  met_stands h = stands_in (place_of bs d.idn.0) refl h

  -- the bytes of a demanded block are those of the block that stands
  pub stands_bytes : (s : Stands bs d) → bytes_of bs d.idn.0 ≡ length s.block.content
  stands_bytes s = ap (λ o. bytes_in (block_at bs o)) s.found ∙ ap bytes_in s.shown

all_stand : (bs : List Block) → first_unmet bs demanded ≡ None → AllStand bs
all_stand bs none =
    let at : (i : ℕ) (d : Demand) → slice_get demanded i ≡ Some d → Stands bs d = λ i d is. met_stands bs d (none_unfit (λ d. d.idn) (demand_met bs) demanded none i d is) in
    record {
      t_ncyc = at 0 _ refl;
      t_scyc = at 1 _ refl;
      t1min = at 2 _ refl;
      t5 = at 3 _ refl;
      t1 = at 4 _ refl;
      t4 = at 5 _ refl;
      record_position = at 6 _ refl;
      mdt_length = at 7 _ refl;
      class_1_diagnostic = at 8 _ refl;
      interface_status = at 9 _ refl;
      phase_4_blocks = at 10 _ refl;
      invalid_for_phase_3 = at 11 _ refl;
      invalid_for_phase_4 = at 12 _ refl;
      diagnostic_text = at 13 _ refl;
      phase_3_check = at 14 _ refl;
      phase_4_check = at 15 _ refl;
    }

address_passed : (a : ℕ) (r : Result (Unit {0}) Refusal) → cond (address_fits a) r (Err Address) ≡ Ok tt
    → (address_fits a ≡ true) × (r ≡ Ok tt)
address_passed a r h = grind arith

-- all that is known of a store that passed
pub making_passed : (address : ℕ) (blocks : List Block) → making_verdict address blocks ≡ Ok tt → Passed address blocks
unfolding making_verdict
making_passed a bs ok =
    let address = address_passed a (blocks_verdict bs) ok in
    let ends = and_parts (leb 1 a) (leb a 254) address.0 in
    let order = passed_rule Order (first_unordered 0 bs) _ address.1 in
    let attribute = passed_rule Attribute (first_failing attribute_fits bs) _ order.1 in
    let content = passed_rule Content (first_failing (content_fits bs) bs) _ attribute.1 in
    let lowest = passed_rule Demanded (lowest_unmet bs) _ content.1 in
    let unmet = lower_none (first_unmet bs demanded) (first_failing command_fits bs) lowest.0 in
    record {
      above = leb-true 1 a ends.0;
      below = leb-true a 254 ends.1;
      order = none_swapped idn_of 0 bs order.0;
      found = place_at 0 bs order.0;
      each = λ i b at. passed_block bs b (none_below idn_of 0 bs order.0 i b at) (none_unfit idn_of attribute_fits bs attribute.0 i b at) (none_unfit idn_of (content_fits bs) bs content.0 i b at) (none_unfit idn_of command_fits bs unmet.1 i b at);
      demanded = all_stand bs unmet.0;
    }
