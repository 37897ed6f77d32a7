-- What the formats of the bench's lines write. Assumes nothing.
use Rattle.std.proofs.Common.{◌≡◌, ℕ, suc, ◌+◌, ◌/◌, ◌%◌, ◌^◌, ◌-◌, ◌<◌, ◌≤◌, true, false, List, [], ◌∷◌, eqb, Some, Err, Result, decimal, ◌∙◌, arith, lit<}
use Rattle.std.specs.Fmt.{padded_integral, format_spec, char_count, digits, digits_onto, digits_output, styled_digits_output, styled_decimal, ◌++?◌}
use Rattle.std.proofs.Math.Logic.{⊎_elim}
use Rattle.std.proofs.lemmas.Bool.{cases_lt, eq-eqb, ne_eqb}
use Rattle.std.proofs.lemmas.Fmt.{hex_one_digit, hex_two_digits, decimal_digit, decimal_step}
use Rattle.refusal.specs.declared.Refusal.{Refusal}
use Rattle.refusal.specs.declared.Refusal.TheVariants.{Address, Order, Attribute, Content, Demanded, Length, Addressee, PhaseZero, Buffer, Unknown, Keeper, Timing, Value, NoOrder, Foreign}
use Rattle.refusal.specs.Refusals.{refusal_number}
use Rattle.bench.specs.Lines.{hex_digit, hex_word, answer_text, shown_text}
use Rattle.bench.specs.declared.line.Answer.{Answer}

-- the first digit, and one behind others
first : (k n : ℕ) (acc : List ℕ) → n < 16 → digits_onto (suc k) 16 true n acc ≡ hex_digit n ∷ acc
first k n acc small =
    let none : eqb (n / 16) 0 ≡ true = eq-eqb (n / 16) 0 (omega arith) in
    let same : n % 16 ≡ n = omega arith in
    rw (none, same)

more : (k n : ℕ) (acc : List ℕ) → 16 ≤ n → digits_onto (suc k) 16 true n acc ≡ digits_onto k 16 true (n / 16) (hex_digit (n % 16) ∷ acc)
more k n acc large =
    let some : eqb (n / 16) 0 ≡ false = ne_eqb (n / 16) 0 (λ e. omega arith) in
    rw some

-- what `{:04X}` writes of a number
abbrev padded : ℕ → List ℕ
padded n = padded_integral (format_spec 32 0 4 4 (2 ^ 64 - 1)) false [] (digits 16 true n)

one_digit : (n : ℕ) → n < 16 → padded n ≡ hex_word n
unfolding padded_integral char_count
one_digit n small =
    let a : n / 4096 ≡ 0 = omega arith in
    let b : n / 256 % 16 ≡ 0 = omega arith in
    let c : n / 16 % 16 ≡ 0 = omega arith in
    let d : n % 16 ≡ n = omega arith in
    rw (hex_one_digit true n small, a, b, c, d)

two_digits : (n : ℕ) → 16 ≤ n → n < 256 → padded n ≡ hex_word n
unfolding padded_integral char_count
two_digits n large small =
    let a : n / 4096 ≡ 0 = omega arith in
    let b : n / 256 % 16 ≡ 0 = omega arith in
    let c : n / 16 % 16 ≡ n / 16 = omega arith in
    rw (hex_two_digits true n large small, a, b, c)

digits_3 : (n : ℕ) → 256 ≤ n → n < 4096 → digits 16 true n ≡ hex_digit (n / 16 / 16) ∷ hex_digit (n / 16 % 16) ∷ hex_digit (n % 16) ∷ []
unfolding digits
digits_3 n large small =
    more 63 n [] (omega arith) ∙ more 62 (n / 16) _ (omega arith) ∙ first 61 (n / 16 / 16) _ (omega arith)

three_digits : (n : ℕ) → 256 ≤ n → n < 4096 → padded n ≡ hex_word n
unfolding padded_integral char_count
three_digits n large small =
    let a : n / 4096 ≡ 0 = omega arith in
    let b : n / 256 % 16 ≡ n / 16 / 16 = omega arith in
    rw (digits_3 n large small, a, b)

digits_4 : (n : ℕ) → 4096 ≤ n → n < 65536 → digits 16 true n ≡ hex_digit (n / 16 / 16 / 16) ∷ hex_digit (n / 16 / 16 % 16) ∷ hex_digit (n / 16 % 16) ∷ hex_digit (n % 16) ∷ []
unfolding digits
digits_4 n large small =
    more 63 n [] (omega arith) ∙ more 62 (n / 16) _ (omega arith) ∙ more 61 (n / 16 / 16) _ (omega arith) ∙ first 60 (n / 16 / 16 / 16) _ (omega arith)

all_digits : (n : ℕ) → 4096 ≤ n → n < 65536 → padded n ≡ hex_word n
unfolding padded_integral char_count
all_digits n large small =
    let a : n / 4096 ≡ n / 16 / 16 / 16 = omega arith in
    let b : n / 256 % 16 ≡ n / 16 / 16 % 16 = omega arith in
    rw (digits_4 n large small, a, b)

pub word_written : (n : ℕ) → n < 65536 → padded n ≡ hex_word n
word_written n small =
    ⊎_elim (one_digit n) (λ from_2.
    ⊎_elim (two_digits n from_2) (λ from_3.
    ⊎_elim (three_digits n from_3) (λ from_4. all_digits n from_4 small)
    (cases_lt n 4096)) (cases_lt n 256)) (cases_lt n 16)

word_output : (d : _) {s : _} {n : ℕ} → n < 65536 → digits_output d ≡ Some (digits 16 true n) → s ≡ format_spec 32 0 4 4 (2 ^ 64 - 1)
    → styled_digits_output d s ≡ Some (hex_word n)
word_output d {n = n} small is is_s = rw (is_s, is, word_written n small)

pub answer_output : (d e : _) {s t : _} (a : Answer) → a.status < 65536 → a.info < 65536
    → digits_output d ≡ Some (digits 16 true a.status) → s ≡ format_spec 32 0 4 4 (2 ^ 64 - 1)
    → digits_output e ≡ Some (digits 16 true a.info) → t ≡ format_spec 32 0 4 4 (2 ^ 64 - 1)
    → styled_digits_output d s ++? (Some (32 ∷ []) ++? styled_digits_output e t) ≡ Some (answer_text a)
answer_output d e a p q is_d is_s is_e is_t = rw (word_output d p is_d is_s, word_output e q is_e is_t)

number_small : (r : Refusal) → refusal_number r < 100
number_small Address = lit< tt
number_small (Order idn) = lit< tt
number_small (Attribute idn) = lit< tt
number_small (Content idn) = lit< tt
number_small (Demanded idn) = lit< tt
number_small Length = lit< tt
number_small Addressee = lit< tt
number_small PhaseZero = lit< tt
number_small Buffer = lit< tt
number_small Unknown = lit< tt
number_small Keeper = lit< tt
number_small Timing = lit< tt
number_small (Value cause) = lit< tt
number_small NoOrder = lit< tt
number_small Foreign = lit< tt

-- what `{:02}` writes of a number below 100
two_written : (n : ℕ) → n < 100 → padded_integral (format_spec 32 0 4 2 (2 ^ 64 - 1)) false [] (decimal n) ≡ (48 + n / 10) ∷ (48 + n % 10) ∷ []
unfolding padded_integral char_count
two_written n small = ⊎_elim
    (λ one. let tens : n / 10 ≡ 0 = omega arith in let ones : n % 10 ≡ n = omega arith in rw (decimal_digit n one, tens, ones))
    (λ two. rw (decimal_step n two (omega arith), decimal_digit (n / 10) (omega arith)))
    (cases_lt n 10)

pub refusal_written : {s : _} {n : ℕ} (o : Result Answer Refusal) (r : Refusal) → o ≡ Err r → n ≡ refusal_number r → s ≡ format_spec 32 0 4 2 (2 ^ 64 - 1)
    → 82 ∷ 32 ∷ styled_decimal s n ≡ shown_text o
refusal_written o r is is_n is_s = rw (is, is_n, is_s, two_written (refusal_number r) (number_small r))
