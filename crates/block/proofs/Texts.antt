-- What the pieces of an IDN's text are, put together. Assumes nothing.
use Rattle.std.proofs.Common.{◌≡◌, ℕ, ◌/◌, ◌%◌, ◌^◌, ◌-◌, ◌<◌, ◌≤◌, false, List, [], ◌∷◌, ◌++◌, decimal, ap, arith}
use lib.Utf8.{encode}
use Rattle.std.specs.Fmt.{padded_integral, styled_decimal, format_spec, char_count}
use Rattle.std.proofs.Math.Logic.{⊎_elim}
use Rattle.std.proofs.lemmas.Bool.{cases_lt}
use Rattle.std.proofs.lemmas.Str.Ascii.{encode_ascii}
use Rattle.std.proofs.lemmas.Fmt.{decimal_digit, decimal_step}
use Rattle.block.specs.Idns.{letter_of, is_product, set_of, number_of, idn_text, digit, four_digits}

-- what `{:04}` writes of a number
abbrev padded : ℕ → List ℕ
padded n = padded_integral (format_spec 32 0 4 4 (2 ^ 64 - 1)) false [] (decimal n)

one_digit : (n : ℕ) → n < 10 → padded n ≡ four_digits n
unfolding padded_integral char_count
one_digit n small =
    let thousands : n / 1000 ≡ 0 = omega arith in
    let hundreds : n / 100 % 10 ≡ 0 = omega arith in
    let tens : n / 10 % 10 ≡ 0 = omega arith in
    let ones : n % 10 ≡ n = omega arith in
    rw (decimal_digit n small, thousands, hundreds, tens, ones)

two_digits : (n : ℕ) → 10 ≤ n → n < 100 → padded n ≡ four_digits n
unfolding padded_integral char_count
two_digits n large small =
    let thousands : n / 1000 ≡ 0 = omega arith in
    let hundreds : n / 100 % 10 ≡ 0 = omega arith in
    let tens : n / 10 % 10 ≡ n / 10 = omega arith in
    rw (decimal_step n large (omega arith), decimal_digit (n / 10) (omega arith), thousands, hundreds, tens)

three_digits : (n : ℕ) → 100 ≤ n → n < 1000 → padded n ≡ four_digits n
unfolding padded_integral char_count
three_digits n large small =
    let thousands : n / 1000 ≡ 0 = omega arith in
    let hundreds : n / 100 % 10 ≡ n / 10 / 10 = omega arith in
    rw (decimal_step n (omega arith) (omega arith), decimal_step (n / 10) (omega arith) (omega arith), decimal_digit (n / 10 / 10) (omega arith), thousands, hundreds)

all_digits : (n : ℕ) → 1000 ≤ n → n < 10000 → padded n ≡ four_digits n
unfolding padded_integral char_count
all_digits n large small =
    let thousands : n / 1000 ≡ n / 10 / 10 / 10 = omega arith in
    let hundreds : n / 100 % 10 ≡ n / 10 / 10 % 10 = omega arith in
    rw (decimal_step n (omega arith) (omega arith), decimal_step (n / 10) (omega arith) (omega arith), decimal_step (n / 10 / 10) (omega arith) (omega arith), decimal_digit (n / 10 / 10 / 10) (omega arith), thousands, hundreds)

four_written : (n : ℕ) → n < 10000 → padded n ≡ four_digits n
four_written n small =
    ⊎_elim (one_digit n) (λ from_ten.
    ⊎_elim (two_digits n from_ten) (λ from_hundred.
    ⊎_elim (three_digits n from_hundred) (λ from_thousand. all_digits n from_thousand small)
    (cases_lt n 1000)) (cases_lt n 100)) (cases_lt n 10)

-- s is what the format says of the number
pub idn_written : (letter n set number : ℕ) (s : _) → letter < 128 → letter ≡ letter_of (is_product n) → set ≡ set_of n → number ≡ number_of n
    → s ≡ format_spec 32 0 4 4 (2 ^ 64 - 1)
    → encode letter ++ (45 ∷ (decimal set ++ (45 ∷ styled_decimal s number))) ≡ idn_text n
idn_written letter n set number s small is is_set is_number is_s =
    rw (is_s, is_set, is_number, encode_ascii letter small, decimal_digit (set_of n) (omega arith), four_written (number_of n) (omega arith))
    (ap (λ l. l ∷ (45 ∷ (digit (set_of n) ∷ (45 ∷ four_digits (number_of n))))) is)
