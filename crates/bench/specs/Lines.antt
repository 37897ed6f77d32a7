-- The lines of the bench, `S pp` and `D cccc iiii`, and of its answers, all in capital hexadecimal. Assumes nothing.
use Rattle.std.specs.Prelude.{ℕ, ◌+◌, ◌-◌, ◌*◌, ◌/◌, ◌%◌, Bool, cond, ◌&&◌, ◌||◌, List, [], ◌∷◌, ◌++◌, length, Some, None, Option, Ok, Err, Result, ◌==◌, nat_le, nat_lt, slice_index}
use Rattle.refusal.specs.declared.Refusal.{Refusal}
use Rattle.refusal.specs.Refusals.{refusal_number}
use Rattle.bench.specs.declared.line.Answer.{Answer}
use Rattle.bench.specs.declared.line.Line.{Line}
use Rattle.bench.specs.declared.line.Line.TheVariants.{Info, Record}

-- a capital hexadecimal digit
abbrev pub is_hex : ℕ → Bool
is_hex c = (nat_le 48 c && nat_le c 57) || (nat_le 65 c && nat_le c 70)

abbrev pub hex_value : ℕ → ℕ
hex_value c = cond (nat_le c 57) (c - 48) (c - 55)

-- two and four digits from a place on
abbrev pub are_hex_2 : List ℕ → ℕ → Bool
are_hex_2 t i = is_hex (slice_index t i) && is_hex (slice_index t (i + 1))

abbrev pub value2 : List ℕ → ℕ → ℕ
value2 t i = 16 * hex_value (slice_index t i) + hex_value (slice_index t (i + 1))

-- `S pp`
abbrev pub info_line : List ℕ → Option Line
info_line t =
    cond (length t == 4 && (slice_index t 0 == 83 && (slice_index t 1 == 32 && are_hex_2 t 2))) (Some (Info (value2 t 2))) None

-- `D cccc iiii`: letter, spaces and length, and then the digits
abbrev pub is_record_frame : List ℕ → Bool
is_record_frame t = length t == 11 && (slice_index t 0 == 68 && (slice_index t 1 == 32 && slice_index t 6 == 32))

abbrev pub record_line : List ℕ → Option Line
record_line t =
    cond (is_record_frame t)
    (cond (are_hex_2 t 2 && (are_hex_2 t 4 && (are_hex_2 t 7 && are_hex_2 t 9)))
    (Some (Record (256 * value2 t 2 + value2 t 4) (256 * value2 t 7 + value2 t 9))) None) None

-- the line that a text is: exactly its form, else none
abbrev pub line_read : List ℕ → Option Line
line_read t = elim (info_line t) [ Some l ↦ Some l | None ↦ record_line t ]

-- the digit of a value below 16, and a word in four digits
abbrev pub hex_digit : ℕ → ℕ
hex_digit v = cond (nat_lt v 10) (48 + v) (55 + v)

abbrev pub hex_word : ℕ → List ℕ
hex_word n = hex_digit (n / 4096) ∷ hex_digit (n / 256 % 16) ∷ hex_digit (n / 16 % 16) ∷ hex_digit (n % 16) ∷ []

-- `ssss iiii`: status word and info
abbrev pub answer_text : Answer → List ℕ
answer_text a = hex_word a.status ++ (32 ∷ hex_word a.info)

-- `ssss iiii`, or `R nn` with the number of the refusal in two decimal digits
abbrev pub shown_text : Result Answer Refusal → List ℕ
shown_text (Ok a) = answer_text a
shown_text (Err r) = 82 ∷ 32 ∷ (48 + refusal_number r / 10) ∷ (48 + refusal_number r % 10) ∷ []
