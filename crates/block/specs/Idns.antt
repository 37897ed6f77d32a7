-- An identification number (IDN): its parts, its text, and what a text says. Assumes nothing.
use Rattle.std.specs.Prelude.{ℕ, ◌+◌, ◌-◌, ◌*◌, ◌/◌, ◌%◌, Bool, cond, ◌&&◌, List, codes, [], ◌∷◌, length, Ok, Err, Result, ◌==◌, nat_le, slice_index}
use Rattle.block.specs.declared.idn.Idn.{Idn}
use Rattle.block.specs.declared.idn.IdnFault.{IdnFault}
use Rattle.block.specs.declared.idn.IdnFault.TheVariants.{Form, Set, Number}

-- bit 15: a parameter of the product, and not of the standard
abbrev pub is_product : ℕ → Bool
is_product n = nat_le 0x8000 n

-- bits 14 to 12: the parameter set
abbrev pub set_of : ℕ → ℕ
set_of n = n / 0x1000 % 8

-- bits 11 to 0: the number within the set
abbrev pub number_of : ℕ → ℕ
number_of n = n % 0x1000

-- the IDN of these parts
abbrev pub of_parts : Bool → ℕ → ℕ → ℕ
of_parts product set number = cond product 0x8000 0 + set * 0x1000 + number

-- the letter of a standard (S) or a product (P) parameter
abbrev pub letter_of : Bool → ℕ
letter_of product = cond product 80 83

-- the decimal digit d as a character
abbrev pub digit : ℕ → ℕ
digit d = 48 + d

-- a number below 10,000 in four digits
abbrev pub four_digits : ℕ → List ℕ
four_digits n = digit (n / 1000) ∷ digit (n / 100 % 10) ∷ digit (n / 10 % 10) ∷ digit (n % 10) ∷ []

-- letter, dash, set, dash, number in four digits: S-0-0127
abbrev pub idn_text : ℕ → List ℕ
idn_text n = letter_of (is_product n) ∷ 45 ∷ digit (set_of n) ∷ 45 ∷ four_digits (number_of n)

-- a character that is a decimal digit
abbrev pub is_digit : ℕ → Bool
is_digit c = nat_le 48 c && nat_le c 57

-- a character that is S or P
abbrev pub is_letter : ℕ → Bool
is_letter c = cond (c == 83) (nat_le 0 c) (c == 80)

-- a text of the form of an IDN: eight characters, each of its kind
abbrev pub has_form : List ℕ → Bool
has_form t =
    (length t == 8)
    && (is_letter (slice_index t 0)
    && (slice_index t 1 == 45
    && (is_digit (slice_index t 2)
    && (slice_index t 3 == 45
    && (is_digit (slice_index t 4) && (is_digit (slice_index t 5) && (is_digit (slice_index t 6) && is_digit (slice_index t 7))))))))

-- the value of the four digits from place 4 on
abbrev pub four_value : List ℕ → ℕ
four_value t = (slice_index t 4 - 48) * 1000 + (slice_index t 5 - 48) * 100 + (slice_index t 6 - 48) * 10 + (slice_index t 7 - 48)

-- what a text says: an IDN, or the first fault in the order form, set, number
abbrev pub idn_read : List ℕ → Result Idn IdnFault
idn_read t =
    cond (has_form t)
    (cond (nat_le (slice_index t 2) 55)
    (cond (nat_le (four_value t) 4095)
    (Ok (record { 0 = of_parts (slice_index t 0 == 80) (slice_index t 2 - 48) (four_value t) }))
    (Err Number))
    (Err Set))
    (Err Form)

-- what a fault says of the text
abbrev pub fault_text : IdnFault → List ℕ
fault_text Form = codes "not of the form S-0-0127"
fault_text Set = codes "the set is above 7"
fault_text Number = codes "the number is above 4095"
