-- How an element of a block is read word by word. Assumes nothing.
use Rattle.std.specs.Prelude.{ℕ, ◌+◌, ◌-◌, ◌*◌, ◌/◌, ◌%◌, Bool, cond, ◌&&◌, List, [], ◌∷◌, length, Some, None, Option, ◌==◌, nat_lt, slice_index}
use Rattle.block.specs.declared.limits.Limits.{Limits}
use Rattle.block.specs.Numbers.{pattern, word}
use Rattle.block.specs.Attributes.{length_code, is_list}
use Rattle.block.specs.Blocks.{Block}
use Rattle.channel.specs.declared.code.Digit.{Digit}
use Rattle.channel.specs.declared.code.Digit.TheVariants.{Early, Late}

-- what an element looks like: plain words of one bit pattern, or byte count, maximum and bytes
pub data Shape : Type 0 where
  plain : ℕ → ℕ → Shape
  headed : ℕ → List ℕ → Shape

-- the words of fixed data and of limits
abbrev pub fixed_words : ℕ → ℕ
fixed_words a = cond (length_code a == 1) 1 2

-- a text that is not empty
abbrev pub text_shape : ℕ → List ℕ → Option Shape
text_shape most [] = None
text_shape most (b ∷ bs) = Some (headed most (b ∷ bs))

abbrev pub lower_shape : ℕ → Option Limits → Option Shape
lower_shape a None = None
lower_shape a (Some l) = Some (plain (fixed_words a) l.lower)

abbrev pub upper_shape : ℕ → Option Limits → Option Shape
upper_shape a None = None
upper_shape a (Some l) = Some (plain (fixed_words a) l.upper)

abbrev pub content_shape : ℕ → ℕ → List ℕ → Shape
content_shape a most bytes = cond (is_list (length_code a)) (headed most bytes) (plain (fixed_words a) (pattern bytes))

-- the shape of elements 2 to 7 of a block: name, attribute, unit, lower and upper limit, operation data
abbrev pub shape_of : Block → ℕ → Option Shape
shape_of b e =
    cond (e == 2) (text_shape 60 b.name)
    (cond (e == 3) (Some (plain 2 b.attribute))
    (cond (e == 4) (text_shape 12 b.unit)
    (cond (e == 5) (lower_shape b.attribute b.limits)
    (cond (e == 6) (upper_shape b.attribute b.limits) (Some (content_shape b.attribute b.most b.content))))))

-- how many words
abbrev pub word_count : Shape → ℕ
word_count (plain words p) = words
word_count (headed most bytes) = 2 + (length bytes + 1) / 2

-- word k, from 1; a missing last byte reads 0
abbrev pub word_at : Shape → ℕ → ℕ
word_at (plain words p) k = cond (k == 1) (p % 0x1_0000) (p / 0x1_0000 % 0x1_0000)
word_at (headed most bytes) k =
    cond (k == 1) (length bytes % 0x1_0000)
    (cond (k == 2) most (word (slice_index bytes (2 * (k - 3))) (slice_index bytes (2 * (k - 3) + 1))))

-- reading word k: past the end, or "last" before the final word
abbrev pub read_fault : ℕ → ℕ → Bool → Option Digit
read_fault words k last =
    cond (nat_lt words k) (Some Late) (cond (last && nat_lt k words) (Some Early) None)
