-- Limits: kept in the block's own encoding, compared as the type says. Assumes nothing.
use Rattle.std.specs.Prelude.{ℕ, ◌*◌, Bool, true, cond, not, ◌&&◌, ◌||◌, ℤ, pos, ◌-ℤ◌, Some, None, Option, ◌==◌, int_lt, nat_le, nat_lt}
use Rattle.block.specs.declared.limits.Limits.{Limits}
use Rattle.block.specs.Attributes.{length_code, type_code}

-- how many patterns fixed data of this attribute have: 2 to the power of 16 or 32
abbrev pub patterns : ℕ → ℕ
patterns a = cond (length_code a == 1) 0x1_0000 0x1_0000_0000

-- the value that a pattern stands for: of the signed type, the upper half are the negative numbers
abbrev pub value_of : ℕ → ℕ → ℤ
value_of a x =
    cond (type_code a == 2 && nat_le (patterns a) (2 * x)) (pos x -ℤ pos (patterns a)) (pos x)

-- x stands for a lower value than y
abbrev pub is_below : ℕ → ℕ → ℕ → Bool
is_below a x y = int_lt (value_of a x) (value_of a y)

-- only two- and four-byte data of the types 1 to 3 may have limits
abbrev pub may_have_limits : ℕ → Bool
may_have_limits a =
    (length_code a == 1 || length_code a == 2) && (nat_le 1 (type_code a) && nat_le (type_code a) 3)

-- the rules of limits: they may be there, fit the length, and the lower is not above the upper
abbrev pub limits_kept : ℕ → Option Limits → Bool
limits_kept a None = true
limits_kept a (Some l) =
    may_have_limits a
    && (nat_lt l.lower (patterns a) && (nat_lt l.upper (patterns a) && not (is_below a l.upper l.lower)))
