-- The tests of a write to the operation data, at every step and in this order. Assumes nothing.
use Rattle.std.specs.Prelude.{ℕ, ◌+◌, ◌/◌, ◌%◌, Bool, true, false, cond, not, ◌&&◌, ◌||◌, Some, None, Option, ◌==◌, nat_lt}
use Rattle.block.specs.declared.keeper.Keeper.{Keeper}
use Rattle.block.specs.declared.keeper.Keeper.TheVariants.{Master, Drive, Channel, Nobody}
use Rattle.block.specs.Attributes.{length_code, is_list, item_size, is_protected}
use Rattle.block.specs.Named.{is_timing}
use Rattle.channel.specs.declared.code.Digit.{Digit}
use Rattle.channel.specs.declared.code.Digit.TheVariants.{Early, Late, ReadOnly, Locked, Wrong}
use Rattle.channel.specs.Layouts.{fixed_words}

-- the master keeps the block
abbrev pub is_masters : Keeper → Bool
is_masters Master = true
is_masters Drive = false
is_masters Channel = false
is_masters Nobody = false

-- a timing outside phase 2, or a block that is protected in this phase
abbrev pub is_locked : ℕ → ℕ → ℕ → Bool
is_locked phase idn a = (is_timing idn && not (phase == 2)) || is_protected phase a

-- the number of the final word: of fixed data, or of a list of n bytes after n and m
abbrev pub final_word : ℕ → ℕ → ℕ
final_word a n = cond (is_list (length_code a)) (2 + (n + 1) / 2) (fixed_words a)

-- word k lies past the end, or the list is longer than its maximum
abbrev pub is_too_long : ℕ → ℕ → ℕ → ℕ → Bool
is_too_long a most n k = nat_lt (final_word a n) k || (is_list (length_code a) && nat_lt most n)

-- the list's length is no whole number of items
abbrev pub is_broken : ℕ → ℕ → Bool
is_broken a n = is_list (length_code a) && not (n % item_size (length_code a) == 0)

-- the first fault of word k, where n is the list's length
abbrev pub write_rule : Keeper → Bool → ℕ → ℕ → ℕ → ℕ → Bool → Option Digit
write_rule keeper locked a most n k last =
    cond (not (is_masters keeper)) (Some ReadOnly)
    (cond locked (Some Locked)
    (cond (is_too_long a most n k) (Some Late)
    (cond (is_broken a n) (Some Wrong) (cond (last && nat_lt k (final_word a n)) (Some Early) None))))
