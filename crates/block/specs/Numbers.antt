-- Numbers as bytes: low byte first, in words of two bytes. Assumes nothing.
use Rattle.std.specs.Prelude.{ℕ, ◌+◌, ◌*◌, ◌/◌, ◌%◌, Bool, List, [], ◌∷◌, ◌==◌, slice_index}

-- the bit pattern of fixed data: up to four bytes, low byte first; a missing byte counts 0
abbrev pub pattern : List ℕ → ℕ
pattern bytes = slice_index bytes 0 + 0x100 * slice_index bytes 1 + 0x1_0000 * slice_index bytes 2 + 0x100_0000 * slice_index bytes 3

-- the word of two bytes, low byte first
abbrev pub word : ℕ → ℕ → ℕ
word low high = low + 256 * high

-- the words that bytes stand for; an odd last byte is none
abbrev pub words_of : List ℕ → List ℕ
words_of [] = []
words_of (a ∷ []) = []
words_of (a ∷ (b ∷ bs)) = word a b ∷ words_of bs

-- bit k of n, where place is 2 to the power k
abbrev pub bit : ℕ → ℕ → Bool
bit place n = n / place % 2 == 1
