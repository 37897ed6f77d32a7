-- The words of a transfer, kept as bytes in the drive's fixed memory. Assumes nothing.
use Rattle.std.specs.Prelude.{ℕ, ◌+◌, ◌/◌, ◌%◌, cond, List, [], ◌∷◌, ◌++◌, length, take, drop, ◌==◌, nat_le, slice_index}
use Rattle.block.specs.Numbers.{word}
use Rattle.block.specs.Attributes.{length_code, is_list}

-- the memory for the words of one transfer: n, m and the longest list
abbrev pub kept_most : ℕ
kept_most = 1024

-- the two bytes of a word, low byte first
abbrev pub bytes_of : ℕ → List ℕ
bytes_of w = w % 256 ∷ w / 256 ∷ []

-- one word more, as far as the memory goes
abbrev pub pushed : List ℕ → ℕ → List ℕ
pushed bytes w = cond (nat_le (length bytes + 2) kept_most) (bytes ++ bytes_of w) bytes

-- a list of words as bytes
abbrev pub word_bytes : List ℕ → List ℕ
word_bytes [] = []
word_bytes (w ∷ ws) = bytes_of w ++ word_bytes ws

-- the length n of a list that is written: its first word
abbrev pub written_length : ℕ → List ℕ → ℕ → ℕ
written_length k before info = cond (k == 1) info (word (slice_index before 0) (slice_index before 1))

-- the data in the words of a write: of a list the n bytes after n and m
abbrev pub written_data : ℕ → ℕ → List ℕ → List ℕ
written_data a n words = cond (is_list (length_code a)) (take n (drop 4 words)) words
