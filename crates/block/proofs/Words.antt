-- The words of bytes, pair by pair. Assumes nothing.
use Rattle.std.proofs.Common.{◌≡◌, ℕ, ◌+◌, ◌<◌, List, [], ◌∷◌, ◌++◌, length, get_or, drop, refl, ap, ◌∙◌, arith}
use Rattle.std.proofs.lemmas.List.{drop_more, length-drop}
use Rattle.std.specs.Prelude.{slice_index}
use Rattle.block.specs.Numbers.{word, words_of}

-- a pair in front is one word more
pub words_pair : (pair rest : List ℕ) → length pair ≡ 2 → words_of (pair ++ rest) ≡ word (slice_index pair 0) (slice_index pair 1) ∷ words_of rest
words_pair [] rest h = absurd (omega (arith, h))
words_pair (a ∷ []) rest h = absurd (omega (arith, h))
words_pair (a ∷ (b ∷ [])) rest h = refl
words_pair (a ∷ (b ∷ (c ∷ cs))) rest h = absurd (omega (arith, h))

-- one word more
pub words_more : (bytes : List ℕ) (i : ℕ) → i + 1 < length bytes
    → words_of (drop i bytes) ≡ word (get_or bytes i 0) (get_or bytes (i + 1) 0) ∷ words_of (drop (i + 2) bytes)
words_more bytes i h =
    ap words_of (drop_more bytes i 0 (omega arith) ∙ ap (λ l. get_or bytes i 0 ∷ l) (drop_more bytes (i + 1) 0 h))
    ∙ ap (λ n. word (get_or bytes i 0) (get_or bytes (i + 1) 0) ∷ words_of (drop n bytes)) (omega arith)

short_words : (bytes : List ℕ) → length bytes < 2 → words_of bytes ≡ []
short_words [] h = refl
short_words (a ∷ []) h = refl
short_words (a ∷ (b ∷ bs)) h = absurd (omega arith)

-- fewer than two bytes are no word
pub words_none : (bytes : List ℕ) (i : ℕ) → length bytes < i + 2 → words_of (drop i bytes) ≡ []
words_none bytes i h = short_words (drop i bytes) (simp length-drop (omega arith))
