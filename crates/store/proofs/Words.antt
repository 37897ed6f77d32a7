-- Bytes in pairs are the words that they stand for. Assumes nothing.
use Rattle.std.proofs.Common.{◌≡◌, ℕ, ◌<◌, List, [], ◌∷◌, length, slice_index, refl, ap, ◌∙◌, subst, Bor, arith}
use Rattle.std.specs.Slice.Iter.{chunks_exact_rest, chunks_exact_size, chunks_exact_steps}
use Rattle.std.specs.declared.slice.ChunksExact.{ChunksExact}
use Rattle.std.proofs.lemmas.Iterator.{YieldsList}
use Rattle.std.proofs.lemmas.Iterator.Splits.{YieldsList-from_shown_while}
use Rattle.block.specs.Numbers.{word, words_of}
use Rattle.block.proofs.Words.{words_pair}

no_words : (bytes : List ℕ) → length bytes < 2 → length (words_of bytes) ≡ 0
no_words [] h = refl
no_words (a ∷ []) h = refl
no_words (a ∷ (b ∷ bs)) h = absurd (omega arith)

-- the word of a pair that `chunks_exact(2)` gives
abbrev pub pair_word : Bor (List ℕ) → ℕ
pair_word pair = word (slice_index pair.now 0) (slice_index pair.now 1)

rest_pairs : (s : ChunksExact ℕ) → chunks_exact_size s ≡ 2 → YieldsList chunks_exact_steps pair_word s (words_of (chunks_exact_rest s))
rest_pairs s size =
    YieldsList-from_shown_while chunks_exact_steps pair_word (λ t. words_of (chunks_exact_rest t)) (λ t. chunks_exact_size t ≡ 2)
    (λ u t two step. no_words (chunks_exact_rest u) (omega (arith, two, step.1.0)))
    (λ u pair t two step. (step.0 ∙ two, ap words_of step.1.0 ∙ words_pair pair.now (chunks_exact_rest t) (step.1.1 ∙ two)))
    s size

-- the pairs are the words of the bytes
pub YieldsList-from_pairs : {s : ChunksExact ℕ} (bytes : List ℕ) → chunks_exact_rest s ≡ bytes → chunks_exact_size s ≡ 2
    → YieldsList chunks_exact_steps pair_word s (words_of bytes)
YieldsList-from_pairs {s} bytes rest size = subst (λ b. YieldsList chunks_exact_steps pair_word s (words_of b)) rest (rest_pairs s size)
