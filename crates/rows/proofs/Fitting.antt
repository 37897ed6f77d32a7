-- Rows and their states pair by pair: whether the length in each state fits. Assumes nothing.
use Rattle.std.proofs.Common.{◌≡◌, ℕ, ◌<◌, Bool, true, false, ◌&&◌, List, [], ◌∷◌, length, sym, refl, ap, ◌∙◌, arith}
use Rattle.std.specs.Bool.{MatchBool}
use Rattle.std.specs.List.{zip, AllWithin, HoldsAt}
use Rattle.std.proofs.lemmas.List.Recursion.{and_from_places, and_fails_at}
use Rattle.block.specs.Blocks.{length_fits}
use Rattle.rows.specs.declared.row.Row.{Row}
use Rattle.rows.specs.declared.row.State.{State}
use Rattle.rows.specs.Shown.{states_fit}
use Rattle.rows.proofs.Laid.{blank_row}

abbrev pub pair_fits : Row × State → Bool
pair_fits p = length_fits p.0.attribute.0 p.0.most p.1.length

abbrev pub pairs_fit : List (Row × State) → Bool
pairs_fit [] = true
pairs_fit (p ∷ ps) = pair_fits p && pairs_fit ps

zip_fits : (rs : List Row) (ss : List State) → length ss ≡ length rs → pairs_fit (zip rs ss) ≡ states_fit rs ss
zip_fits [] [] many = refl
zip_fits [] (s ∷ ss) many = absurd (omega arith)
zip_fits (r ∷ rs) [] many = absurd (omega arith)
zip_fits (r ∷ rs) (s ∷ ss) many = ap (λ b. pair_fits (r, s) && b) (zip_fits rs ss (omega arith))

-- every pair fits, or one does not
pub pairs_say : (rs : List Row) (ss : List State) (b : Bool) → length ss ≡ length rs
    → MatchBool b (AllWithin (λ p. pair_fits p ≡ true) (zip rs ss) 0 (length (zip rs ss))) ((k : ℕ) × (k < length (zip rs ss)) × HoldsAt (λ p. pair_fits p ≡ false) (zip rs ss) k)
    → b ≡ states_fit rs ss
pairs_say rs ss true many all =
    sym (and_from_places pairs_fit pair_fits refl (λ _ _. refl) (zip rs ss) (blank_row, record { status = 0; length = 0 }) (λ i h. all i _ (omega arith) h)) ∙ zip_fits rs ss many
pairs_say rs ss false many one =
    sym (and_fails_at pairs_fit pair_fits refl (λ _ _. refl) (zip rs ss) one.0 (blank_row, record { status = 0; length = 0 }) one.1 (one.2 _)) ∙ zip_fits rs ss many
