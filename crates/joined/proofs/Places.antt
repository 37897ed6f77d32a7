-- A place that is found lies within the list; what two lists are together. Assumes nothing.
use Rattle.std.proofs.Common.{◌≡◌, ℕ, ◌+◌, ◌-◌, ◌<◌, true, List, [], ◌∷◌, length, None, Some, Option, sym, ap, ◌∙◌, length-append, arith}
use Rattle.std.specs.Option.{MatchOption, option_map}
use Rattle.std.proofs.lemmas.Bool.Decides.{nat_tests}
use Rattle.block.specs.Blocks.{Block}
use Rattle.block.specs.Lists.{place_of}
use Rattle.block.proofs.Lists.{or_behind, place-append}
use Rattle.joined.specs.Joining.{is_whole, joined_blocks, found_behind}

pub place_within : (bs : List Block) (idn p : ℕ) → Some p ≡ place_of bs idn → p < length bs
place_within [] idn p is = grind arith
place_within (b ∷ bs) idn p is = grind (arith, place_within bs idn (p - 1))

-- where both lists are shown: their count, and the place of an IDN that the first does not have
pub length_joined : (bs cs : List Block) → is_whole bs cs ≡ true → length (joined_blocks bs cs) ≡ length bs + length cs
length_joined bs cs whole = rw whole (length-append bs cs)

pub place_behind : (bs cs : List Block) (idn : ℕ) → is_whole bs cs ≡ true → None ≡ place_of bs idn
    → place_of (joined_blocks bs cs) idn ≡ option_map (λ p. length bs + p) (place_of cs idn)
place_behind bs cs idn whole none = rw whole (place-append bs cs idn ∙ ap (λ o. or_behind o (length bs) (place_of cs idn)) (sym none))

-- the place that the first list has, or else that behind it, is the place in the joined list
pub place_joined : (bs cs : List Block) (idn : ℕ) (o r : Option ℕ) → o ≡ place_of bs idn
    → MatchOption o (r ≡ found_behind bs cs idn) (λ p. r ≡ Some p) → r ≡ place_of (joined_blocks bs cs) idn
place_joined bs cs idn None r is here = grind (arith, nat_tests, place-append bs cs idn)
place_joined bs cs idn (Some p) r is here = grind (arith, nat_tests, place-append bs cs idn)
