-- Blocks that are shown as kept by nobody: the same places and parts, and none may change. Assumes nothing.
use Rattle.std.proofs.Common.{◌≡◌, ℕ, zero, suc, false, cond, eqb, List, [], ◌∷◌, length, map, Some, None, Option, refl, ap, ◌∙◌}
use Rattle.std.proofs.lemmas.List.{length-map}
use Rattle.std.specs.List.{slice_get}
use Rattle.std.specs.Option.{option_map}
use Rattle.block.specs.Blocks.{Block}
use Rattle.block.specs.Lists.{place_of, may_replace, may_mark}
use Rattle.rows.specs.Shown.{nobodys}

pub length-nobodys : (bs : List Block) → length (map nobodys bs) ≡ length bs
length-nobodys bs = length-map bs nobodys

pub place-nobodys : (bs : List Block) (n : ℕ) → place_of (map nobodys bs) n ≡ place_of bs n
place-nobodys [] n = refl
place-nobodys (b ∷ bs) n = ap (λ o. cond (eqb b.idn n) (Some 0) (option_map suc o)) (place-nobodys bs n)

pub nth_nobodys : (bs : List Block) (i : ℕ) → slice_get (map nobodys bs) i ≡ option_map nobodys (slice_get bs i)
nth_nobodys [] i = refl
nth_nobodys (b ∷ bs) zero = refl
nth_nobodys (b ∷ bs) (suc i) = nth_nobodys bs i

none_replaced : (o : Option Block) (n : ℕ) → may_replace (option_map nobodys o) n ≡ false
none_replaced None n = refl
none_replaced (Some b) n = refl

none_marked : (o : Option Block) → may_mark (option_map nobodys o) ≡ false
none_marked None = refl
none_marked (Some b) = refl

pub never_replaced : (bs : List Block) (i n : ℕ) → may_replace (slice_get (map nobodys bs) i) n ≡ false
never_replaced bs i n = ap (λ o. may_replace o n) (nth_nobodys bs i) ∙ none_replaced (slice_get bs i) n

pub never_marked : (bs : List Block) (i : ℕ) → may_mark (slice_get (map nobodys bs) i) ≡ false
never_marked bs i = ap may_mark (nth_nobodys bs i) ∙ none_marked (slice_get bs i)
