-- No element of a block that keeps the rules has more than 512 words. Assumes nothing.
use Rattle.std.proofs.Common.{◌≡◌, ℕ, ◌≤◌, Bool, true, eqb, leb, List, [], ◌∷◌, length, Some, None, Ok, Option, refl, arith}
use Rattle.std.specs.List.{slice_get}
use Rattle.block.specs.Lists.{all_kept}
use Rattle.block.proofs.Lists.{nth_kept}
use Rattle.std.proofs.lemmas.Bool.{and_parts, leb-true, cond_both}
use Rattle.std.proofs.lemmas.Bool.Decides.{nat_tests}
use Rattle.block.specs.declared.limits.Limits.{Limits}
use Rattle.block.specs.Numbers.{pattern}
use Rattle.block.specs.Attributes.{length_code, is_list}
use Rattle.block.specs.Blocks.{Block, block_kept, maximum_fits, length_fits, form_kept}
use Rattle.channel.specs.declared.code.Digit.{Digit}
use Rattle.channel.specs.Layouts.{Shape, plain, headed, shape_of, text_shape, lower_shape, upper_shape, content_shape, word_count, word_at, read_fault, fixed_words}
use Rattle.service.specs.Steps.{word_unless, shape_word, read_word}

-- a shape, if there is one, has few words
abbrev Few : Option Shape → Type 0
Few None = Unit {0}
Few (Some sh) = word_count sh ≤ 512

fixed_few : (a : ℕ) → fixed_words a ≤ 512
fixed_few a = grind (arith, nat_tests)

text_few : (most : ℕ) (bytes : List ℕ) → length bytes ≤ 1020 → Few (text_shape most bytes)
text_few most [] h = tt
text_few most (b ∷ bs) h = omega arith

lower_few : (a : ℕ) (l : Option Limits) → Few (lower_shape a l)
lower_few a None = tt
lower_few a (Some l) = fixed_few a

upper_few : (a : ℕ) (l : Option Limits) → Few (upper_shape a l)
upper_few a None = tt
upper_few a (Some l) = fixed_few a

pub content_small : (b : Block) → block_kept b ≡ true → length b.content ≤ 1020
content_small b kept =
    let form = and_parts (form_kept b.attribute b.name b.unit b.limits b.most) _ kept in
    let fits : length_fits b.attribute b.most (length b.content) ≡ true = form.1 in
    let most : maximum_fits b.attribute b.most ≡ true = (and_parts _ _ form.0).0 in
    grind (arith, nat_tests)

name_small : (b : Block) → block_kept b ≡ true → length b.name ≤ 60
name_small b kept =
    let form = (and_parts (form_kept b.attribute b.name b.unit b.limits b.most) _ kept).0 in
    leb-true _ _ (and_parts _ _ (and_parts (maximum_fits b.attribute b.most) _ form).1).0

unit_small : (b : Block) → block_kept b ≡ true → length b.unit ≤ 12
unit_small b kept =
    let form = (and_parts (form_kept b.attribute b.name b.unit b.limits b.most) _ kept).0 in
    let rest = (and_parts (maximum_fits b.attribute b.most) _ form).1 in
    leb-true _ _ (and_parts _ _ (and_parts (leb (length b.name) 60) _ rest).1).0

content_few : (a most : ℕ) (bytes : List ℕ) → length bytes ≤ 1020 → word_count (content_shape a most bytes) ≤ 512
content_few a most bytes h =
    cond_both (is_list (length_code a)) (headed most bytes) (plain (fixed_words a) (pattern bytes)) (λ sh. word_count sh ≤ 512) (λ t. omega arith) (λ t. fixed_few a)

pub shape_few : (b : Block) (e : ℕ) → block_kept b ≡ true → Few (shape_of b e)
shape_few b e kept =
    cond_both (eqb e 2) _ _ Few (λ t. text_few 60 b.name (omega (arith, name_small b kept)))
    (λ t. cond_both (eqb e 3) _ _ Few (λ t. omega arith)
    (λ t. cond_both (eqb e 4) _ _ Few (λ t. text_few 12 b.unit (omega (arith, unit_small b kept)))
    (λ t. cond_both (eqb e 5) _ _ Few (λ t. lower_few b.attribute b.limits)
    (λ t. cond_both (eqb e 6) _ _ Few (λ t. upper_few b.attribute b.limits)
    (λ t. content_few b.attribute b.most b.content (content_small b kept))))))

fault_free : (o : Option Digit) (v w : ℕ) → word_unless o v ≡ Ok w → o ≡ None
fault_free None v w e = refl
fault_free (Some x) v w e = absurd (let z : ◌≡◌ {A = ℕ} 0 1 = cc in omega arith)

word_few : (o : Option Shape) (k w : ℕ) (last : Bool) → Few o → shape_word o k last ≡ Ok w → k ≤ 512
word_few None k w last few e = absurd (let z : ◌≡◌ {A = ℕ} 0 1 = cc in omega arith)
word_few (Some sh) k w last few e =
    let none : read_fault (word_count sh) k last ≡ None = fault_free (read_fault (word_count sh) k last) (word_at sh k) w e in
    let within : k ≤ word_count sh = grind (arith, nat_tests) in
    omega (arith, few)

-- a word that could be read is one of the first 512
pub read_few : (b : Block) (e k w : ℕ) (last : Bool) → block_kept b ≡ true → read_word (Some b) e k last ≡ Ok w → k ≤ 512
read_few b e k w last kept r = word_few (shape_of b e) k w last (shape_few b e kept) r

-- the same of a word read at a place of a store
pub place_few : (bs : List Block) (i e k w : ℕ) (last : Bool) (b : Block) → all_kept bs ≡ true → slice_get bs i ≡ Some b
    → read_word (Some b) e k last ≡ Ok w → k ≤ 512
place_few bs i e k w last b kept at r = read_few b e k w last (nth_kept bs i b kept at) r
