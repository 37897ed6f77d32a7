-- Names that are pushed one by one are the list of names as bytes. Assumes nothing.
use Rattle.std.proofs.Common.{◌≡◌, ℕ, ◌+◌, ◌<◌, ◌*◌, ◌≤◌, Bool, true, false, cond, eqb, leb, List, [], ◌∷◌, ◌++◌, length, get_or, slice_index, take, Some, None, Option, sym, refl, ap, ◌∙◌, append_assoc, append-nil, arith, length-append}
use Rattle.std.proofs.lemmas.Bool.{cond-true, le-leb, ne_eqb}
use Rattle.std.proofs.lemmas.List.{take_more}
use Rattle.block.specs.declared.idn.Idn.{Idn}
use Rattle.block.specs.Lists.{place_of, block_at, block_of, all_kept}
use Rattle.block.specs.Numbers.{word, words_of}
use Rattle.block.proofs.Words.{words_pair}
use Rattle.block.proofs.Lists.{nth_kept}
use Rattle.block.specs.Blocks.{Block}
use Rattle.channel.specs.Timings.{named}
use Rattle.service.specs.Names.{is_to_name, invalid_among}
use Rattle.service.specs.Steps.{is_empty}
use Rattle.service.proofs.Small.{content_small}
use Rattle.service.specs.Words.{kept_most, bytes_of, pushed, word_bytes}

pub word_bytes-append : (xs ys : List ℕ) → word_bytes (xs ++ ys) ≡ word_bytes xs ++ word_bytes ys
word_bytes-append [] ys = refl
word_bytes-append (x ∷ xs) ys = ap (λ l. bytes_of x ++ l) (word_bytes-append xs ys) ∙ sym (append_assoc (bytes_of x) (word_bytes xs) (word_bytes ys))

-- one name more, if it is to be named
pub name_more : (bytes : List ℕ) (w : ℕ) (b : Bool) → length bytes + 2 ≤ kept_most
    → cond b (pushed bytes w) bytes ≡ bytes ++ word_bytes (named w b)
name_more bytes w true room = cond-true (leb (length bytes + 2) kept_most) (bytes ++ bytes_of w) bytes (le-leb _ _ room)
name_more bytes w false room = sym (append-nil bytes)

pub length-named : (w : ℕ) (b : Bool) → length (word_bytes (named w b)) ≤ 2
length-named w true = omega arith
length-named w false = omega arith

-- one entry more
pub among_more : (bs : List Block) (w : ℕ) (ws : List ℕ)
    → word_bytes (invalid_among bs (w ∷ ws)) ≡ word_bytes (named w (is_to_name bs w)) ++ word_bytes (invalid_among bs ws)
among_more bs w ws =
    elim (is_to_name bs w) as (λ t. word_bytes (cond t (w ∷ invalid_among bs ws) (invalid_among bs ws)) ≡ word_bytes (named w t) ++ word_bytes (invalid_among bs ws)) [ true ↦ refl | false ↦ refl ]

-- what is named of rows, each if its test passes
abbrev pub rows_named : List (Bool × Idn) → List ℕ
rows_named [] = []
rows_named (r ∷ rs) = named r.1.0 r.0 ++ rows_named rs

rows_named-append : (rs ss : List (Bool × Idn)) → rows_named (rs ++ ss) ≡ rows_named rs ++ rows_named ss
rows_named-append [] ss = refl
rows_named-append (r ∷ rs) ss = ap (λ l. named r.1.0 r.0 ++ l) (rows_named-append rs ss) ∙ sym (append_assoc (named r.1.0 r.0) (rows_named rs) (rows_named ss))

-- one name after others: what is kept, and how much that is at most
pub named_next : (ns : List ℕ) (w most : ℕ) (b : Bool) (k k' : List ℕ) → k ≡ word_bytes ns → length k ≤ most → most + 2 ≤ kept_most → k' ≡ cond b (pushed k w) k
    → (k' ≡ word_bytes (ns ++ named w b)) × (length k' ≤ most + 2)
named_next ns w most b k k' e short room after =
    let more : k' ≡ k ++ word_bytes (named w b) = after ∙ name_more k w b (omega arith) in (
      more ∙ ap (λ l. l ++ word_bytes (named w b)) e ∙ sym (word_bytes-append ns (named w b)),
      omega (arith, ap length more, length-append k (word_bytes (named w b)), length-named w b),
    )

-- one row more
pub row_named : (rs : List (Bool × Idn)) (i : ℕ) (d : Bool × Idn) (b : Bool) (w : ℕ) (k k' : List ℕ) → i < length rs → i < 8
    → b ≡ (get_or rs i d).0 → w ≡ (get_or rs i d).1.0 → k ≡ word_bytes (rows_named (take i rs)) → length k ≤ 2 * i → k' ≡ cond b (pushed k w) k
    → (k' ≡ word_bytes (rows_named (take (i + 1) rs))) × (length k' ≤ 2 * (i + 1))
row_named rs i d b w k k' in' few eb ew e short after =
    let row = get_or rs i d in
    let next = named_next (rows_named (take i rs)) w (2 * i) b k k' e short (omega arith) after in
    let last : rows_named (row ∷ []) ≡ named w b = append-nil (named row.1.0 row.0) ∙ sym (ap (λ x. named x row.0) ew) ∙ sym (ap (named w) eb) in
    let more : rows_named (take (i + 1) rs) ≡ rows_named (take i rs) ++ named w b =
    ap rows_named (take_more rs i d in') ∙ rows_named-append (take i rs) (row ∷ []) ∙ ap (λ l. rows_named (take i rs) ++ l) last in
    (next.0 ∙ ap word_bytes (sym more), omega (arith, next.1))

-- an entry of S-0-0019 was looked at, and named if it is to be
pub entry_named : (bs : List Block) (pair rest all k k' total : List ℕ) (w : ℕ) (b : Bool) → length pair ≡ 2 → all ≡ pair ++ rest
    → w ≡ word (slice_index pair 0) (slice_index pair 1) → b ≡ is_to_name bs w → length k + length all ≤ kept_most → k' ≡ cond b (pushed k w) k
    → k ++ word_bytes (invalid_among bs (words_of all)) ≡ total
    → (length k' + length rest ≤ length k + length all) × (k' ++ word_bytes (invalid_among bs (words_of rest)) ≡ total)
entry_named bs pair rest all k k' total w b two parts is test room after so_far =
    let left = word_bytes (invalid_among bs (words_of rest)) in
    let size : length all ≡ 2 + length rest = omega (arith, ap length parts, length-append pair rest) in
    let more : k' ≡ k ++ word_bytes (named w (is_to_name bs w)) = after ∙ name_more k w b (omega arith) ∙ ap (λ t. k ++ word_bytes (named w t)) test in
    let next : words_of all ≡ w ∷ words_of rest = ap words_of parts ∙ words_pair pair rest two ∙ ap (λ x. x ∷ words_of rest) (sym is) in (
      omega (arith, ap length more, length-append k (word_bytes (named w (is_to_name bs w))), length-named w (is_to_name bs w)),
      ap (λ l. l ++ left) more ∙ append_assoc k (word_bytes (named w (is_to_name bs w))) left
          ∙ ap (λ l. k ++ l) (sym (among_more bs w (words_of rest))) ∙ ap (λ l. k ++ word_bytes (invalid_among bs l)) (sym next) ∙ so_far,
    )

-- the entries of a block that keeps the rules are at most 1,020 bytes
pub entries_small : (bs : List Block) (n : ℕ) (b : Block) → all_kept bs ≡ true → Some b ≡ block_of bs n → length b.content ≤ 1020
entries_small bs n b kept e = at_place (place_of bs n) e
  where
    at_place : (o : Option ℕ) → Some b ≡ block_at bs o → length b.content ≤ 1020
    at_place None f = absurd (let z : ◌≡◌ {A = ℕ} 0 1 = cc in omega arith)
    at_place (Some p) f = content_small b (nth_kept bs p b kept (sym f))

-- names are no bytes only where there are none
pub no_names : (ns : List ℕ) → eqb (length (word_bytes ns)) 0 ≡ is_empty ns
no_names [] = refl
no_names (n ∷ ns) = ne_eqb (length (word_bytes (n ∷ ns))) 0 (λ e. omega (arith, e))
