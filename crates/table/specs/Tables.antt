-- What a table and a catalogue show as stores, and the bounds that they keep. Assumes nothing.
use Rattle.std.specs.Prelude.{◌≡◌, ℕ, ◌≤◌, Bool, true, List, [], ◌∷◌, map, length, drop, refl}
use Rattle.std.proofs.Common.{arith}
use Rattle.std.specs.Borrow.{GName}
use Rattle.std.proofs.lemmas.List.{length-map}
use Rattle.std.proofs.lemmas.Bool.{cond_both, and_parts, and_from}
use Rattle.block.specs.Blocks.{Block, block_kept}
use Rattle.block.specs.Lists.{most_blocks, all_kept}
use Rattle.rows.specs.declared.plan.Plan.{Plan}
use Rattle.rows.specs.declared.row.Row.{Row}
use Rattle.rows.specs.declared.row.State.{State}
use Rattle.rows.specs.Rows.{size_of, start_at}
use Rattle.rows.specs.Shown.{matched_blocks, shown_blocks, nobodys, marked, resized, written}
use Rattle.rows.proofs.Meaning.{matched_few, matched_kept}
use Rattle.table.specs.declared.table.Table.{Table}
use Rattle.table.specs.declared.catalogue.Catalogue.{Catalogue}

-- the rows of a plan
abbrev pub plan_rows : Plan → List Row
plan_rows p = p.rows.now

-- the blocks of a table
abbrev pub table_shown : Table → List Block
table_shown t = shown_blocks t.fits (plan_rows t.plan.now) t.states.now t.bytes.now

-- the blocks of a catalogue
abbrev pub catalogue_shown : Catalogue → List Block
catalogue_shown t = map nobodys (shown_blocks t.fits (plan_rows t.plan.now) t.states.now t.bytes.now)

module _ (fits : Bool) (p : Plan) (ss : List State) (bytes : List ℕ) where
  shown_few : length (shown_blocks fits (plan_rows p) ss bytes) ≤ most_blocks
  shown_few =
      cond_both fits (matched_blocks (plan_rows p) ss bytes) [] (λ l. length l ≤ most_blocks)
      (λ t. matched_few (plan_rows p) ss bytes p.few) (λ t. omega arith)

  shown_kept : all_kept (shown_blocks fits (plan_rows p) ss bytes) ≡ true
  shown_kept =
      cond_both fits (matched_blocks (plan_rows p) ss bytes) [] (λ l. all_kept l ≡ true)
      (λ t. matched_kept (plan_rows p) ss bytes p.laid) (λ t. refl)

pub table_few : (t : Table) → length (table_shown t) ≤ most_blocks
table_few t = shown_few t.fits t.plan.now t.states.now t.bytes.now

pub table_kept : (t : Table) → all_kept (table_shown t) ≡ true
table_kept t = shown_kept t.fits t.plan.now t.states.now t.bytes.now

-- what else a table keeps: its rows, which memory it was lent, and the bytes behind the last area
pub record TableRest : Type 0 where
  pub plan : Plan
  pub states : GName
  pub bytes : GName
  pub spare : List ℕ

abbrev pub table_rest : Table → TableRest
table_rest t = record { plan = t.plan.now; states = t.states.ghost_name; bytes = t.bytes.ghost_name; spare = drop (size_of (plan_rows t.plan.now)) t.bytes.now }

-- all that a table holds: its rows, the note on the lengths, which memory it was lent, and what that holds now
pub record Lent : Type 0 where
  pub plan : Plan
  pub fits : Bool
  pub state_name : GName
  pub byte_name : GName
  pub states : List State
  pub bytes : List ℕ

abbrev pub lent_to : Table → Lent
lent_to t = record { plan = t.plan.now; fits = t.fits; state_name = t.states.ghost_name; byte_name = t.bytes.ghost_name; states = t.states.now; bytes = t.bytes.now }

-- after new data at a place: their length in the state, their bytes in the area, and no other byte
abbrev pub lent_replaced : Lent → ℕ → List ℕ → Lent
lent_replaced l place bytes = record { plan = l.plan; fits = l.fits; state_name = l.state_name; byte_name = l.byte_name; states = resized l.states place (length bytes); bytes = written l.bytes (start_at (plan_rows l.plan) place) bytes }

-- after a new status at a place
abbrev pub lent_marked : Lent → ℕ → ℕ → Lent
lent_marked l place status = record { plan = l.plan; fits = l.fits; state_name = l.state_name; byte_name = l.byte_name; states = marked l.states place status; bytes = l.bytes }

-- what changes no part but the keeper keeps the block rules
kept_nobodys : (bs : List Block) → all_kept bs ≡ true → all_kept (map nobodys bs) ≡ true
kept_nobodys [] t = t
kept_nobodys (b ∷ bs) t =
    let parts = and_parts (block_kept b) (all_kept bs) t in
    and_from (block_kept b) (all_kept (map nobodys bs)) parts.0 (kept_nobodys bs parts.1)

pub catalogue_few : (t : Catalogue) → length (catalogue_shown t) ≤ most_blocks
catalogue_few t =
    let e = length-map (shown_blocks t.fits (plan_rows t.plan.now) t.states.now t.bytes.now) nobodys in
    omega (arith, e, shown_few t.fits t.plan.now t.states.now t.bytes.now)

pub catalogue_kept : (t : Catalogue) → all_kept (catalogue_shown t) ≡ true
catalogue_kept t =
    kept_nobodys (shown_blocks t.fits (plan_rows t.plan.now) t.states.now t.bytes.now)
    (shown_kept t.fits t.plan.now t.states.now t.bytes.now)
