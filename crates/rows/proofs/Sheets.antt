-- What a sheet shows when it is made and at a place. Assumes nothing.
use Rattle.std.proofs.Common.{◌≡◌, ℕ, ◌+◌, ◌<◌, ◌≤◌, Bool, true, false, ◌&&◌, List, length, Some, None, Option, sym, ap, ◌∙◌, ⊎_elim, arith, Bor}
use Rattle.std.specs.List.{slice_get, HoldsAt}
use Rattle.std.specs.Option.{MatchOption}
use Rattle.std.proofs.lemmas.Option.{slice_get_past}
use Rattle.std.proofs.lemmas.Bool.{cases_Bool, le-leb, eq-eqb, and_from}
use Rattle.std.proofs.lemmas.Bool.Decides.{nat_tests}
use Rattle.block.specs.Blocks.{is_kept, length_fits}
use Rattle.block.specs.Lists.{may_replace, may_mark, most_blocks}
use Rattle.rows.specs.declared.plan.Plan.{Plan}
use Rattle.rows.specs.declared.row.Row.{Row}
use Rattle.rows.specs.declared.row.State.{State}
use Rattle.rows.specs.declared.sheet.Sheet.{Sheet}
use Rattle.rows.specs.Rows.{laid_out, start_at}
use Rattle.rows.specs.Shown.{shown_length, block_of, states_fit, shown_blocks, row_blocks}
use Rattle.rows.specs.Sheets.{sheet_blocks}
use Rattle.rows.proofs.Laid.{row_at}
use Rattle.rows.proofs.Meaning.{state_at, length-blocks, nth_blocks, match_parts, row_within, shown_area, states_as_many, start_at_lem}

-- checked rows with states and bytes show what these mean
pub made_means : (p : Plan) (ss : List State) (bytes : List ℕ) (fits : Bool) → fits ≡ states_fit p.rows.now ss
    → shown_blocks fits p.rows.now ss bytes ≡ row_blocks p.rows.now ss bytes
made_means p ss bytes fits e =
    let laid : laid_out p.rows.now ≡ true = and_from _ _ (le-leb (length p.rows.now) most_blocks p.few) p.laid in
    ⊎_elim
    (λ yes'. let many = eq-eqb (length ss) (length p.rows.now) (states_as_many p.rows.now ss yes') in grind (arith, nat_tests))
    (λ no'. grind (arith, nat_tests))
    (cases_Bool (states_fit p.rows.now ss))

module _ (s : Sheet) where
  pub many_states : length s.states.now ≡ length s.plan.rows.now
  many_states = (match_parts s.plan.rows.now s.states.now s.bytes.now s.matched).0

  pub sheet_nth : (i : ℕ) → i < length s.plan.rows.now → slice_get (sheet_blocks s) i ≡ Some (block_of (row_at s.plan.rows.now i) (state_at s.states.now i) s.bytes.now)
  sheet_nth i h = nth_blocks s.plan.rows.now s.states.now s.bytes.now i many_states h

  pub sheet_past : (i : ℕ) → length s.plan.rows.now ≤ i → slice_get (sheet_blocks s) i ≡ None
  sheet_past i h = slice_get_past (sheet_blocks s) i (omega (arith, length-blocks s.plan.rows.now s.states.now s.bytes.now many_states))

  -- the data that are shown lie within the bytes
  sheet_within : (i : ℕ) → i < length s.plan.rows.now
      → (row_at s.plan.rows.now i).start + shown_length (row_at s.plan.rows.now i) (state_at s.states.now i) ≤ length s.bytes.now
  sheet_within i h =
      let within = row_within s.plan.rows.now 0 i s.plan.laid h in
      let small = shown_area (row_at s.plan.rows.now i) (state_at s.states.now i) within.0 in
      omega (arith, within.2, (match_parts s.plan.rows.now s.states.now s.bytes.now s.matched).1)

  -- and so the row and the state at a place make the block there
  pub sheet_view : (i : ℕ) (r : Row) (t : State) → i < length s.plan.rows.now → r ≡ row_at s.plan.rows.now i → t ≡ state_at s.states.now i
      → (r.start + shown_length r t ≤ length s.bytes.now) × (slice_get (sheet_blocks s) i ≡ Some (block_of r t s.bytes.now))
  sheet_view i r t h e f = rw (e, f) (sheet_within i h, sheet_nth i h)

  -- whether data of a length may replace those of the row at a place
  pub sheet_room : (i n : ℕ) (r : Row) → i < length s.plan.rows.now → r ≡ row_at s.plan.rows.now i
      → (may_replace (slice_get (sheet_blocks s) i) n ≡ (is_kept r.keeper && length_fits r.attribute.0 r.most n)) × (r.start ≡ start_at s.plan.rows.now i)
  sheet_room i n r h e = rw e (ap (λ b. may_replace b n) (sheet_nth i h), sym (start_at_lem s.plan.rows.now i h))

  -- a status may be set where a row is found and somebody keeps it
  pub sheet_marks : (i : ℕ) (o : Option (Bor Row)) (b : Bool)
      → MatchOption o (length s.plan.rows.now ≤ i) (λ r. (i < length s.plan.rows.now) × HoldsAt (λ x. r.now ≡ x) s.plan.rows.now i)
      → MatchOption o (b ≡ false) (λ r. b ≡ is_kept r.now.keeper) → b ≡ may_mark (slice_get (sheet_blocks s) i)
  sheet_marks i None b past not = not ∙ ap may_mark (sym (sheet_past i past))
  sheet_marks i (Some r) b found is = is ∙ ap (λ x. is_kept x.keeper) (found.1 _) ∙ ap may_mark (sym (sheet_nth i found.0))
