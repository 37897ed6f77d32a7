-- What a table over checked rows means when it is made, and after a change. Assumes nothing.
use Rattle.std.proofs.Common.{◌≡◌, ℕ, Bool, true, false, cond, ◌&&◌, List, [], length, drop, refl, ap, ◌∙◌}
use Rattle.std.specs.List.{slice_get}
use Rattle.std.proofs.lemmas.Bool.{cond-true, false≢true}
use Rattle.block.specs.Lists.{changed, with_content, with_status, may_replace, may_mark}
use Rattle.rows.specs.declared.plan.Plan.{Plan}
use Rattle.rows.specs.declared.row.Row.{Row}
use Rattle.rows.specs.declared.row.State.{State}
use Rattle.rows.specs.Rows.{size_of, start_at}
use Rattle.rows.specs.Shown.{is_matched, matched_blocks, shown_blocks, marked, resized, written}
use Rattle.rows.proofs.Meaning.{mark_parts, replace_marks, matched_marked, matched_written, spare_kept}
use Rattle.table.specs.Tables.{plan_rows}

-- the blocks after a change of one status
pub shown_marked : (fits : Bool) (p : Plan) (ss after : List State) (d : List ℕ) (i word : ℕ) → after ≡ marked ss i word
    → may_mark (slice_get (shown_blocks fits (plan_rows p) ss d) i) ≡ true
    → shown_blocks fits (plan_rows p) after d ≡ changed (shown_blocks fits (plan_rows p) ss d) i (with_status word)
shown_marked true p ss after d i word e may =
    ap (λ l. matched_blocks (plan_rows p) l d) e ∙ matched_marked (plan_rows p) ss d i word may
shown_marked false p ss after d i word e may = refl

-- where data may be replaced, the sheet of a table has the table's rows
pub start_same : (fits : Bool) (p : Plan) (rs : List Row) (ss : List State) (d : List ℕ) (i n : ℕ)
    → rs ≡ cond (fits && is_matched (plan_rows p) ss d) (plan_rows p) []
    → may_replace (slice_get (shown_blocks fits (plan_rows p) ss d) i) n ≡ true → start_at rs i ≡ start_at (plan_rows p) i
start_same true p rs ss d i n e may =
    let o = slice_get (matched_blocks (plan_rows p) ss d) i in
    ap (λ l. start_at l i) (e ∙ cond-true _ (plan_rows p) [] (mark_parts (plan_rows p) ss d i (replace_marks o n may)).0)
start_same false p rs ss d i n e may = absurd (false≢true may)

-- the blocks after new data were written at their place
pub shown_written : (fits : Bool) (p : Plan) (ss after : List State) (d bytes src : List ℕ) (i start n : ℕ)
    → after ≡ resized ss i n → bytes ≡ written d start src → start ≡ start_at (plan_rows p) i → n ≡ length src
    → may_replace (slice_get (shown_blocks fits (plan_rows p) ss d) i) (length src) ≡ true
    → shown_blocks fits (plan_rows p) after bytes ≡ changed (shown_blocks fits (plan_rows p) ss d) i (with_content src)
shown_written true p ss after d bytes src i start n e f g h may =
    ap (λ l. matched_blocks (plan_rows p) l bytes) (e ∙ ap (resized ss i) h)
    ∙ ap (matched_blocks (plan_rows p) (resized ss i (length src))) (f ∙ ap (λ k. written d k src) g)
    ∙ matched_written (plan_rows p) ss d src i p.laid may
shown_written false p ss after d bytes src i start n e f g h may = refl

-- and the bytes behind the last area
pub shown_spare : (fits : Bool) (p : Plan) (ss : List State) (d bytes src : List ℕ) (i start : ℕ)
    → bytes ≡ written d start src → start ≡ start_at (plan_rows p) i
    → may_replace (slice_get (shown_blocks fits (plan_rows p) ss d) i) (length src) ≡ true
    → drop (size_of (plan_rows p)) bytes ≡ drop (size_of (plan_rows p)) d
shown_spare true p ss d bytes src i start f g may =
    ap (drop (size_of (plan_rows p))) (f ∙ ap (λ k. written d k src) g) ∙ spare_kept (plan_rows p) ss d src i p.laid may
shown_spare false p ss d bytes src i start f g may = absurd (false≢true may)
