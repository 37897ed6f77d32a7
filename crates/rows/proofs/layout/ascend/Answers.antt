use Rattle.std.proofs.Common.{ltb, rules}
use Rattle.std.proofs.lemmas.List.Sorted.{answers_always}
use Rattle.rows.specs.Rows.{row_idn}
use Rattle.rows.specs.declared.row.Row.{Row}
use Rattle.rows.proofs.Ascending.{pairs_ascend}
use Rattle.rows.proofs.layout.ascend.Goals as goal

pub returns : goal.returns
returns c =
    pairs_ascend c.args.rows.now _
    (c.is_sorted_by.ensures.cases (λ (x y : Row). ltb (row_idn x) (row_idn y)) (answers_always _ _ _ (λ f a r g h. search rules)))
