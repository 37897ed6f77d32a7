use Rattle.std.proofs.Common.{refl, ◌∙◌, rules}
use Rattle.std.proofs.lemmas.List.Sorted.{answers_always}
use Rattle.rows.specs.declared.row.Row.{Row}
use Rattle.rows.proofs.Ascending.{searched_place}
use Rattle.rows.proofs.finding.bisect.Goals as goal

pub returns : goal.returns
returns c =
    let found = c.binary_search_by_key.ensures.position (λ (r : Row). r.idn) (answers_always _ _ _ (λ f a r g h. search rules)) in
    c.ok.ensures.value ∙ searched_place _ c.args.rows.now c.args.idn.0 c.binary_search_by_key.result (λ r. refl) c.requires c.binary_search_by_key.ensures.bound found
