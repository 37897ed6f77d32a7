use Rattle.std.proofs.Common.{sym, ◌∙◌, length}
use Rattle.std.proofs.lemmas.Result.{err_from_is_err_and}
use Rattle.block.specs.Values.{value_fault}
use Rattle.drive.specs.Reports.{length_cause}
use Rattle.drive.proofs.Checking.{none_at_ok, some_at_err}
use Rattle.drive.proofs.report.check_data.Goals as goal

pub returns-in_err-check_value : goal.returns-in_err-check_value
returns-in_err-check_value g c =
    let p = err_from_is_err_and c.from_residual-in_err-check_value.result c.from_residual-in_err-check_value.ensures.1 in
    let fits = none_at_ok (length_cause c.args.head.attribute.0 c.args.head.most (length c.args.bytes.now)) (sym c.in_ok-check_length.was ∙ c.check_length.ensures) in
    let fault = some_at_err (value_fault (g.S.Store.blocks c.args.store.now) c.args.head.attribute.0 c.args.head.limits c.args.bytes.now) (sym c.in_err-check_value.was ∙ c.check_value.ensures) in
    rw (p.1, p.2, fits, fault)

pub returns : goal.returns
returns g c =
    let fits = none_at_ok (length_cause c.args.head.attribute.0 c.args.head.most (length c.args.bytes.now)) (sym c.in_ok-check_length.was ∙ c.check_length.ensures) in
    let passes = none_at_ok (value_fault (g.S.Store.blocks c.args.store.now) c.args.head.attribute.0 c.args.head.limits c.args.bytes.now) (sym c.in_ok-check_value.was ∙ c.check_value.ensures) in
    rw (fits, passes)
