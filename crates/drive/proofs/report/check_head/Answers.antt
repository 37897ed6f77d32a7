use Rattle.std.proofs.Common.{sym, ◌∙◌, arith}
use Rattle.std.proofs.lemmas.Result.{err_from_is_err_and}
use Rattle.std.proofs.lemmas.Grind.{common_steps}
use Rattle.drive.specs.Reports.{data_cause}
use Rattle.drive.proofs.Checking.{none_at_ok, some_at_err}
use Rattle.drive.proofs.report.check_head.Goals as goal

pub returns-in_err-check_data : goal.returns-in_err-check_data
returns-in_err-check_data g c =
    let p = err_from_is_err_and c.from_residual.result c.from_residual.ensures.1 in
    let fault = some_at_err (data_cause (g.S.Store.blocks c.args.store.now) c.args.head c.args.bytes.now) (sym c.in_err-check_data.was ∙ c.check_data.ensures) in
    rw (p.1, p.2, fault) (grind (arith, common_steps))

pub returns : goal.returns
returns g c =
    let passes = none_at_ok (data_cause (g.S.Store.blocks c.args.store.now) c.args.head c.args.bytes.now) (sym c.in_ok-check_data.was ∙ c.check_data.ensures) in
    rw passes (grind (arith, common_steps))
