use Rattle.std.proofs.Common.{◌≡◌, Some, sym, ◌∙◌, arith}
use Rattle.std.specs.List.{slice_get}
use Rattle.std.specs.Option.{option_map}
use Rattle.std.proofs.lemmas.Result.{err_from_is_err_and}
use Rattle.block.specs.Lists.{place_of}
use Rattle.block.specs.Phases.{phase_number}
use Rattle.service.specs.States.{head_of}
use Rattle.drive.specs.Machines.{view}
use Rattle.drive.specs.Reports.{head_refusal}
use Rattle.drive.proofs.Checking.{none_at_ok, some_at_err}
use Rattle.drive.proofs.Reporting.{report_refusal_lem}
use Rattle.drive.proofs.drive.Drive.report_verdict.Goals as goal

pub returns-in_err-check_head : goal.returns-in_err-check_head
returns-in_err-check_head g c =
    let m = view g.S.Store.blocks c.args.self.now in
    let at : Some c.in_ok-place.place ≡ place_of m.service.blocks c.args.idn.0 = grind arith in
    let has : Some c.in_ok-head.head ≡ option_map head_of (slice_get m.service.blocks c.in_ok-place.place) = grind arith in
    let fault = some_at_err (head_refusal (phase_number m.phase) m.service.blocks c.in_ok-head.head c.args.bytes.now) (sym c.in_err-check_head.was ∙ c.check_head.ensures) in
    let p = err_from_is_err_and c.from_residual-in_err-check_head.result c.from_residual-in_err-check_head.ensures.1 in
    rw (p.1, p.2) (report_refusal_lem m c.args.idn.0 c.in_ok-place.place c.in_ok-head.head c.args.bytes.now _ at has (sym fault))

pub returns : goal.returns
returns g c =
    let m = view g.S.Store.blocks c.args.self.now in
    let at : Some c.in_ok-place.place ≡ place_of m.service.blocks c.args.idn.0 = grind arith in
    let has : Some c.in_ok-head.head ≡ option_map head_of (slice_get m.service.blocks c.in_ok-place.place) = grind arith in
    let passes = none_at_ok (head_refusal (phase_number m.phase) m.service.blocks c.in_ok-head.head c.args.bytes.now) (sym c.in_ok-check_head.was ∙ c.check_head.ensures) in
    (report_refusal_lem m c.args.idn.0 c.in_ok-place.place c.in_ok-head.head c.args.bytes.now _ at has (sym passes), at)
