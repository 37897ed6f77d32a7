use Rattle.std.proofs.Common.{◌∙◌}
use Rattle.std.proofs.lemmas.Result.{err_from_is_err_and}
use Rattle.block.specs.Phases.{phase_number}
use Rattle.service.specs.States.{viewed}
use Rattle.service.proofs.Writing.{write_refused, write_last}
use Rattle.service.proofs.service.Service.write_word.Goals as goal

pub returns-in_err-check_write : goal.returns-in_err-check_write
returns-in_err-check_write g c =
    let p = err_from_is_err_and c.from_residual.result c.from_residual.ensures.1 in
    rw (p.1, p.2)
    (write_refused (phase_number c.args.standing.phase) c.args.standing.out (viewed g.S.Store.blocks c.args.self.now) _ c.args.place c.args.head c.args.last
    c.args.info c.next_word-k.result c.written_length-n.result c.drop_others.new.kept c.is_locked-locked.result
    c.next_word-k.ensures c.drop_others.ensures c.written_length-n.ensures.value c.is_locked-locked.ensures c.in_err-check_write.field-0.0 c.in_err-check_write.ensures)

pub returns-in_err-finish : goal.returns-in_err-finish
returns-in_err-finish g c =
    let p = err_from_is_err_and c.from_residual-in_err-finish.result c.from_residual-in_err-finish.ensures.1 in
    rw (p.1, p.2)
    (c.in_err-finish.ensures
    ∙ write_last (phase_number c.args.standing.phase) c.args.standing.out (viewed g.S.Store.blocks c.args.self.now) _ c.args.place c.args.head c.args.last
    c.args.info c.next_word-k.result c.written_length-n.result c.drop_others.new.kept c.is_locked-locked.result
    c.next_word-k.ensures c.drop_others.ensures c.written_length-n.ensures.value c.is_locked-locked.ensures c.push.new.self c.in_ok-check_write.ensures c.if-last.true c.push.ensures.value)

pub returns-then-last : goal.returns-then-last
returns-then-last g c =
    c.in_ok-finish.ensures
    ∙ write_last (phase_number c.args.standing.phase) c.args.standing.out (viewed g.S.Store.blocks c.args.self.now) _ c.args.place c.args.head c.args.last
    c.args.info c.next_word-k.result c.written_length-n.result c.drop_others.new.kept c.is_locked-locked.result
    c.next_word-k.ensures c.drop_others.ensures c.written_length-n.ensures.value c.is_locked-locked.ensures c.push.new.self c.in_ok-check_write.ensures c.if-last.true c.push.ensures.value
