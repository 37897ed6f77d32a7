use Rattle.std.proofs.Common.{◌≡◌, true, false, ◌∙◌, rules}
use Rattle.block.specs.Phases.{phase_number}
use Rattle.channel.specs.Controls.{is_write}
use Rattle.service.specs.States.{viewed}
use Rattle.service.proofs.Stepping.{is_part, is_read, refused_on, taken_on}
use Rattle.service.proofs.service.Service.reply.Goals as goal

pub returns-in-Some-default-true : goal.returns-in-Some-default-true
returns-in-Some-default-true g c =
    let part : is_part c.element.result ≡ true = search rules in
    c.refuse_write.ensures
    ∙ refused_on (phase_number c.args.standing.phase) c.args.standing.out (viewed g.S.Store.blocks c.args.self.now) _ _ c.args.info c.in-Some-default-true.is-0 c.element.result _ _ c.is_last-last.result _ part
    c.element.ensures c.in-Some-default-true.ensures c.is_last-last.ensures

pub returns-in-Some-default-false : goal.returns-in-Some-default-false
returns-in-Some-default-false g c =
    let part : is_read c.element.result ≡ true = search rules in
    let write : false ≡ is_write c.args.control.0 = search rules in
    c.read.ensures
    ∙ taken_on (phase_number c.args.standing.phase) c.args.standing.out (viewed g.S.Store.blocks c.args.self.now) _ _ c.args.info (search rules) c.element.result _ _ c.is_last-last.result _ part
    c.element.ensures write c.is_last-last.ensures
