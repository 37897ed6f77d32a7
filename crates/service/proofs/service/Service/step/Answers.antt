use Rattle.std.proofs.Common.{ap, ◌∙◌}
use Rattle.block.specs.Phases.{phase_number}
use Rattle.channel.specs.Controls.{element_of, element_named, is_write, is_last}
use Rattle.service.specs.States.{viewed}
use Rattle.service.specs.Steps.{step_on}
use Rattle.service.proofs.service.Service.step.Goals as goal

pub returns-clause-value : goal.returns-clause-value
returns-clause-value g c =
    let control = c.args.control.0 in
    c.end.ensures ∙ c.reply-reply.ensures
    ∙ ap (λ ahs. step_on (phase_number c.args.phase) c.args.out (viewed g.S.Store.blocks c.args.self.now) ahs (element_named (element_of control)) (is_write control) (is_last control) c.args.info) c.handshake-self.ensures
