use Rattle.std.proofs.Common.{◌≡◌, ◌∙◌, Some, rules}
use Rattle.std.specs.List.{slice_get}
use Rattle.std.specs.Option.{option_map}
use Rattle.block.specs.Phases.{phase_number}
use Rattle.service.specs.Replies.{replied, write_replied}
use Rattle.service.specs.States.{viewed, head_of}
use Rattle.service.specs.Steps.{write_step}
use Rattle.service.proofs.Writing.{with_head}
use Rattle.service.proofs.service.Service.write.Goals as goal

pub returns : goal.returns
returns g c =
    let s = viewed g.S.Store.blocks c.args.self.now in
    let block = slice_get (g.S.Store.blocks c.args.self.now.store) c.args.place in
    let head : Some c.in_ok-head.head ≡ option_map head_of block = search rules in
    let reply : replied (viewed g.S.Store.blocks c.write_word-written.new.self) c.map_err.result ≡ write_replied (viewed g.S.Store.blocks c.write_word-written.new.self) c.write_word-written.result = search rules in
    reply ∙ c.write_word-written.ensures
    ∙ with_head s s.link.ahs block c.in_ok-head.head (λ h. write_step (phase_number c.args.standing.phase) c.args.standing.out s s.link.ahs c.args.place h c.args.last c.args.info) head
