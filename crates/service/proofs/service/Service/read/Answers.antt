use Rattle.std.proofs.Common.{◌≡◌, ◌≤◌, Some, Ok, sym, ◌∙◌, rules}
use Rattle.std.specs.List.{slice_get}
use Rattle.block.specs.Blocks.{Block, seen}
use Rattle.channel.specs.Controls.{element_number}
use Rattle.service.proofs.Small.{place_few}
use Rattle.service.proofs.service.Service.read.Goals as goal

pub overflow_cast-count : goal.overflow_cast-count
overflow_cast-count g c =
    let bs = g.S.Store.blocks c.args.self.now.store in
    let b : Block = seen c.in_ok-view.view in
    let at : slice_get bs c.args.place ≡ Some b = search rules in
    let read : c.read_word.result ≡ Ok c.in_ok-word.word = search rules in
    let few : c.next_word-k.result ≤ 512 = place_few bs c.args.place (element_number c.args.element) c.next_word-k.result c.in_ok-word.word c.args.last b (g.S.Store.sound c.args.self.now.store) at (sym c.read_word.ensures ∙ read) in
    search rules
