use Rattle.std.proofs.Common.{rules, tests, Some}
use Rattle.std.proofs.lemmas.Iterator.Consumers.{YieldsList-from_first}
use Rattle.std.proofs.lemmas.Iterator.Search.{any_from_yields_List}
use Rattle.block.specs.Blocks.{seen}
use Rattle.store.specs.Scans.{to_come}
use Rattle.drive.specs.Answers.{is_ended_block}
use Rattle.drive.proofs.answer.any_ended.Goals as goal

pub returns : goal.returns
returns g c =
    any_from_yields_List (λ b. is_ended_block (Some b)) c.any.new.self _ c.any.result c.any.ensures.ran
    (YieldsList-from_first seen (to_come g.S.Store.blocks) (g.S.Store.blocks c.args.store.now) c.of.ensures) (λ x b q k. search (rules, tests))
