use Rattle.std.proofs.Common.{◌≡◌, ℕ, List, [], ◌∷◌, ◌&&◌, refl, ap, ◌∙◌, rules, tests}
use Rattle.std.specs.List.{list_all}
use Rattle.std.proofs.lemmas.Iterator.Search.{all_from_yields_List}
use Rattle.block.specs.Numbers.{words_of}
use Rattle.block.specs.Blocks.{Block}
use Rattle.block.specs.Values.{idn_known, idns_known}
use Rattle.store.proofs.Words.{YieldsList-from_pairs}
use Rattle.store.proofs.value.idns_known.Goals as goal

all_known : (blocks : List Block) (es : List ℕ) → list_all (idn_known blocks) es ≡ idns_known blocks es
all_known blocks [] = refl
all_known blocks (e ∷ es) = ap (λ t. idn_known blocks e && t) (all_known blocks es)

pub returns : goal.returns
returns g c =
    let blocks = g.S.Store.blocks c.args.store.now in
    all_from_yields_List (idn_known blocks) _ _ c.all.result c.all.ensures.ran (YieldsList-from_pairs c.args.bytes.now c.chunks_exact.ensures.rest c.chunks_exact.ensures.size) (λ x b q k. search (rules, tests))
    ∙ all_known blocks (words_of c.args.bytes.now)
