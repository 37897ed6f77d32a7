use Rattle.std.proofs.Common.{◌≡◌, not, is_some, refl, ap, ◌∙◌, append-nil, arith, rules}
use Rattle.std.proofs.lemmas.Bool.Decides.{nat_tests}
use Rattle.service.specs.Words.{word_bytes}
use Rattle.service.proofs.Naming.{row_named}
use Rattle.service.proofs.checks.name_timings.Goals as goal

pub loop-named-preserved : goal.loop-named-preserved
loop-named-preserved c =
    row_named _ c.loop-named.named-index _ _ _ c.loop-named.names c.push_if.new.names (search rules) (omega arith) refl refl c.loop-named.invariant.0 c.loop-named.invariant.1 c.push_if.ensures

pub returns : goal.returns
returns c =
    let all : c.loop-named.named-index ≡ 8 = omega arith in
    let least : c.is_none.result ≡ not (is_some c.args.timings.now.least) = grind (arith, nat_tests) in
    let t5 : c.is_none-2.result ≡ not (is_some c.args.timings.now.t5) = grind (arith, nat_tests) in
    let size : c.is_none-3.result ≡ not (is_some c.args.timings.now.size) = grind (arith, nat_tests) in
    rw all at c.loop-named.invariant.0
    ∙ ap word_bytes (rw (c.names_ncyc.ensures, c.names_scyc.ensures, least, t5, c.names_t1.ensures, c.names_t4.ensures, c.names_position.ensures, size) (simp append-nil))
