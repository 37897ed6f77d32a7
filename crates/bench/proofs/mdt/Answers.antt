use Rattle.std.proofs.Common.{rules, arith, ◌≡◌, ◌∷◌, [], replicate, ◌-◌, ◌∙◌}
use Rattle.std.proofs.Math.Seq.{take_all}
use Rattle.std.proofs.lemmas.Slice.{overwrites}
use Rattle.bench.proofs.mdt.Goals.{then-start-len, else-start-len}
use Rattle.bench.proofs.mdt.Goals as goal

pub returns : goal.returns
returns g c room =
    let filled : c.resize.new.self.items ≡ c.mdt_address.result ∷ replicate (c.mdt_size.result - 1) 0 =
    (rw (c.in_ok-resize.was, c.in_ok-bytes.ensures.items, c.in_ok-bytes.ensures.len, take_all c.mdt_size.result (c.mdt_address.result ∷ []) (omega arith)) at c.resize.ensures.items) in
    let len : c.len.result ≡ c.mdt_size.result = c.len.ensures ∙ (rw c.in_ok-resize.was at c.resize.ensures.len) in
    elim c.if-start-len.branch [ then-start-len w ↦ search (rules, overwrites) | else-start-len w ↦ absurd (omega arith) ]
