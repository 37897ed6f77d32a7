-- The refusal of a report on a block that is there is that of its head. Assumes nothing.
use Rattle.std.proofs.Common.{◌≡◌, ℕ, List, Some, None, Option, sym, ap, ◌∙◌}
use Rattle.std.specs.List.{slice_get}
use Rattle.std.specs.Option.{option_map}
use Rattle.block.specs.Blocks.{Block}
use Rattle.block.specs.Lists.{place_of}
use Rattle.block.specs.Phases.{phase_number}
use Rattle.refusal.specs.declared.Refusal.{Refusal}
use Rattle.service.specs.declared.link.Head.{Head}
use Rattle.service.specs.States.{head_of}
use Rattle.drive.specs.Machines.{Machine}
use Rattle.drive.specs.Reports.{head_refusal, block_refusal, place_refusal, report_refusal}

block_refusal_lem : (phase : ℕ) (bs : List Block) (o : Option Block) (h : Head) (bytes : List ℕ) → Some h ≡ option_map head_of o
    → block_refusal phase bs o bytes ≡ head_refusal phase bs h bytes
block_refusal_lem phase bs None h bytes e = cc
block_refusal_lem phase bs (Some b) h bytes e = let same : head_of b ≡ h = cc in ap (λ x. head_refusal phase bs x bytes) same

pub report_refusal_lem : (m : Machine) (idn place : ℕ) (h : Head) (bytes : List ℕ) (r : Option Refusal) → Some place ≡ place_of m.service.blocks idn
    → Some h ≡ option_map head_of (slice_get m.service.blocks place) → r ≡ head_refusal (phase_number m.phase) m.service.blocks h bytes
    → report_refusal m idn bytes ≡ r
report_refusal_lem m idn place h bytes r ep eh er =
    ap (λ o. place_refusal (phase_number m.phase) m.service.blocks o bytes) (sym ep)
    ∙ block_refusal_lem (phase_number m.phase) m.service.blocks (slice_get m.service.blocks place) h bytes eh ∙ sym er
