-- What making a drive gives: the drive, or the refusal with the store handed back. Assumes nothing.
use Rattle.std.specs.Prelude.{◌≡◌, ℕ, List, Ok, Err, Result}
use Rattle.refusal.specs.declared.Refusal.{Refusal}
use Rattle.block.specs.Blocks.{Block}
use Rattle.making.specs.Making.{making_verdict}
use Rattle.drive.specs.declared.drive.Drive.{Drive}
use Rattle.drive.specs.Machines.{view, made}

-- a made drive passed the check and is as a drive starts; a refused store comes back as it was
abbrev pub Made : {S : Type 0} → (S → List Block) → ℕ → S → Result (Drive S) (Refusal × S) → Type 0
Made blocks address store (Ok d) =
    (making_verdict address (blocks store) ≡ Ok tt) × (view blocks d ≡ made address (blocks store)) × (d.service.store ≡ store)
Made blocks address store (Err e) = (making_verdict address (blocks store) ≡ Err e.0) × (e.1 ≡ store)
