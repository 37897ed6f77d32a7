use Rattle.std.proofs.Common.{◌≡◌, ◌*◌, ◌≤◌, length, take}
use Rattle.service.specs.Words.{word_bytes}
use Rattle.service.proofs.Naming.{rows_named}
use Rattle.service.proofs.checks.name_timings.Given as goal

-- what the rows so far name
abbrev pub invariant-loop-named : goal.invariant-loop-named
invariant-loop-named l = (l.names ≡ word_bytes (rows_named (take l.named-index l.named-items))) × (length l.names ≤ 2 * l.named-index)
