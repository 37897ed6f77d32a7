use Rattle.std.proofs.Common.{◌≡◌, ◌+◌, ◌*◌, ◌≤◌, drop}
use Rattle.rows.specs.Rows.{laid_from, size_of}
use Rattle.rows.proofs.layout.measure.Given as goal

-- what is left of the rows decides, and adds the rest of the bytes
abbrev pub invariant-loop-row : goal.invariant-loop-row
invariant-loop-row l =
    (l.from ≤ 65535 * l.row-index)
    × (laid_from l.from (drop l.row-index l.rows) ≡ laid_from 0 l.rows)
    × (l.from + size_of (drop l.row-index l.rows) ≡ size_of l.rows)
