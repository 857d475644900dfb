use Rattle.std.proofs.Common.{◌≡◌, ◌+◌, ◌*◌, ◌≤◌, drop}
use Rattle.terms.specs.Scan.{fault, shift}
use Rattle.terms.proofs.first_fault.Given as goal

abbrev pub invariant-loop-i : goal.invariant-loop-i
invariant-loop-i l =
    (l.pending ≤ 1 + 2 * l.i)
    × (fault l.types 1 l.nodes ≡ shift l.i (fault l.types l.pending (drop l.i l.nodes)))
