use Rattle.std.proofs.Common.{◌≡◌, ◌+◌, ◌*◌, ◌<◌, ◌≤◌, [], ◌∷◌, length, drop}
use Rattle.terms.specs.Scan.{shift}
use Rattle.rewriter.specs.Depths.{Within}
use Rattle.rewriter.specs.ClosedTerms.{fault_under}
use Rattle.rewriter.proofs.closed.closed_fault.Given as goal

-- the stack has room for the children of the next node
abbrev pub invariant-loop-i : goal.invariant-loop-i
invariant-loop-i l = record {
  room : length l.pending.depths ≤ 1 + 2 * l.i;
  enough : 2 * length l.nodes < l.pending.room;
  within : Within l.i l.pending.depths;
  scan : fault_under (0 ∷ []) l.nodes ≡ shift l.i (fault_under l.pending.depths (drop l.i l.nodes));
}
