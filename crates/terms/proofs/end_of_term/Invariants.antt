use Rattle.std.proofs.Common.{◌≡◌, ◌+◌, ◌*◌, ◌<◌, ◌≤◌, drop}
use Rattle.terms.specs.Scan.{after, shift}
use Rattle.terms.proofs.end_of_term.Given as goal

abbrev pub invariant-loop-i : goal.invariant-loop-i
invariant-loop-i l = record {
  rest : l.node-items ≡ drop l.at l.nodes;
  some : 0 < l.pending;
  few : l.pending ≤ 1 + 2 * l.i;
  scan : after 1 l.node-items ≡ shift l.i (after l.pending (drop l.i l.node-items));
}
