use Rattle.std.proofs.Common.{◌≡◌, ◌+◌, ◌*◌, ◌≤◌, drop, None}
use Rattle.rewriter.specs.Searches.{focus}
use Rattle.rewriter.proofs.focus.focus_of.Given as goal

abbrev pub invariant-loop-i : goal.invariant-loop-i
invariant-loop-i l =
    (l.wanted ≤ 1 + 2 * l.i)
    × (l.passing ≤ 1 + 2 * l.i)
    × (focus None 1 0 0 l.nodes ≡ focus l.last l.wanted l.passing l.i (drop l.i l.nodes))
