use Rattle.std.proofs.Common.{◌≡◌, length, take}
use Rattle.std.specs.List.{AllByRecursion}
use Rattle.evaluator.specs.OneCall.{Narrow}
use Rattle.evaluator.proofs.start.lay.Given as goal

abbrev pub invariant-loop-i : goal.invariant-loop-i
invariant-loop-i l =
    (length l.front ≡ length l.initial.front) × (take l.i l.front ≡ take l.i l.nodes)
    × AllByRecursion Narrow (take l.i l.nodes)
