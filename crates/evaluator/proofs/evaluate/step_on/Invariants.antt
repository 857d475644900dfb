use Rattle.std.proofs.Common.{◌≡◌, ◌-◌, length}
use Rattle.evaluator.proofs.Halts.{Going}
use Rattle.evaluator.proofs.evaluate.step_on.Given as goal

abbrev pub invariant-loop-site : goal.invariant-loop-site
invariant-loop-site g l =
    (length l.front ≡ length l.initial.front) × (length l.back ≡ length l.initial.front)
    × (g.H.Host.meaning l.host ≡ g.H.Host.meaning l.initial.host)
    × Going (g.H.Host.meaning l.initial.host) l.fuel l.held l.initial.front l.made l.used l.front

abbrev pub decreases-loop-site : goal.decreases-loop-site
decreases-loop-site g l = l.fuel - l.made
