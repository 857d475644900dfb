use Rattle.std.proofs.Common.{◌≡◌, ◌<◌}
use Rattle.evaluator.specs.OneCall.{state_of}
use Rattle.decider.proofs.Slicing.{Slicing}
use Rattle.decider.proofs.slices.run_slices.Given as goal

abbrev pub invariant-loop-ran : goal.invariant-loop-ran
invariant-loop-ran g l =
    (g.H.Host.meaning l.host ≡ g.H.Host.meaning l.initial.host)
    × Slicing (g.H.Host.meaning l.initial.host) l.total l.left
    (state_of l.initial.held l.initial.front l.initial.back) (state_of l.held l.front l.back)
    × (0 < l.left → 0 < l.most)

abbrev pub decreases-loop-ran : goal.decreases-loop-ran
decreases-loop-ran g l = l.left
