use Rattle.std.proofs.Common.{take}
use Rattle.checker.specs.Machine.{state_of}
use Rattle.checker.proofs.Readies.{Running, left}
use Rattle.checker.proofs.machine.judge_nodes.Given as goal

abbrev pub invariant-turns : goal.invariant-turns
invariant-turns l = Running l.nodes l.profile l.count l.initial.types l.types l.machine

abbrev pub decreases-turns : goal.decreases-turns
decreases-turns l = left l.nodes (state_of l.machine (take l.machine.count l.types))
