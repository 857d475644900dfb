use Rattle.checker.proofs.laws.refusals.Goals as goal
use Rattle.checker.proofs.Untyped.{faults_deny, reached_deny}

pub returns : goal.returns
returns c = record { faults = faults_deny; reached = reached_deny }
