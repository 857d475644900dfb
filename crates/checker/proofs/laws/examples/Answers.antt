use Rattle.checker.proofs.laws.examples.Goals as goal
use Rattle.checker.proofs.WorkedRules.{worked}

pub returns : goal.returns
returns c = record { rules = worked }
