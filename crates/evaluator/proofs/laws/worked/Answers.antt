use Rattle.evaluator.proofs.Example
use Rattle.evaluator.proofs.laws.worked.Goals as goal

pub returns : goal.returns
returns c = Example.worked
