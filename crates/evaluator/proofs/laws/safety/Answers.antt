use Rattle.evaluator.proofs.Whole
use Rattle.evaluator.proofs.laws.safety.Goals as goal

pub returns : goal.returns
returns c = Whole.safety
