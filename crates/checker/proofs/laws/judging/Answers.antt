use Rattle.checker.proofs.laws.judging.Goals as goal
use Rattle.checker.proofs.OutcomeMeans.{judge_means}

pub returns : goal.returns
returns c = record { means = judge_means }
