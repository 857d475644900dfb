use Rattle.calculus.proofs.laws.progress.Goals as goal
use Rattle.calculus.proofs.OneNext.{value_rests}
use Rattle.calculus.proofs.Progress.{progress}

pub returns : goal.returns
returns c = record {
  either = λ ρ profile m e τ l d h. (progress ρ profile m l d h, λ v g. value_rests m v g.1);
}
