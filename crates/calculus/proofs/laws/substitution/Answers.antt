use Rattle.calculus.proofs.Substitution.{substitution_usual}
use Rattle.calculus.proofs.laws.substitution.Goals as goal

pub returns : goal.returns
returns c = record { usual = substitution_usual }
