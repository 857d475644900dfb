use Rattle.calculus.proofs.laws.preservation.Goals as goal
use Rattle.calculus.proofs.Scopes.{closed_kept}
use Rattle.calculus.proofs.TypeKept.{type_kept}

pub returns : goal.returns
returns c = record {
  closed = λ m e e'. closed_kept;
  typed = λ ρ profile m e e' τ g l. type_kept ρ profile m g l;
}
