use Rattle.calculus.proofs.laws.typing.Goals as goal
use Rattle.calculus.proofs.OneType.{one_type}
use Rattle.calculus.proofs.Infer.{infer_typed, typed_infer}
use Rattle.calculus.proofs.TypingKept.{typing_kept}
use Rattle.calculus.proofs.TypedScoped.{typed_scoped}

pub returns : goal.returns
returns c = record {
  unique = λ ρ profile Γ e τ σ. one_type ρ profile;
  computed = λ ρ profile Γ e τ. (infer_typed ρ profile Γ e τ, typed_infer ρ profile);
  kept = typing_kept;
  scoped = λ ρ profile Γ e τ. typed_scoped ρ profile;
}
