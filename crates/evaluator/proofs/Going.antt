-- An accepted term is a value or has exactly one next term.
use Rattle.std.proofs.Common.{◌≡◌, ℕ, ◌≤◌, Bool, true, false, Some, None, Option, sym, refl, ◌∙◌, inl, inr}
use mathlib.Core.Logic.{∥∥₁_elim}
use mathlib.Core.HLevel.{⊥_prop}
use mathlib.Core.Bool.{false≢true}
use Rattle.calculus.specs.Syntax.{Term, Value, size}
use Rattle.calculus.specs.Tables.{reading}
use Rattle.calculus.specs.Meanings.{Meaning, LawfulUnder}
use Rattle.calculus.specs.Steps.{Step}
use Rattle.calculus.specs.Infer.{value?}
use Rattle.calculus.specs.Next.{next}
use Rattle.calculus.specs.Accepted.{Accepted}
use Rattle.calculus.proofs.Values.{value_true, true_value}
use Rattle.calculus.proofs.OneNext.{value_rests, one_next}
use Rattle.calculus.proofs.Next.{next_step, step_next}
use Rattle.calculus.proofs.Progress.{progress}
use Rattle.evaluator.specs.Safety.{Goes}

-- whatever type table shows its type
pub not_stuck : (m : Meaning) (type profile : ℕ) (e : Term) → LawfulUnder profile m → Accepted e type profile → size e ≤ 4096
    → (Value e → ⊥) → ((w : Term) → Step m e w → ⊥) → ⊥
not_stuck m type profile e l acc h nv ns =
    ∥∥₁_elim acc ⊥_prop (λ t.
    elim (progress (reading t.0) profile m l t.1.typed h) [ inl v ↦ nv v | inr g ↦ ns g.0 g.1 ])

module _ (m : Meaning) (e : Term) (stuck : (Value e → ⊥) → ((w : Term) → Step m e w → ⊥) → ⊥) where
  no_value : value? e ≡ false → Value e → ⊥
  no_value p v = false≢true (sym p ∙ value_true v)

  goes_next : value? e ≡ false → (o : Option Term) → next m e ≡ o → Goes m e
  goes_next p None q = absurd (stuck (no_value p) (λ w s. cc (sym q ∙ step_next m s)))
  goes_next p (Some w) q = let s = next_step m e w q in inr (no_value p, (w, s, λ w' s'. one_next m s' s))

  goes_test : (b : Bool) → value? e ≡ b → Goes m e
  goes_test true p = let v = true_value e p in inl (v, λ w. value_rests m v)
  goes_test false p = goes_next p (next m e) refl

  pub goes : Goes m e
  goes = goes_test (value? e) refl
