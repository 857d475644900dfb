-- A run stops at one place only, after one number of steps and for one cause.
use Rattle.std.proofs.Common.{◌≡◌, ℕ, zero, suc, ◌<◌, sym, refl, ap, ◌∙◌, subst, ⊎_elim}
use Rattle.std.proofs.lemmas.Bool.{cases_order}
use Rattle.calculus.specs.declared.stop.StopCause.{StopCause}
use Rattle.calculus.specs.declared.stop.StopCause.TheVariants as cause
use Rattle.calculus.specs.Syntax.{Term}
use Rattle.calculus.specs.Meanings.{Meaning}
use Rattle.calculus.specs.Runs.{cause_order, Stopped}
use Rattle.calculus.proofs.Runs.{runs_agree}

-- the cause at a place of the order
abbrev cause_at : ℕ → StopCause
cause_at zero = cause.Value
cause_at (suc zero) = cause.Stuck
cause_at (suc (suc zero)) = cause.Spent
cause_at (suc (suc (suc n))) = cause.Full

cause_back : (c : StopCause) → cause_at (cause_order c) ≡ c
cause_back cause.Value = refl
cause_back cause.Stuck = refl
cause_back cause.Spent = refl
cause_back cause.Full = refl

order_injective : (c d : StopCause) → cause_order c ≡ cause_order d → c ≡ d
order_injective c d p = sym (cause_back c) ∙ ap cause_at p ∙ cause_back d

module _ (m : Meaning) (fuel room : ℕ) where
  same_made : {c d : StopCause} {k j : ℕ} {e a b : Term} → Stopped m fuel room c k e a → Stopped m fuel room d j e b → k ≡ j
  same_made {c} {d} {k} {j} {e} {a} {b} x y =
      ⊎_elim (λ (h : k ≡ j). h)
      (⊎_elim (λ (h : k < j). absurd (y.none_before k a h x.steps c x.true_there))
      (λ (h : j < k). absurd (x.none_before j b h y.steps d y.true_there))) (cases_order k j)

  same_cause : {c d : StopCause} {k : ℕ} {e a : Term} → Stopped m fuel room c k e a → Stopped m fuel room d k e a → c ≡ d
  same_cause {c} {d} x y =
      ⊎_elim (λ (h : cause_order c ≡ cause_order d). order_injective c d h)
      (⊎_elim (λ (h : cause_order c < cause_order d). absurd (y.first_there c h x.true_there))
      (λ (h : cause_order d < cause_order c). absurd (x.first_there d h y.true_there)))
      (cases_order (cause_order c) (cause_order d))

  pub one_stop : {c d : StopCause} {k j : ℕ} {e a b : Term} → Stopped m fuel room c k e a → Stopped m fuel room d j e b
      → (c ≡ d) × (k ≡ j) × (a ≡ b)
  one_stop {c} {d} {k} {j} {e} {a} {b} x y =
      let p : k ≡ j = same_made x y in
      let z : Stopped m fuel room d k e b = subst (λ (n : ℕ). Stopped m fuel room d n e b) (sym p) y in
      let q : a ≡ b = runs_agree x.steps z.steps in
      (same_cause x (subst (λ (t : Term). Stopped m fuel room d k e t) (sym q) z), p, q)
