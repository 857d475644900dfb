-- A term has at most one type in a context.
use Rattle.std.proofs.Common.{◌≡◌, ℕ, List, ◌∷◌, sym, refl, ap, subst}
use Rattle.calculus.specs.Syntax.{Ty, fun, prod, sum, Term}
use Rattle.calculus.specs.Typing.{shape_type, Typed, typing_var, typing_z, typing_s, typing_rec, typing_abs, typing_fapp, typing_null, typing_pair, typing_fst, typing_snd, typing_abort, typing_inl, typing_inr, typing_case, typing_query}
use Rattle.calculus.proofs.Options.{same_value}

fun_right : {α β γ δ : Ty} → fun α β ≡ fun γ δ → β ≡ δ
fun_right p = cc

prod_left : {α β γ δ : Ty} → prod α β ≡ prod γ δ → α ≡ γ
prod_left p = cc

prod_right : {α β γ δ : Ty} → prod α β ≡ prod γ δ → β ≡ δ
prod_right p = cc

sum_left : {α β γ δ : Ty} → sum α β ≡ sum γ δ → α ≡ γ
sum_left p = cc

module _ (ρ : ℕ → Ty) (profile : ℕ) where
  pub one_type : {Γ : List Ty} {e : Term} {τ σ : Ty} → Typed ρ profile Γ e τ → Typed ρ profile Γ e σ → τ ≡ σ
  one_type (typing_var p) (typing_var q) = cc
  one_type typing_z typing_z = refl
  one_type (typing_s d) (typing_s d') = refl
  one_type (typing_rec d a b v) (typing_rec d' a' b' v') = one_type a a'
  one_type (typing_abs {t = t} b) (typing_abs b') = ap (fun (ρ t)) (one_type b b')
  one_type (typing_fapp f a) (typing_fapp f' a') = fun_right (one_type f f')
  one_type typing_null typing_null = refl
  one_type (typing_pair a b) (typing_pair a' b') = λ i. prod (one_type a a' i) (one_type b b' i)
  one_type (typing_fst d) (typing_fst d') = prod_left (one_type d d')
  one_type (typing_snd d) (typing_snd d') = prod_right (one_type d d')
  one_type (typing_abort d) (typing_abort d') = refl
  one_type (typing_inl {t = t} d) (typing_inl d') = ap (λ α. sum α (ρ t)) (one_type d d')
  one_type (typing_inr {t = t} d) (typing_inr d') = ap (sum (ρ t)) (one_type d d')
  one_type (typing_case {Γ = Γ} {e₁ = a} d x y) (typing_case {τ = σ} d' x' y') =
      one_type x (subst (λ (γ : Ty). Typed ρ profile (γ ∷ Γ) a σ) (sym (sum_left (one_type d d'))) x')
  one_type (typing_query p d) (typing_query q d') = ap shape_type (same_value p q)
