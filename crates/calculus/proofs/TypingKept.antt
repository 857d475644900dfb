-- A term keeps its type where the type numbers that it has read as before, as they do when a type table grows.
use Rattle.std.proofs.Common.{◌≡◌, ℕ, ◌<◌, ◌↔◌, List, ◌∷◌, ◌++◌, length, sym, subst}
use Rattle.calculus.specs.declared.entry.Entry.{Entry}
use Rattle.calculus.specs.Syntax.{Ty, fun, sum, Term, LA, AB, IL, IR}
use Rattle.calculus.specs.Tables.{reading}
use Rattle.calculus.specs.Typing.{Typed, TypesBelow, typing_var, typing_z, typing_s, typing_rec, typing_abs, typing_fapp, typing_null, typing_pair, typing_fst, typing_snd, typing_abort, typing_inl, typing_inr, typing_case, typing_query}
use Rattle.calculus.proofs.Readings.{readings_kept}

module _ (ρ σ : ℕ → Ty) (k : ℕ) (same : (n : ℕ) → n < k → ρ n ≡ σ n) (profile : ℕ) where
  pub reread : {Γ : List Ty} {e : Term} {τ : Ty} → TypesBelow k e → Typed ρ profile Γ e τ → Typed σ profile Γ e τ
  reread h (typing_var p) = typing_var p
  reread h typing_z = typing_z
  reread h (typing_s d) = typing_s (reread h d)
  reread h (typing_rec d a b v) = typing_rec (reread h.0 d) (reread h.1 a) (reread h.2 b) v
  reread h (typing_abs {Γ = Γ} {t = t} {e = e} {τ₂ = β} d) =
      let p = same t h.0 in
      subst (λ (α : Ty). Typed σ profile Γ (LA t e) (fun α β)) (sym p)
      (typing_abs (subst (λ (α : Ty). Typed σ profile (α ∷ Γ) e β) p (reread h.1 d)))
  reread h (typing_fapp f a) = typing_fapp (reread h.0 f) (reread h.1 a)
  reread h typing_null = typing_null
  reread h (typing_pair a b) = typing_pair (reread h.0 a) (reread h.1 b)
  reread h (typing_fst d) = typing_fst (reread h d)
  reread h (typing_snd d) = typing_snd (reread h d)
  reread h (typing_abort {Γ = Γ} {t = t} {e = e} d) =
      subst (λ (α : Ty). Typed σ profile Γ (AB t e) α) (sym (same t h.0)) (typing_abort (reread h.1 d))
  reread h (typing_inl {Γ = Γ} {t = t} {e = e} {τ₁ = α} d) =
      subst (λ (β : Ty). Typed σ profile Γ (IL t e) (sum α β)) (sym (same t h.0)) (typing_inl (reread h.1 d))
  reread h (typing_inr {Γ = Γ} {t = t} {e = e} {τ₂ = β} d) =
      subst (λ (α : Ty). Typed σ profile Γ (IR t e) (sum α β)) (sym (same t h.0)) (typing_inr (reread h.1 d))
  reread h (typing_case d a b) = typing_case (reread h.0 d) (reread h.1 a) (reread h.2 b)
  reread h (typing_query p d) = typing_query p (reread h d)

pub typing_kept : (es more : List Entry) (profile : ℕ) (Γ : List Ty) (e : Term) (τ : Ty) → TypesBelow (length es) e
    → Typed (reading es) profile Γ e τ ↔ Typed (reading (es ++ more)) profile Γ e τ
typing_kept es more profile Γ e τ h = (
  reread (reading es) (reading (es ++ more)) (length es) (λ n l. sym (readings_kept es more n l)) profile h,
  reread (reading (es ++ more)) (reading es) (length es) (readings_kept es more) profile h,
)
