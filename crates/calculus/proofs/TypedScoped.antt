-- A term with a type has only the variables of its context.
use Rattle.std.proofs.Common.{◌≡◌, ℕ, zero, suc, ◌<◌, List, [], ◌∷◌, length, Some, suc-le-suc, zero-le}
use Rattle.std.specs.List.{slice_get}
use Rattle.calculus.specs.Syntax.{Ty, Term, Scoped, scoped_var, scoped_z, scoped_s, scoped_rec, scoped_abs, scoped_fapp, scoped_null, scoped_pair, scoped_fst, scoped_snd, scoped_abort, scoped_inl, scoped_inr, scoped_case, scoped_query}
use Rattle.calculus.specs.Typing.{Typed, typing_var, typing_z, typing_s, typing_rec, typing_abs, typing_fapp, typing_null, typing_pair, typing_fst, typing_snd, typing_abort, typing_inl, typing_inr, typing_case, typing_query}

nth_within : (Γ : List Ty) (i : ℕ) {τ : Ty} → slice_get Γ i ≡ Some τ → i < length Γ
nth_within [] i p = cc
nth_within (α ∷ Γ) zero p = suc-le-suc zero-le
nth_within (α ∷ Γ) (suc i) p = suc-le-suc (nth_within Γ i p)

module _ (ρ : ℕ → Ty) (profile : ℕ) where
  pub typed_scoped : {Γ : List Ty} {e : Term} {τ : Ty} → Typed ρ profile Γ e τ → Scoped (length Γ) e
  typed_scoped (typing_var {Γ = Γ} {i = i} p) = scoped_var (nth_within Γ i p)
  typed_scoped typing_z = scoped_z
  typed_scoped (typing_s d) = scoped_s (typed_scoped d)
  typed_scoped (typing_rec d a b v) = scoped_rec (typed_scoped d) (typed_scoped a) (typed_scoped b)
  typed_scoped (typing_abs b) = scoped_abs (typed_scoped b)
  typed_scoped (typing_fapp f a) = scoped_fapp (typed_scoped f) (typed_scoped a)
  typed_scoped typing_null = scoped_null
  typed_scoped (typing_pair a b) = scoped_pair (typed_scoped a) (typed_scoped b)
  typed_scoped (typing_fst d) = scoped_fst (typed_scoped d)
  typed_scoped (typing_snd d) = scoped_snd (typed_scoped d)
  typed_scoped (typing_abort d) = scoped_abort (typed_scoped d)
  typed_scoped (typing_inl d) = scoped_inl (typed_scoped d)
  typed_scoped (typing_inr d) = scoped_inr (typed_scoped d)
  typed_scoped (typing_case d a b) = scoped_case (typed_scoped d) (typed_scoped a) (typed_scoped b)
  typed_scoped (typing_query p d) = scoped_query (typed_scoped d)
