-- Where a term has no derivation: at a node at fault, and around a reached subterm without one. Assumes nothing.
use Rattle.std.proofs.Common.{◌≡◌, ℕ, List, ◌∷◌, sym, ap, ◌∙◌, subst}
use Rattle.std.proofs.lemmas.Option.{slice_get_past}
use Rattle.refusals.specs.declared.Question.{Question}
use Rattle.calculus.specs.Syntax.{Ty, fun, sum, Term}
use Rattle.calculus.specs.Typing.{Typed, typing_var, typing_s, typing_rec, typing_abs, typing_fapp, typing_pair, typing_fst, typing_snd, typing_abort, typing_inl, typing_inr, typing_case, typing_query}
use Rattle.calculus.proofs.OneType.{one_type}
use Rattle.checker.specs.Derivations.{Reached, here, in_s, in_rec_1, in_rec_2, in_rec_3, in_abs, in_fapp_1, in_fapp_2, in_pair_1, in_pair_2, in_fst, in_snd, in_abort, in_inl, in_inr, in_case_1, in_case_2, in_case_3, in_query, Fault, unbound, unknown, s_no_nat, rec_no_nat, query_no_nat, abort_no_void, fapp_no_function, fst_no_product, snd_no_product, case_no_sum, argument_differs, step_differs, branches_differ, step_no_value, Untyped}

fun_left : {α β γ δ : Ty} → fun α β ≡ fun γ δ → α ≡ γ
fun_left p = cc

sum_left : {α β γ δ : Ty} → sum α β ≡ sum γ δ → α ≡ γ
sum_left p = cc

sum_right : {α β γ δ : Ty} → sum α β ≡ sum γ δ → β ≡ δ
sum_right p = cc

module _ (ρ : ℕ → Ty) (profile : ℕ) where
  -- a derivation under a binder, by another type of it that is equal
  rebound : {Γ : List Ty} {e : Term} {α β τ : Ty} → α ≡ β → Typed ρ profile (α ∷ Γ) e τ → Typed ρ profile (β ∷ Γ) e τ
  rebound {Γ} {e} {τ = τ} p d = subst (λ (γ : Ty). Typed ρ profile (γ ∷ Γ) e τ) p d

  fault_denies : {Γ : List Ty} {k : ℕ} {e : Term} {q : Question} {τ : Ty} → Fault ρ profile Γ k e q → Typed ρ profile Γ e τ → ⊥
  fault_denies (unbound {i = i} h) (typing_var {Γ = Γ} p) = cc (sym (slice_get_past Γ i h) ∙ p)
  fault_denies (unknown p) (typing_query s d) = cc (sym p ∙ s)
  fault_denies (s_no_nat d n) (typing_s d') = n (one_type ρ profile d d')
  fault_denies (rec_no_nat d n) (typing_rec d' a b v) = n (one_type ρ profile d d')
  fault_denies (query_no_nat p d n) (typing_query s d') = n (one_type ρ profile d d')
  fault_denies (abort_no_void d n) (typing_abort d') = n (one_type ρ profile d d')
  fault_denies (fapp_no_function d n) (typing_fapp f a) = n _ _ (one_type ρ profile d f)
  fault_denies (fst_no_product d n) (typing_fst d') = n _ _ (one_type ρ profile d d')
  fault_denies (snd_no_product d n) (typing_snd d') = n _ _ (one_type ρ profile d d')
  fault_denies (case_no_sum d n) (typing_case d' a b) = n _ _ (one_type ρ profile d d')
  fault_denies (argument_differs f a n) (typing_fapp f' a') =
      n (one_type ρ profile a a' ∙ fun_left (one_type ρ profile f' f))
  fault_denies (step_differs d a b n) (typing_rec d' a' b' v) =
      n (one_type ρ profile b b' ∙ ap (λ (τ : Ty). fun τ τ) (one_type ρ profile a' a))
  fault_denies (branches_differ d a b n) (typing_case d' a' b') =
      let p = one_type ρ profile d' d in
      n (one_type ρ profile b (rebound (sum_right p) b') ∙ one_type ρ profile (rebound (sum_left p) a') a)
  fault_denies (step_no_value d a b n) (typing_rec d' a' b' v) = n v

  reached_denies : {Γ Δ : List Ty} {e u : Term} {p k : ℕ} → Reached ρ profile Γ e p Δ u k → Untyped ρ profile Δ u
      → Untyped ρ profile Γ e
  reached_denies here n τ d = n τ d
  reached_denies (in_s r) n τ (typing_s d) = reached_denies r n _ d
  reached_denies (in_rec_1 r) n τ (typing_rec d a b v) = reached_denies r n _ d
  reached_denies (in_rec_2 x r) n τ (typing_rec d a b v) = reached_denies r n _ a
  reached_denies (in_rec_3 x y r) n τ (typing_rec d a b v) = reached_denies r n _ b
  reached_denies (in_abs r) n τ (typing_abs d) = reached_denies r n _ d
  reached_denies (in_fapp_1 r) n τ (typing_fapp f a) = reached_denies r n _ f
  reached_denies (in_fapp_2 x r) n τ (typing_fapp f a) = reached_denies r n _ a
  reached_denies (in_pair_1 r) n τ (typing_pair a b) = reached_denies r n _ a
  reached_denies (in_pair_2 x r) n τ (typing_pair a b) = reached_denies r n _ b
  reached_denies (in_fst r) n τ (typing_fst d) = reached_denies r n _ d
  reached_denies (in_snd r) n τ (typing_snd d) = reached_denies r n _ d
  reached_denies (in_abort r) n τ (typing_abort d) = reached_denies r n _ d
  reached_denies (in_inl r) n τ (typing_inl d) = reached_denies r n _ d
  reached_denies (in_inr r) n τ (typing_inr d) = reached_denies r n _ d
  reached_denies (in_case_1 r) n τ (typing_case d a b) = reached_denies r n _ d
  reached_denies (in_case_2 x r) n τ (typing_case d a b) =
      reached_denies r n _ (rebound (sum_left (one_type ρ profile d x)) a)
  reached_denies (in_case_3 x y r) n τ (typing_case d a b) =
      reached_denies r n _ (rebound (sum_right (one_type ρ profile d x)) b)
  reached_denies (in_query p r) n τ (typing_query s d) = reached_denies r n _ d

pub faults_deny : (ρ : ℕ → Ty) (profile : ℕ) (Γ : List Ty) (k : ℕ) (e : Term) (q : Question)
    → Fault ρ profile Γ k e q → Untyped ρ profile Γ e
faults_deny ρ profile Γ k e q f τ = fault_denies ρ profile f

pub reached_deny : (ρ : ℕ → Ty) (profile : ℕ) (Γ Δ : List Ty) (e u : Term) (p k : ℕ)
    → Reached ρ profile Γ e p Δ u k → Untyped ρ profile Δ u → Untyped ρ profile Γ e
reached_deny ρ profile Γ Δ e u p k = reached_denies ρ profile
