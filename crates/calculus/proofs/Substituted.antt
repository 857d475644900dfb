-- Substitution of closed terms keeps types.
use Rattle.std.proofs.Common.{◌≡◌, ℕ, zero, suc, List, [], ◌∷◌, ◌++◌, Some, None, Option, unwrap_or, subst}
use Rattle.std.specs.List.{slice_get}
use Rattle.calculus.specs.Syntax.{Ty, nat, Term, VA, Value, val_z, val_s, val_abs, val_null, val_prod, val_inl, val_inr, up, put, one}
use Rattle.calculus.specs.Typing.{Typed, typing_var, typing_z, typing_s, typing_rec, typing_abs, typing_fapp, typing_null, typing_pair, typing_fst, typing_snd, typing_abort, typing_inl, typing_inr, typing_case, typing_query}
use Rattle.calculus.proofs.Options.{some_injective}

pub put_value : {e : Term} (s : ℕ → Option Term) → Value e → Value (put s e)
put_value s val_z = val_z
put_value s (val_s x) = val_s (put_value s x)
put_value s val_abs = val_abs
put_value s val_null = val_null
put_value s (val_prod x y) = val_prod (put_value s x) (put_value s y)
put_value s (val_inl x) = val_inl (put_value s x)
put_value s (val_inr x) = val_inr (put_value s x)

nth_longer : (Δ Γ : List Ty) (i : ℕ) {τ : Ty} → slice_get Γ i ≡ Some τ → slice_get (Γ ++ Δ) i ≡ Some τ
nth_longer Δ [] i p = cc
nth_longer Δ (α ∷ Γ) zero p = p
nth_longer Δ (α ∷ Γ) (suc i) p = nth_longer Δ Γ i p

-- what a substitution gives for a variable of type τ: nothing, and Δ has the variable, or a closed term of that type
pub data Suits (ρ : ℕ → Ty) (profile : ℕ) (Δ : List Ty) (τ : Ty) (i : ℕ) : Option Term → Type 0 where
  stays : slice_get Δ i ≡ Some τ → Suits ρ profile Δ τ i None
  given : {v : Term} → Typed ρ profile [] v τ → Suits ρ profile Δ τ i (Some v)

module _ (ρ : ℕ → Ty) (profile : ℕ) where
  -- a term keeps its type in a longer context
  pub typed_longer : (Δ : List Ty) {Γ : List Ty} {e : Term} {τ : Ty} → Typed ρ profile Γ e τ → Typed ρ profile (Γ ++ Δ) e τ
  typed_longer Δ (typing_var {Γ = Γ} {i = i} p) = typing_var (nth_longer Δ Γ i p)
  typed_longer Δ typing_z = typing_z
  typed_longer Δ (typing_s d) = typing_s (typed_longer Δ d)
  typed_longer Δ (typing_rec d a b v) = typing_rec (typed_longer Δ d) (typed_longer Δ a) (typed_longer Δ b) v
  typed_longer Δ (typing_abs b) = typing_abs (typed_longer Δ b)
  typed_longer Δ (typing_fapp f a) = typing_fapp (typed_longer Δ f) (typed_longer Δ a)
  typed_longer Δ typing_null = typing_null
  typed_longer Δ (typing_pair a b) = typing_pair (typed_longer Δ a) (typed_longer Δ b)
  typed_longer Δ (typing_fst d) = typing_fst (typed_longer Δ d)
  typed_longer Δ (typing_snd d) = typing_snd (typed_longer Δ d)
  typed_longer Δ (typing_abort d) = typing_abort (typed_longer Δ d)
  typed_longer Δ (typing_inl d) = typing_inl (typed_longer Δ d)
  typed_longer Δ (typing_inr d) = typing_inr (typed_longer Δ d)
  typed_longer Δ (typing_case d a b) = typing_case (typed_longer Δ d) (typed_longer Δ a) (typed_longer Δ b)
  typed_longer Δ (typing_query p d) = typing_query p (typed_longer Δ d)

  -- the substitution leads from Γ to Δ
  abbrev pub Leads : List Ty → List Ty → (ℕ → Option Term) → Type 0
  Leads Γ Δ s = (i : ℕ) (τ : Ty) → slice_get Γ i ≡ Some τ → Suits ρ profile Δ τ i (s i)

  suits_up : {Δ : List Ty} {τ : Ty} {i : ℕ} {o : Option Term} (α : Ty) → Suits ρ profile Δ τ i o → Suits ρ profile (α ∷ Δ) τ (suc i) o
  suits_up α (stays p) = stays p
  suits_up α (given d) = given d

  leads_up : (α : Ty) (Γ Δ : List Ty) (s : ℕ → Option Term) → Leads Γ Δ s → Leads (α ∷ Γ) (α ∷ Δ) (up s)
  leads_up α Γ Δ s f zero τ p = stays p
  leads_up α Γ Δ s f (suc i) τ p = suits_up α (f i τ p)

  put_var : {Δ : List Ty} {τ : Ty} {i : ℕ} {o : Option Term} → Suits ρ profile Δ τ i o → Typed ρ profile Δ (unwrap_or o (VA i)) τ
  put_var (stays p) = typing_var p
  put_var {Δ = Δ} (given d) = typed_longer Δ d

  pub put_typed : {Γ : List Ty} {e : Term} {τ : Ty} (Δ : List Ty) (s : ℕ → Option Term)
      → Typed ρ profile Γ e τ → Leads Γ Δ s → Typed ρ profile Δ (put s e) τ
  put_typed {τ = τ} Δ s (typing_var {i = i} p) f = put_var (f i τ p)
  put_typed Δ s typing_z f = typing_z
  put_typed Δ s (typing_s d) f = typing_s (put_typed Δ s d f)
  put_typed Δ s (typing_rec {Γ = Γ} d a b v) f =
      typing_rec (put_typed Δ s d f) (put_typed Δ s a f) (put_typed (nat ∷ Δ) (up s) b (leads_up nat Γ Δ s f)) (put_value (up s) v)
  put_typed Δ s (typing_abs {Γ = Γ} {t = t} b) f = typing_abs (put_typed (ρ t ∷ Δ) (up s) b (leads_up (ρ t) Γ Δ s f))
  put_typed Δ s (typing_fapp x y) f = typing_fapp (put_typed Δ s x f) (put_typed Δ s y f)
  put_typed Δ s typing_null f = typing_null
  put_typed Δ s (typing_pair x y) f = typing_pair (put_typed Δ s x f) (put_typed Δ s y f)
  put_typed Δ s (typing_fst d) f = typing_fst (put_typed Δ s d f)
  put_typed Δ s (typing_snd d) f = typing_snd (put_typed Δ s d f)
  put_typed Δ s (typing_abort d) f = typing_abort (put_typed Δ s d f)
  put_typed Δ s (typing_inl d) f = typing_inl (put_typed Δ s d f)
  put_typed Δ s (typing_inr d) f = typing_inr (put_typed Δ s d f)
  put_typed Δ s (typing_case {Γ = Γ} {τ₁ = α} {τ₂ = β} d x y) f =
      typing_case (put_typed Δ s d f) (put_typed (α ∷ Δ) (up s) x (leads_up α Γ Δ s f))
      (put_typed (β ∷ Δ) (up s) y (leads_up β Γ Δ s f))
  put_typed Δ s (typing_query p d) f = typing_query p (put_typed Δ s d f)

  leads_one : {α : Ty} {v : Term} → Typed ρ profile [] v α → Leads (α ∷ []) [] (one v)
  leads_one {v = v} d zero τ p = given (subst (λ (σ : Ty). Typed ρ profile [] v σ) (some_injective p) d)
  leads_one d (suc i) τ p = cc

  pub one_typed : {α τ : Ty} {v e : Term} → Typed ρ profile [] v α → Typed ρ profile (α ∷ []) e τ → Typed ρ profile [] (put (one v) e) τ
  one_typed {v = v} d b = put_typed [] (one v) b (leads_one d)
