-- The typing judgement.
--   shape_type   the type of the answers of a shape
--   Typed        the judgement: in a context, a term has a type
--   TypesBelow   the type numbers of a term are below a bound
-- Assumes nothing.
use Rattle.std.specs.Prelude.{◌≡◌, ℕ, ◌<◌, List, ◌∷◌, Some}
use Rattle.std.specs.List.{slice_get}
use Rattle.calculus.specs.Syntax.{Ty, nat, unit, void, fun, prod, sum, Term, VA, ZE, SU, RE, LA, AP, TR, PA, FS, SN, AB, IL, IR, CA, QU, Value}
use Rattle.calculus.specs.declared.answer.Shape.{Shape}
use Rattle.calculus.specs.declared.answer.Shape.TheVariants as shape
use Rattle.calculus.specs.Meanings.{question_shape}

abbrev pub shape_type : Shape → Ty
shape_type shape.Number = nat
shape_type shape.Flag = sum unit unit
shape_type shape.Maybe = sum unit nat
shape_type shape.Pair = prod nat nat

-- `Typed ρ profile Γ e τ`: where ρ reads type numbers and the host has this profile, in the context Γ, whose head is the
-- type of variable 0, the term e has the type τ.
pub data Typed (ρ : ℕ → Ty) (profile : ℕ) : List Ty → Term → Ty → Type 0 where
  typing_var : {Γ : List Ty} {i : ℕ} {τ : Ty} → slice_get Γ i ≡ Some τ → Typed ρ profile Γ (VA i) τ
  typing_z : {Γ : List Ty} → Typed ρ profile Γ ZE nat
  typing_s : {Γ : List Ty} {e : Term} → Typed ρ profile Γ e nat → Typed ρ profile Γ (SU e) nat
  -- the third child is a value of type τ → τ, which at that type is a function
  typing_rec : {Γ : List Ty} {e e₀ e₁ : Term} {τ : Ty}
      → Typed ρ profile Γ e nat → Typed ρ profile Γ e₀ τ → Typed ρ profile (nat ∷ Γ) e₁ (fun τ τ) → Value e₁
      → Typed ρ profile Γ (RE e e₀ e₁) τ
  -- the number is the parameter's type
  typing_abs : {Γ : List Ty} {t : ℕ} {e : Term} {τ₂ : Ty}
      → Typed ρ profile (ρ t ∷ Γ) e τ₂ → Typed ρ profile Γ (LA t e) (fun (ρ t) τ₂)
  typing_fapp : {Γ : List Ty} {e₁ e₂ : Term} {τ₁ τ₂ : Ty}
      → Typed ρ profile Γ e₁ (fun τ₁ τ₂) → Typed ρ profile Γ e₂ τ₁ → Typed ρ profile Γ (AP e₁ e₂) τ₂
  typing_null : {Γ : List Ty} → Typed ρ profile Γ TR unit
  typing_pair : {Γ : List Ty} {e₁ e₂ : Term} {τ₁ τ₂ : Ty}
      → Typed ρ profile Γ e₁ τ₁ → Typed ρ profile Γ e₂ τ₂ → Typed ρ profile Γ (PA e₁ e₂) (prod τ₁ τ₂)
  typing_fst : {Γ : List Ty} {e : Term} {τ₁ τ₂ : Ty} → Typed ρ profile Γ e (prod τ₁ τ₂) → Typed ρ profile Γ (FS e) τ₁
  typing_snd : {Γ : List Ty} {e : Term} {τ₁ τ₂ : Ty} → Typed ρ profile Γ e (prod τ₁ τ₂) → Typed ρ profile Γ (SN e) τ₂
  -- the number is the result's type
  typing_abort : {Γ : List Ty} {t : ℕ} {e : Term} → Typed ρ profile Γ e void → Typed ρ profile Γ (AB t e) (ρ t)
  -- the number is the type of the other side: of the right one for inl, of the left one for inr
  typing_inl : {Γ : List Ty} {t : ℕ} {e : Term} {τ₁ : Ty} → Typed ρ profile Γ e τ₁ → Typed ρ profile Γ (IL t e) (sum τ₁ (ρ t))
  typing_inr : {Γ : List Ty} {t : ℕ} {e : Term} {τ₂ : Ty} → Typed ρ profile Γ e τ₂ → Typed ρ profile Γ (IR t e) (sum (ρ t) τ₂)
  typing_case : {Γ : List Ty} {e e₁ e₂ : Term} {τ₁ τ₂ τ : Ty}
      → Typed ρ profile Γ e (sum τ₁ τ₂) → Typed ρ profile (τ₁ ∷ Γ) e₁ τ → Typed ρ profile (τ₂ ∷ Γ) e₂ τ
      → Typed ρ profile Γ (CA e e₁ e₂) τ
  typing_query : {Γ : List Ty} {q : ℕ} {e : Term} {s : Shape}
      → question_shape profile q ≡ Some s → Typed ρ profile Γ e nat → Typed ρ profile Γ (QU q e) (shape_type s)

abbrev pub TypesBelow : ℕ → Term → Type 0
TypesBelow k (VA i) = Unit {0}
TypesBelow k ZE = Unit {0}
TypesBelow k (SU e) = TypesBelow k e
TypesBelow k (RE e a b) = TypesBelow k e × TypesBelow k a × TypesBelow k b
TypesBelow k (LA t b) = (t < k) × TypesBelow k b
TypesBelow k (AP f a) = TypesBelow k f × TypesBelow k a
TypesBelow k TR = Unit {0}
TypesBelow k (PA a b) = TypesBelow k a × TypesBelow k b
TypesBelow k (FS e) = TypesBelow k e
TypesBelow k (SN e) = TypesBelow k e
TypesBelow k (AB t e) = (t < k) × TypesBelow k e
TypesBelow k (IL t e) = (t < k) × TypesBelow k e
TypesBelow k (IR t e) = (t < k) × TypesBelow k e
TypesBelow k (CA e a b) = TypesBelow k e × TypesBelow k a × TypesBelow k b
TypesBelow k (QU q e) = TypesBelow k e
