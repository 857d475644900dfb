-- `infer` computes the typing judgement.
use Rattle.std.proofs.Common.{◌≡◌, ℕ, cond, List, ◌∷◌, Some, None, Option, refl, ap, subst}
use Rattle.calculus.specs.Syntax.{Ty, Ty-discrete, nat, unit, void, fun, prod, sum, Term, VA, ZE, SU, RE, LA, AP, TR, PA, FS, SN, AB, IL, IR, CA, QU}
use Rattle.calculus.specs.Meanings.{question_shape}
use Rattle.calculus.specs.Typing.{shape_type, Typed, typing_var, typing_z, typing_s, typing_rec, typing_abs, typing_fapp, typing_null, typing_pair, typing_fst, typing_snd, typing_abort, typing_inl, typing_inr, typing_case, typing_query}
use Rattle.calculus.specs.Infer.{value?, and_then, when, as_fun, as_prod, as_sum, rec_type, fapp_type, infer}
use Rattle.calculus.proofs.Options.{some_injective, mapped_some, and_then_some, two_some, when_some, when_holds, cond_some}
use Rattle.calculus.proofs.Values.{value_true, true_value}

is_fun : (t : Ty) (x : Ty × Ty) → as_fun t ≡ Some x → t ≡ fun x.0 x.1
is_fun nat x p = cc
is_fun unit x p = cc
is_fun void x p = cc
is_fun (fun α β) x p = ap (λ y. fun y.0 y.1) (some_injective p)
is_fun (prod α β) x p = cc
is_fun (sum α β) x p = cc

is_prod : (t : Ty) (x : Ty × Ty) → as_prod t ≡ Some x → t ≡ prod x.0 x.1
is_prod nat x p = cc
is_prod unit x p = cc
is_prod void x p = cc
is_prod (fun α β) x p = cc
is_prod (prod α β) x p = ap (λ y. prod y.0 y.1) (some_injective p)
is_prod (sum α β) x p = cc

is_sum : (t : Ty) (x : Ty × Ty) → as_sum t ≡ Some x → t ≡ sum x.0 x.1
is_sum nat x p = cc
is_sum unit x p = cc
is_sum void x p = cc
is_sum (fun α β) x p = cc
is_sum (prod α β) x p = cc
is_sum (sum α β) x p = ap (λ y. sum y.0 y.1) (some_injective p)

module _ (ρ : ℕ → Ty) (profile : ℕ) where
  pub typed_infer : {Γ : List Ty} {e : Term} {τ : Ty} → Typed ρ profile Γ e τ → infer ρ profile Γ e ≡ Some τ
  typed_infer (typing_var p) = p
  typed_infer typing_z = refl
  typed_infer (typing_s d) = rw (typed_infer d)
  typed_infer (typing_rec {τ = τ} d a b v) =
      rw (typed_infer d, typed_infer a, typed_infer b, when_holds (Ty-discrete (fun τ τ) (fun τ τ)), value_true v)
  typed_infer (typing_abs d) = rw (typed_infer d)
  typed_infer (typing_fapp {τ₁ = α} f a) = rw (typed_infer f, typed_infer a, when_holds (Ty-discrete α α))
  typed_infer typing_null = refl
  typed_infer (typing_pair a b) = rw (typed_infer a, typed_infer b)
  typed_infer (typing_fst d) = rw (typed_infer d)
  typed_infer (typing_snd d) = rw (typed_infer d)
  typed_infer (typing_abort d) = rw (typed_infer d)
  typed_infer (typing_inl d) = rw (typed_infer d)
  typed_infer (typing_inr d) = rw (typed_infer d)
  typed_infer (typing_case {τ = τ} d a b) = rw (typed_infer d, typed_infer a, typed_infer b, when_holds (Ty-discrete τ τ))
  typed_infer (typing_query p d) = rw (p, typed_infer d)

  -- the type of a derivation, replaced by an equal one
  at : {Γ : List Ty} {e : Term} {σ τ : Ty} → σ ≡ τ → Typed ρ profile Γ e σ → Typed ρ profile Γ e τ
  at {Γ} {e} p d = subst (λ (t : Ty). Typed ρ profile Γ e t) p d

  -- and by an equal option
  ends : {Γ : List Ty} {e : Term} {σ τ : Ty} → Some σ ≡ Some τ → Typed ρ profile Γ e σ → Typed ρ profile Γ e τ
  ends p d = at (some_injective p) d

  rec_typed : {Γ : List Ty} {e a b : Term} {t τ u σ : Ty} → Typed ρ profile Γ e t → Typed ρ profile Γ a τ
      → Typed ρ profile (nat ∷ Γ) b u → rec_type (value? b) t τ u ≡ Some σ → Typed ρ profile Γ (RE e a b) σ
  rec_typed {b = b} {t = t} {τ = τ} {u = u} x y z p =
      let f = when_some (Ty-discrete t nat) (when (Ty-discrete u (fun τ τ)) (cond (value? b) (Some τ) None)) p in
      let g = when_some (Ty-discrete u (fun τ τ)) (cond (value? b) (Some τ) None) f.1 in
      let h = cond_some (value? b) (Some τ) g.1 in
      ends h.1 (typing_rec (at f.0 x) y (at g.0 z) (true_value b h.0))

  fapp_typed : {Γ : List Ty} {f a : Term} {t u σ : Ty} → Typed ρ profile Γ f t → Typed ρ profile Γ a u
      → fapp_type t u ≡ Some σ → Typed ρ profile Γ (AP f a) σ
  fapp_typed {t = t} {u = u} x y p =
      let g = and_then_some (as_fun t) (λ z. when (Ty-discrete u z.0) (Some z.1)) p in
      let h = when_some (Ty-discrete u g.0.0) (Some g.0.1) g.2 in
      ends h.1 (typing_fapp (at (is_fun t g.0 g.1) x) (at h.0 y))

  -- the type of a case, by the two sides of its first child
  abbrev case_type : List Ty → Term → Term → Ty × Ty → Option Ty
  case_type Γ a b x =
      and_then (infer ρ profile (x.0 ∷ Γ) a) λ τ. and_then (infer ρ profile (x.1 ∷ Γ) b) λ u. when (Ty-discrete u τ) (Some τ)

  case_typed : (Γ : List Ty) {e : Term} (a b : Term) (x : Ty × Ty) {σ : Ty} → Typed ρ profile Γ e (sum x.0 x.1)
      → ((τ : Ty) → infer ρ profile (x.0 ∷ Γ) a ≡ Some τ → Typed ρ profile (x.0 ∷ Γ) a τ)
      → ((τ : Ty) → infer ρ profile (x.1 ∷ Γ) b ≡ Some τ → Typed ρ profile (x.1 ∷ Γ) b τ)
      → case_type Γ a b x ≡ Some σ → Typed ρ profile Γ (CA e a b) σ
  case_typed Γ a b x d f g p =
      let y = two_some (infer ρ profile (x.0 ∷ Γ) a) (infer ρ profile (x.1 ∷ Γ) b) (λ τ u. when (Ty-discrete u τ) (Some τ)) p in
      let z = when_some (Ty-discrete y.1 y.0) (Some y.0) y.4 in
      ends z.1 (typing_case d (f y.0 y.2) (at z.0 (g y.1 y.3)))

  pub infer_typed : (Γ : List Ty) (e : Term) (τ : Ty) → infer ρ profile Γ e ≡ Some τ → Typed ρ profile Γ e τ
  infer_typed Γ (VA i) τ p = typing_var p
  infer_typed Γ ZE τ p = ends p typing_z
  infer_typed Γ (SU e) τ p =
      let x = and_then_some (infer ρ profile Γ e) _ p in
      let y = when_some (Ty-discrete x.0 nat) (Some nat) x.2 in
      ends y.1 (typing_s (at y.0 (infer_typed Γ e x.0 x.1)))
  infer_typed Γ (RE e a b) τ p =
      let x = and_then_some (infer ρ profile Γ e) _ p in
      let y = two_some (infer ρ profile Γ a) (infer ρ profile (nat ∷ Γ) b) (rec_type (value? b) x.0) x.2 in
      rec_typed (infer_typed Γ e x.0 x.1) (infer_typed Γ a y.0 y.2) (infer_typed (nat ∷ Γ) b y.1 y.3) y.4
  infer_typed Γ (LA t b) τ p =
      let x = mapped_some (fun (ρ t)) (infer ρ profile (ρ t ∷ Γ) b) p in
      at x.2 (typing_abs (infer_typed (ρ t ∷ Γ) b x.0 x.1))
  infer_typed Γ (AP f a) τ p =
      let x = two_some (infer ρ profile Γ f) (infer ρ profile Γ a) fapp_type p in
      fapp_typed (infer_typed Γ f x.0 x.2) (infer_typed Γ a x.1 x.3) x.4
  infer_typed Γ TR τ p = ends p typing_null
  infer_typed Γ (PA a b) τ p =
      let x = two_some (infer ρ profile Γ a) (infer ρ profile Γ b) (λ t u. Some (prod t u)) p in
      ends x.4 (typing_pair (infer_typed Γ a x.0 x.2) (infer_typed Γ b x.1 x.3))
  infer_typed Γ (FS e) τ p =
      let x = and_then_some (infer ρ profile Γ e) _ p in
      let y = mapped_some (λ z. z.0) (as_prod x.0) x.2 in
      at y.2 (typing_fst (at (is_prod x.0 y.0 y.1) (infer_typed Γ e x.0 x.1)))
  infer_typed Γ (SN e) τ p =
      let x = and_then_some (infer ρ profile Γ e) _ p in
      let y = mapped_some (λ z. z.1) (as_prod x.0) x.2 in
      at y.2 (typing_snd (at (is_prod x.0 y.0 y.1) (infer_typed Γ e x.0 x.1)))
  infer_typed Γ (AB t e) τ p =
      let x = and_then_some (infer ρ profile Γ e) _ p in
      let y = when_some (Ty-discrete x.0 void) (Some (ρ t)) x.2 in
      ends y.1 (typing_abort (at y.0 (infer_typed Γ e x.0 x.1)))
  infer_typed Γ (IL t e) τ p =
      let x = mapped_some (λ u. sum u (ρ t)) (infer ρ profile Γ e) p in
      at x.2 (typing_inl (infer_typed Γ e x.0 x.1))
  infer_typed Γ (IR t e) τ p =
      let x = mapped_some (λ u. sum (ρ t) u) (infer ρ profile Γ e) p in
      at x.2 (typing_inr (infer_typed Γ e x.0 x.1))
  infer_typed Γ (CA e a b) τ p =
      let x = and_then_some (infer ρ profile Γ e) _ p in
      let y = and_then_some (as_sum x.0) (case_type Γ a b) x.2 in
      case_typed Γ a b y.0 (at (is_sum x.0 y.0 y.1) (infer_typed Γ e x.0 x.1))
      (infer_typed (y.0.0 ∷ Γ) a) (infer_typed (y.0.1 ∷ Γ) b) y.2
  infer_typed Γ (QU q e) τ p =
      let x = two_some (question_shape profile q) (infer ρ profile Γ e) (λ s t. when (Ty-discrete t nat) (Some (shape_type s))) p in
      let y = when_some (Ty-discrete x.1 nat) (Some (shape_type x.0)) x.4 in
      ends y.1 (typing_query x.2 (at y.0 (infer_typed Γ e x.1 x.3)))
