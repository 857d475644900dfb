-- The type of a term, computed. Safety states that it is the judgement.
--   value?                    whether a term is a value
--   and_then                  what is computed from an option's value
--   when                      an option, if a test passes
--   as_fun, as_prod, as_sum   the two parts of a type of that form
--   rec_type, fapp_type       the type of a rec and of an application, by the types of their children
--   infer                     the type of a term in a context, or none
-- Assumes nothing.
use Rattle.std.specs.Prelude.{ℕ, Bool, true, false, cond, List, ◌∷◌, Some, None, Option}
use Rattle.std.specs.List.{slice_get}
use Rattle.std.specs.Option.{option_map}
use Rattle.calculus.specs.Syntax.{Ty, Ty-discrete, nat, unit, void, fun, prod, sum, Term, VA, ZE, SU, RE, LA, AP, TR, PA, FS, SN, AB, IL, IR, CA, QU}
use Rattle.calculus.specs.Meanings.{question_shape}
use Rattle.calculus.specs.Typing.{shape_type}

abbrev pub value? : Term → Bool
value? (VA i) = false
value? ZE = true
value? (SU e) = value? e
value? (RE e a b) = false
value? (LA t b) = true
value? (AP f a) = false
value? TR = true
value? (PA a b) = cond (value? a) (value? b) false
value? (FS e) = false
value? (SN e) = false
value? (AB t e) = false
value? (IL t e) = value? e
value? (IR t e) = value? e
value? (CA e a b) = false
value? (QU q e) = false

abbrev pub and_then : {A B : Type 0} → Option A → (A → Option B) → Option B
and_then None k = None
and_then (Some x) k = k x

abbrev pub when : {P A : Type 0} → Dec P → Option A → Option A
when (yes _) o = o
when (no _) o = None

abbrev pub as_fun : Ty → Option (Ty × Ty)
as_fun nat = None
as_fun unit = None
as_fun void = None
as_fun (fun α β) = Some (α, β)
as_fun (prod α β) = None
as_fun (sum α β) = None

abbrev pub as_prod : Ty → Option (Ty × Ty)
as_prod nat = None
as_prod unit = None
as_prod void = None
as_prod (fun α β) = None
as_prod (prod α β) = Some (α, β)
as_prod (sum α β) = None

abbrev pub as_sum : Ty → Option (Ty × Ty)
as_sum nat = None
as_sum unit = None
as_sum void = None
as_sum (fun α β) = None
as_sum (prod α β) = None
as_sum (sum α β) = Some (α, β)

-- The third child of a rec must be a value too.
abbrev pub rec_type : Bool → Ty → Ty → Ty → Option Ty
rec_type v t τ u = when (Ty-discrete t nat) (when (Ty-discrete u (fun τ τ)) (cond v (Some τ) None))

abbrev pub fapp_type : Ty → Ty → Option Ty
fapp_type t u = and_then (as_fun t) λ x. when (Ty-discrete u x.0) (Some x.1)

abbrev pub infer : (ℕ → Ty) → ℕ → List Ty → Term → Option Ty
infer ρ p Γ (VA i) = slice_get Γ i
infer ρ p Γ ZE = Some nat
infer ρ p Γ (SU e) = and_then (infer ρ p Γ e) λ t. when (Ty-discrete t nat) (Some nat)
infer ρ p Γ (RE e a b) =
    and_then (infer ρ p Γ e) λ t. and_then (infer ρ p Γ a) λ τ. and_then (infer ρ p (nat ∷ Γ) b) λ u. rec_type (value? b) t τ u
infer ρ p Γ (LA t b) = option_map (fun (ρ t)) (infer ρ p (ρ t ∷ Γ) b)
infer ρ p Γ (AP f a) = and_then (infer ρ p Γ f) λ t. and_then (infer ρ p Γ a) λ u. fapp_type t u
infer ρ p Γ TR = Some unit
infer ρ p Γ (PA a b) = and_then (infer ρ p Γ a) λ t. and_then (infer ρ p Γ b) λ u. Some (prod t u)
infer ρ p Γ (FS e) = and_then (infer ρ p Γ e) λ t. option_map (λ x. x.0) (as_prod t)
infer ρ p Γ (SN e) = and_then (infer ρ p Γ e) λ t. option_map (λ x. x.1) (as_prod t)
infer ρ p Γ (AB t e) = and_then (infer ρ p Γ e) λ u. when (Ty-discrete u void) (Some (ρ t))
infer ρ p Γ (IL t e) = option_map (λ u. sum u (ρ t)) (infer ρ p Γ e)
infer ρ p Γ (IR t e) = option_map (λ u. sum (ρ t) u) (infer ρ p Γ e)
infer ρ p Γ (CA e a b) =
    and_then (infer ρ p Γ e) λ t. and_then (as_sum t) λ x.
    and_then (infer ρ p (x.0 ∷ Γ) a) λ τ. and_then (infer ρ p (x.1 ∷ Γ) b) λ u. when (Ty-discrete u τ) (Some τ)
infer ρ p Γ (QU q e) =
    and_then (question_shape p q) λ s. and_then (infer ρ p Γ e) λ t. when (Ty-discrete t nat) (Some (shape_type s))
