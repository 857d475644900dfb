-- Contexts: the types of the binders around a node, the innermost first.
--   Small       the first numbers of a list are below 2 ^ 16
--   context     the types of the first binders of a list, the innermost first
--   bind        a context, with one more binder if there is one
--   unbind      a context without its innermost binder, if that is to go
-- Assumes nothing.
use Rattle.std.specs.Prelude.{ℕ, zero, suc, ◌^◌, ◌<◌, Bool, true, false, List, [], ◌∷◌, Some, None, Option, slice_index}

abbrev pub Small : List ℕ → ℕ → Type 0
Small words n = (i : ℕ) → i < n → slice_index words i < 2 ^ 16

abbrev pub context : List ℕ → ℕ → List ℕ
context binders zero = []
context binders (suc b) = slice_index binders b ∷ context binders b

abbrev pub bind : Option ℕ → List ℕ → List ℕ
bind None Γ = Γ
bind (Some t) Γ = t ∷ Γ

abbrev pub unbind : Bool → List ℕ → List ℕ
unbind false Γ = Γ
unbind true [] = []
unbind true (t ∷ Γ) = Γ
