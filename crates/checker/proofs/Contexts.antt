-- Contexts of binders. Assumes nothing.
use Rattle.std.proofs.Common.{◌≡◌, ℕ, zero, suc, ◌+◌, ◌-◌, ◌^◌, ◌<◌, ◌≤◌, List, ◌∷◌, length, get_or, set, is_some, Some, None, Option, sym, refl, ap, ◌∙◌, inl, inr, arith}
use Rattle.std.specs.List.{slice_get}
use Rattle.std.proofs.lemmas.List.{get_or-set_same, get_or-set_other, length-set}
use Rattle.std.proofs.lemmas.Bool.{cases_eq}
use Rattle.checker.specs.Contexts.{Small, context, bind, unbind}
use Rattle.checker.specs.Binders.{Bound}

pub length_context : (B : List ℕ) (b : ℕ) → length (context B b) ≡ b
length_context B zero = refl
length_context B (suc b) = ap suc (length_context B b)

pub context_at : (B : List ℕ) (b i : ℕ) → i < b → slice_get (context B b) i ≡ Some (get_or B (b - 1 - i) 0)
context_at B zero i h = absurd (omega arith)
context_at B (suc b) zero h = let e : suc b - 1 - 0 ≡ b = omega arith in rw e
context_at B (suc b) (suc i) h = let e : suc b - 1 - suc i ≡ b - 1 - i = omega arith in rw e (context_at B b i (omega arith))

pub context_past : (B : List ℕ) (b i : ℕ) → b ≤ i → slice_get (context B b) i ≡ None
context_past B zero i h = refl
context_past B (suc b) zero h = absurd (omega arith)
context_past B (suc b) (suc i) h = context_past B b i (omega arith)

-- a number written past the first b leaves them
pub context_other : (B : List ℕ) (b i x : ℕ) → b ≤ i → context (set B i x) b ≡ context B b
context_other B zero i x h = refl
context_other B (suc b) i x h =
    let n : b ≡ i → ⊥ = λ e. omega arith in
    let e = get_or-set_other B i b x 0 n in
    let c = context_other B b i x (omega arith) in
    cc

pub context_more : (B : List ℕ) (b x : ℕ) → b < length B → context (set B b x) (b + 1) ≡ x ∷ context B b
context_more B b x h =
    let z : b + 1 ≡ suc b = omega arith in
    let e = get_or-set_same B b x 0 h in
    let c = context_other B b b x (omega arith) in
    rw z (cc)

-- a small number written past the small ones
pub small_more : (B : List ℕ) (n x m : ℕ) → n < length B → x < 2 ^ 16 → m ≤ n + 1 → Small B n → Small (set B n x) m
small_more B n x m l h le s k below =
    elim (cases_eq k n) [
      | inl e ↦ (let z : get_or (set B n x) k 0 ≡ x = ap (λ j. get_or (set B n x) j 0) e ∙ get_or-set_same B n x 0 l in omega arith)
      | inr ne ↦ (let z = get_or-set_other B n k x 0 ne in omega (arith, s k (omega arith)))
    ]

-- leaving a binder returns to the context before it
pub unbound : (b : Option ℕ) (Γ : List ℕ) → unbind (is_some b) (bind b Γ) ≡ Γ
unbound None Γ = refl
unbound (Some t) Γ = refl

-- Binders in lent numbers.
abbrev pub held : List ℕ → ℕ → Bound
held B b = record { types = context B b; room = length B }

pub held_length : (B : List ℕ) (b : ℕ) (v : Bound) → held B b ≡ v → (length v.types ≡ b) × (length B ≡ v.room)
held_length B b v e = (sym (ap (λ (u : Bound). length u.types) e) ∙ length_context B b, ap (λ (u : Bound). u.room) e)

pub entered : (B : List ℕ) (b x : ℕ) (o : Option ℕ) (v : Bound) → b < length B → o ≡ Some x → held B b ≡ v
    → held (set B b x) (b + 1) ≡ record { types = bind o v.types; room = v.room }
entered B b x o v h eo e =
    let c = context_more B b x h in
    let l : length (set B b x) ≡ length B = simp length-set in
    rw (c, l) (ap (λ (u : Bound). let w : Bound = record { types = x ∷ u.types; room = u.room } in w) e
    ∙ ap (λ (p : Option ℕ). let w : Bound = record { types = bind p v.types; room = v.room } in w) (sym eo))
