-- For terms with no other free variable, `put` is the usual substitution. Assumes nothing.
use Rattle.std.proofs.Common.{◌≡◌, ℕ, zero, suc, ◌-◌, ◌<◌, cond, ltb, Some, None, Option, unwrap_or, sym, refl, ap, ◌∙◌, inl, inr, arith}
use Rattle.std.proofs.lemmas.Bool.{cases_eq, eq-eqb, ne_eqb, lt-ltb}
use Rattle.calculus.specs.Syntax.{Term, VA, SU, RE, LA, AP, PA, FS, SN, AB, IL, IR, CA, QU, put, up, one, Scoped, scoped_var, scoped_z, scoped_s, scoped_rec, scoped_abs, scoped_fapp, scoped_null, scoped_pair, scoped_fst, scoped_snd, scoped_abort, scoped_inl, scoped_inr, scoped_case, scoped_query}
use Rattle.calculus.specs.Substitution.{usual, SubstitutionUsual}

-- v for the variable d
abbrev at : ℕ → Term → ℕ → Option Term
at zero v = one v
at (suc d) v = up (at d v)

at_own : (d : ℕ) (v : Term) → at d v d ≡ Some v
at_own zero v = refl
at_own (suc d) v = at_own d v

at_lower : (d : ℕ) (v : Term) (i : ℕ) → i < d → at d v i ≡ None
at_lower zero v i h = absurd (omega arith)
at_lower (suc d) v zero h = refl
at_lower (suc d) v (suc i) h = at_lower d v i (omega arith)

variable : (d : ℕ) (v : Term) (i : ℕ) → i < suc d → put (at d v) (VA i) ≡ usual d v (VA i)
variable d v i h =
    elim (cases_eq i d) [
      | inl e ↦ ap (λ j. unwrap_or (at d v j) (VA j)) e ∙ ap (λ o. unwrap_or o (VA d)) (at_own d v)
          ∙ sym (ap (λ b. cond b v (cond (ltb i d) (VA i) (VA (i - 1)))) (eq-eqb i d e))
      | inr n ↦ ap (λ o. unwrap_or o (VA i)) (at_lower d v i (omega arith))
          ∙ sym (ap (λ b. cond b v (cond (ltb i d) (VA i) (VA (i - 1)))) (ne_eqb i d n)
          ∙ ap (λ b. cond b (VA i) (VA (i - 1))) (lt-ltb i d (omega arith)))
    ]

agrees : (d : ℕ) (v : Term) {e : Term} → Scoped (suc d) e → put (at d v) e ≡ usual d v e
agrees d v (scoped_var {i = i} h) = variable d v i h
agrees d v scoped_z = refl
agrees d v (scoped_s s) = ap SU (agrees d v s)
agrees d v (scoped_rec s t u) = λ i. RE (agrees d v s i) (agrees d v t i) (agrees (suc d) v u i)
agrees d v (scoped_abs {t = t} s) = ap (LA t) (agrees (suc d) v s)
agrees d v (scoped_fapp s t) = λ i. AP (agrees d v s i) (agrees d v t i)
agrees d v scoped_null = refl
agrees d v (scoped_pair s t) = λ i. PA (agrees d v s i) (agrees d v t i)
agrees d v (scoped_fst s) = ap FS (agrees d v s)
agrees d v (scoped_snd s) = ap SN (agrees d v s)
agrees d v (scoped_abort {t = t} s) = ap (AB t) (agrees d v s)
agrees d v (scoped_inl {t = t} s) = ap (IL t) (agrees d v s)
agrees d v (scoped_inr {t = t} s) = ap (IR t) (agrees d v s)
agrees d v (scoped_case s t u) = λ i. CA (agrees d v s i) (agrees (suc d) v t i) (agrees (suc d) v u i)
agrees d v (scoped_query {q = q} s) = ap (QU q) (agrees d v s)

pub substitution_usual : SubstitutionUsual
substitution_usual v b s = agrees 0 v s
