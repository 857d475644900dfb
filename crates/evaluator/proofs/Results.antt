-- Results that a call passes on.
--   mapped_ok    a value that `map_err` left as it was
--   passed_on    what is known of it
--   mapped_err   an error that `map_err` replaced
--   at_exit      what is known where `?` returns an error
--   exit_is      the error that `?` returns
use Rattle.std.proofs.Common.{◌≡◌, Ok, Err, Result, sym, refl, ap, ◌∙◌, subst, MatchResult}
use Rattle.std.proofs.lemmas.Result.{MatchResult-at_ok}
use Rattle.std.specs.Result.{IsErrAnd}

pub mapped_ok : {T E : Type 0} (D : Type 0) (R : E → Type 0) (r : Result T E) (x : T)
    → MatchResult r (λ y. ◌≡◌ {A = Result T D} (Ok x) (Ok y)) R → ((e : E) → R e → ⊥) → r ≡ Ok x
mapped_ok {T = T} {E = E} D R (Ok y) x c n = let e : x ≡ y = cc in let f : T → Result T E = λ z. Ok z in ap f (sym e)
mapped_ok {T = T} {E = E} D R (Err e) x c n = absurd (n e c)

pub passed_on : {T E : Type 0} (D : Type 0) (P : T → Type 0) (Q R : E → Type 0) (r : Result T E) (x : T)
    → MatchResult r (λ y. ◌≡◌ {A = Result T D} (Ok x) (Ok y)) R → ((e : E) → R e → ⊥) → MatchResult r P Q → P x
passed_on D P Q R r x c n h = MatchResult-at_ok P Q x (mapped_ok D R r x c n) h

pub mapped_err : {T E : Type 0} (A : T → Type 0) (R : E → Type 0) (r : Result T E)
    → MatchResult r A R → ((y : T) → A y → ⊥) → (e : E) × (r ≡ Err e) × R e
mapped_err A R (Ok y) c n = absurd (n y c)
mapped_err A R (Err e) c n = (e, refl, c)

pub at_exit : {T E : Type 0} (P : T → Type 0) (Q : E → Type 0) (r : Result T E) (x : E) → IsErrAnd r (λ y. y ≡ x) → Q x → MatchResult r P Q
at_exit P Q (Ok y) x c h = absurd c
at_exit P Q (Err y) x c h = subst Q (sym c) h

pub exit_is : {T E : Type 0} (r : Result T E) (x y : E) → IsErrAnd r (λ z. z ≡ x) → x ≡ y → r ≡ Err y
exit_is {T = T} {E = E} (Ok z) x y c e = absurd c
exit_is {T = T} {E = E} (Err z) x y c e = let f : E → Result T E = λ u. Err u in ap f (c ∙ e)
