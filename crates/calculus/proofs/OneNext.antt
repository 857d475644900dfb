-- A value has no step, and a term has at most one next term under one meaning.
use Rattle.std.proofs.Common.{◌≡◌, sym, refl, ap, ◌∙◌, subst}
use Rattle.calculus.specs.Syntax.{Term, SU, RE, AP, PA, FS, SN, AB, IL, IR, CA, QU, Value, val_z, val_s, val_abs, val_null, val_prod, val_inl, val_inr}
use Rattle.calculus.specs.Meanings.{Meaning, reply}
use Rattle.calculus.specs.Steps.{Step, eval_s, eval_fapp_left, eval_fapp_right, eval_beta, eval_rec_scrut, eval_rec_z, eval_rec_s, eval_pair_left, eval_pair_right, eval_fst, eval_snd, eval_fst_val, eval_snd_val, eval_abort, eval_inl, eval_inr, eval_case, eval_casel, eval_caser, eval_query, eval_answer}
use Rattle.calculus.proofs.Options.{same_value}
use Rattle.calculus.proofs.Values.{numeral_value, numeral_injective}

module _ (m : Meaning) where
  pub value_rests : {e e' : Term} → Value e → Step m e e' → ⊥
  value_rests val_z s = elim s [ ]
  value_rests (val_s v) (eval_s s) = value_rests v s
  value_rests val_abs s = elim s [ ]
  value_rests val_null s = elim s [ ]
  value_rests (val_prod v w) (eval_pair_left s) = value_rests v s
  value_rests (val_prod v w) (eval_pair_right _ s) = value_rests w s
  value_rests (val_inl v) (eval_inl s) = value_rests v s
  value_rests (val_inr v) (eval_inr s) = value_rests v s

  pub one_next : {e a b : Term} → Step m e a → Step m e b → a ≡ b
  one_next (eval_s s) (eval_s t) = ap SU (one_next s t)
  one_next (eval_fapp_left {e₂ = a} s) (eval_fapp_left t) = ap (λ f. AP f a) (one_next s t)
  one_next (eval_fapp_left s) (eval_fapp_right v t) = absurd (value_rests v s)
  one_next (eval_fapp_left s) (eval_beta v) = absurd (value_rests val_abs s)
  one_next (eval_fapp_right v s) (eval_fapp_left t) = absurd (value_rests v t)
  one_next (eval_fapp_right {e₁ = f} v s) (eval_fapp_right w t) = ap (AP f) (one_next s t)
  one_next (eval_fapp_right v s) (eval_beta w) = absurd (value_rests w s)
  one_next (eval_beta v) (eval_fapp_left t) = absurd (value_rests val_abs t)
  one_next (eval_beta v) (eval_fapp_right w t) = absurd (value_rests v t)
  one_next (eval_beta v) (eval_beta w) = refl
  one_next (eval_rec_scrut {e₀ = a} {e₁ = b} s) (eval_rec_scrut t) = ap (λ e. RE e a b) (one_next s t)
  one_next (eval_rec_scrut s) eval_rec_z = absurd (value_rests val_z s)
  one_next (eval_rec_scrut s) (eval_rec_s v) = absurd (value_rests v s)
  one_next eval_rec_z (eval_rec_scrut t) = absurd (value_rests val_z t)
  one_next eval_rec_z eval_rec_z = refl
  one_next (eval_rec_s v) (eval_rec_scrut t) = absurd (value_rests v t)
  one_next (eval_rec_s v) (eval_rec_s w) = refl
  one_next (eval_pair_left {e₂ = b} s) (eval_pair_left t) = ap (λ a. PA a b) (one_next s t)
  one_next (eval_pair_left s) (eval_pair_right v t) = absurd (value_rests v s)
  one_next (eval_pair_right v s) (eval_pair_left t) = absurd (value_rests v t)
  one_next (eval_pair_right {e₁ = a} v s) (eval_pair_right w t) = ap (PA a) (one_next s t)
  one_next (eval_fst s) (eval_fst t) = ap FS (one_next s t)
  one_next (eval_fst s) (eval_fst_val v w) = absurd (value_rests (val_prod v w) s)
  one_next (eval_fst_val v w) (eval_fst t) = absurd (value_rests (val_prod v w) t)
  one_next (eval_fst_val v w) (eval_fst_val _ _) = refl
  one_next (eval_snd s) (eval_snd t) = ap SN (one_next s t)
  one_next (eval_snd s) (eval_snd_val v w) = absurd (value_rests (val_prod v w) s)
  one_next (eval_snd_val v w) (eval_snd t) = absurd (value_rests (val_prod v w) t)
  one_next (eval_snd_val v w) (eval_snd_val _ _) = refl
  one_next (eval_abort {t = n} s) (eval_abort t) = ap (AB n) (one_next s t)
  one_next (eval_inl {t = n} s) (eval_inl t) = ap (IL n) (one_next s t)
  one_next (eval_inr {t = n} s) (eval_inr t) = ap (IR n) (one_next s t)
  one_next (eval_case {e₁ = a} {e₂ = b} s) (eval_case t) = ap (λ e. CA e a b) (one_next s t)
  one_next (eval_case s) (eval_casel v) = absurd (value_rests (val_inl v) s)
  one_next (eval_case s) (eval_caser v) = absurd (value_rests (val_inr v) s)
  one_next (eval_casel v) (eval_case t) = absurd (value_rests (val_inl v) t)
  one_next (eval_casel v) (eval_casel w) = refl
  one_next (eval_caser v) (eval_case t) = absurd (value_rests (val_inr v) t)
  one_next (eval_caser v) (eval_caser w) = refl
  one_next (eval_query {q = q} s) (eval_query t) = ap (QU q) (one_next s t)
  one_next (eval_query s) (eval_answer {n = n} p r) = absurd (value_rests (subst Value (sym p) (numeral_value n)) s)
  one_next (eval_answer {n = n} p r) (eval_query t) = absurd (value_rests (subst Value (sym p) (numeral_value n)) t)
  one_next (eval_answer {n = n} p r) (eval_answer {n = k} p' r') =
      ap reply (same_value r (rw (numeral_injective k n (sym p' ∙ p)) at r'))
