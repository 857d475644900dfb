-- The step relation.
--   Step   the judgement: under a host's meaning, a term has a next term
-- Assumes nothing.
use Rattle.std.specs.Prelude.{◌≡◌, ℕ, Some}
use Rattle.calculus.specs.declared.answer.Answer.{Answer}
use Rattle.calculus.specs.Syntax.{Term, ZE, SU, RE, LA, AP, PA, FS, SN, AB, IL, IR, CA, QU, Value, put, one, numeral}
use Rattle.calculus.specs.Meanings.{Meaning, reply}

-- `Step m e e'`: under the meaning m, e steps to e'.
pub data Step (m : Meaning) : Term → Term → Type 0 where
  eval_s : {e e' : Term} → Step m e e' → Step m (SU e) (SU e')
  eval_fapp_left : {e₁ e₁' e₂ : Term} → Step m e₁ e₁' → Step m (AP e₁ e₂) (AP e₁' e₂)
  eval_fapp_right : {e₁ e₂ e₂' : Term} → Value e₁ → Step m e₂ e₂' → Step m (AP e₁ e₂) (AP e₁ e₂')
  eval_beta : {t : ℕ} {e₁ e₂ : Term} → Value e₂ → Step m (AP (LA t e₁) e₂) (put (one e₂) e₁)
  eval_rec_scrut : {e e' e₀ e₁ : Term} → Step m e e' → Step m (RE e e₀ e₁) (RE e' e₀ e₁)
  eval_rec_z : {e₀ e₁ : Term} → Step m (RE ZE e₀ e₁) e₀
  -- the recursive call stands as an argument before it is evaluated
  eval_rec_s : {e e₀ e₁ : Term} → Value (SU e) → Step m (RE (SU e) e₀ e₁) (AP (put (one e) e₁) (RE e e₀ e₁))
  eval_pair_left : {e₁ e₁' e₂ : Term} → Step m e₁ e₁' → Step m (PA e₁ e₂) (PA e₁' e₂)
  eval_pair_right : {e₁ e₂ e₂' : Term} → Value e₁ → Step m e₂ e₂' → Step m (PA e₁ e₂) (PA e₁ e₂')
  eval_fst : {e e' : Term} → Step m e e' → Step m (FS e) (FS e')
  eval_snd : {e e' : Term} → Step m e e' → Step m (SN e) (SN e')
  eval_fst_val : {e₁ e₂ : Term} → Value e₁ → Value e₂ → Step m (FS (PA e₁ e₂)) e₁
  eval_snd_val : {e₁ e₂ : Term} → Value e₁ → Value e₂ → Step m (SN (PA e₁ e₂)) e₂
  eval_abort : {t : ℕ} {e e' : Term} → Step m e e' → Step m (AB t e) (AB t e')
  eval_inl : {t : ℕ} {e e' : Term} → Step m e e' → Step m (IL t e) (IL t e')
  eval_inr : {t : ℕ} {e e' : Term} → Step m e e' → Step m (IR t e) (IR t e')
  eval_case : {e e' e₁ e₂ : Term} → Step m e e' → Step m (CA e e₁ e₂) (CA e' e₁ e₂)
  eval_casel : {t : ℕ} {e e₁ e₂ : Term} → Value e → Step m (CA (IL t e) e₁ e₂) (put (one e) e₁)
  eval_caser : {t : ℕ} {e e₁ e₂ : Term} → Value e → Step m (CA (IR t e) e₁ e₂) (put (one e) e₂)
  eval_query : {q : ℕ} {e e' : Term} → Step m e e' → Step m (QU q e) (QU q e')
  -- a query of a numeral becomes the host's answer, if there is one
  eval_answer : {q n : ℕ} {e : Term} {r : Answer} → e ≡ numeral n → m.answer q n ≡ Some r → Step m (QU q e) (reply r)
