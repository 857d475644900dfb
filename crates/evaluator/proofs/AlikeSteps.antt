-- A step under a meaning is one under every meaning that answers alike; so runs under such meanings agree.
use Rattle.std.proofs.Common.{◌≡◌, ℕ, List, sym, refl, ◌∙◌, subst}
use Rattle.calculus.specs.Syntax.{Term}
use Rattle.calculus.specs.Meanings.{Meaning}
use Rattle.calculus.specs.Steps.{Step, eval_s, eval_fapp_left, eval_fapp_right, eval_beta, eval_rec_scrut, eval_rec_z, eval_rec_s, eval_pair_left, eval_pair_right, eval_fst, eval_snd, eval_fst_val, eval_snd_val, eval_abort, eval_inl, eval_inr, eval_case, eval_casel, eval_caser, eval_query, eval_answer}
use Rattle.calculus.specs.Runs.{Run, done, onward}
use Rattle.calculus.proofs.OneNext.{one_next}
use Rattle.evaluator.specs.Safety.{Alike, both_end, both_step}

module _ (m m' : Meaning) (same : (q n : ℕ) → m.answer q n ≡ m'.answer q n) where
  pub step_alike : {e e' : Term} → Step m e e' → Step m' e e'
  step_alike (eval_s s) = eval_s (step_alike s)
  step_alike (eval_fapp_left s) = eval_fapp_left (step_alike s)
  step_alike (eval_fapp_right v s) = eval_fapp_right v (step_alike s)
  step_alike (eval_beta v) = eval_beta v
  step_alike (eval_rec_scrut s) = eval_rec_scrut (step_alike s)
  step_alike eval_rec_z = eval_rec_z
  step_alike (eval_rec_s v) = eval_rec_s v
  step_alike (eval_pair_left s) = eval_pair_left (step_alike s)
  step_alike (eval_pair_right v s) = eval_pair_right v (step_alike s)
  step_alike (eval_fst s) = eval_fst (step_alike s)
  step_alike (eval_snd s) = eval_snd (step_alike s)
  step_alike (eval_fst_val v w) = eval_fst_val v w
  step_alike (eval_snd_val v w) = eval_snd_val v w
  step_alike (eval_abort s) = eval_abort (step_alike s)
  step_alike (eval_inl s) = eval_inl (step_alike s)
  step_alike (eval_inr s) = eval_inr (step_alike s)
  step_alike (eval_case s) = eval_case (step_alike s)
  step_alike (eval_casel v) = eval_casel v
  step_alike (eval_caser v) = eval_caser v
  step_alike (eval_query s) = eval_query (step_alike s)
  step_alike (eval_answer {q = q} {n = n} p r) = eval_answer p (sym (same q n) ∙ r)

pub alike_ends : {ms ms' : List Meaning} {e a b : Term} → Alike ms ms' → Run ms e a → Run ms' e b → a ≡ b
alike_ends both_end done done = refl
alike_ends {b = b} (both_step {m = m} {m' = m'} {ms' = ms'} p al) (onward s x) (onward t y) =
    alike_ends al x (subst (λ (z : Term). Run ms' z b) (sym (one_next m' (step_alike m m' p s) t)) y)
