-- A step keeps the type numbers of a term below a bound.
use Rattle.std.proofs.Common.{ℕ, zero, suc, ◌≤◌, true, false, List, Some, None, Option, unwrap_or, arith}
use Rattle.calculus.specs.declared.answer.Answer.{Answer}
use Rattle.calculus.specs.declared.answer.Answer.TheVariants as answer
use Rattle.calculus.specs.Syntax.{Term, VA, ZE, SU, RE, LA, AP, TR, PA, FS, SN, AB, IL, IR, CA, QU, up, put, one, numeral}
use Rattle.calculus.specs.Meanings.{Meaning, reply}
use Rattle.calculus.specs.Typing.{TypesBelow}
use Rattle.calculus.specs.Steps.{Step, eval_s, eval_fapp_left, eval_fapp_right, eval_beta, eval_rec_scrut, eval_rec_z, eval_rec_s, eval_pair_left, eval_pair_right, eval_fst, eval_snd, eval_fst_val, eval_snd_val, eval_abort, eval_inl, eval_inr, eval_case, eval_casel, eval_caser, eval_query, eval_answer}
use Rattle.calculus.specs.Runs.{Run, done, onward}

module _ (k : ℕ) where
  abbrev Given : Option Term → Type 0
  Given None = Unit {0}
  Given (Some v) = TypesBelow k v

  up_below : (s : ℕ → Option Term) → ((i : ℕ) → Given (s i)) → (i : ℕ) → Given (up s i)
  up_below s h zero = tt
  up_below s h (suc i) = h i

  value_below : (o : Option Term) (i : ℕ) → Given o → TypesBelow k (unwrap_or o (VA i))
  value_below None i h = tt
  value_below (Some v) i h = h

  put_below : (s : ℕ → Option Term) → ((i : ℕ) → Given (s i)) → (e : Term) → TypesBelow k e → TypesBelow k (put s e)
  put_below s h (VA i) b = value_below (s i) i (h i)
  put_below s h ZE b = tt
  put_below s h (SU e) b = put_below s h e b
  put_below s h (RE e a c) b = (put_below s h e b.0, put_below s h a b.1, put_below (up s) (up_below s h) c b.2)
  put_below s h (LA t e) b = (b.0, put_below (up s) (up_below s h) e b.1)
  put_below s h (AP f a) b = (put_below s h f b.0, put_below s h a b.1)
  put_below s h TR b = tt
  put_below s h (PA a c) b = (put_below s h a b.0, put_below s h c b.1)
  put_below s h (FS e) b = put_below s h e b
  put_below s h (SN e) b = put_below s h e b
  put_below s h (AB t e) b = (b.0, put_below s h e b.1)
  put_below s h (IL t e) b = (b.0, put_below s h e b.1)
  put_below s h (IR t e) b = (b.0, put_below s h e b.1)
  put_below s h (CA e a c) b =
      (put_below s h e b.0, put_below (up s) (up_below s h) a b.1, put_below (up s) (up_below s h) c b.2)
  put_below s h (QU q e) b = put_below s h e b

  one_given : (v : Term) → TypesBelow k v → (i : ℕ) → Given (one v i)
  one_given v h zero = h
  one_given v h (suc i) = tt

  one_below : (v e : Term) → TypesBelow k v → TypesBelow k e → TypesBelow k (put (one v) e)
  one_below v e h b = put_below (one v) (one_given v h) e b

  numeral_below : (n : ℕ) → TypesBelow k (numeral n)
  numeral_below zero = tt
  numeral_below (suc n) = numeral_below n

  -- the types 0 and 1 stand in answers
  reply_below : 2 ≤ k → (r : Answer) → TypesBelow k (reply r)
  reply_below h (answer.Number n) = numeral_below n
  reply_below h (answer.Flag false) = (omega arith, tt)
  reply_below h (answer.Flag true) = (omega arith, tt)
  reply_below h (answer.Maybe None) = (omega arith, tt)
  reply_below h (answer.Maybe (Some n)) = (omega arith, numeral_below n)
  reply_below h (answer.Pair m n) = (numeral_below m, numeral_below n)

  step_below : 2 ≤ k → {m : Meaning} {e e' : Term} → TypesBelow k e → Step m e e' → TypesBelow k e'
  step_below h b (eval_s s) = step_below h b s
  step_below h b (eval_fapp_left s) = (step_below h b.0 s, b.1)
  step_below h b (eval_fapp_right v s) = (b.0, step_below h b.1 s)
  step_below h b (eval_beta {e₁ = e} {e₂ = a} v) = one_below a e b.1 b.0.1
  step_below h b (eval_rec_scrut s) = (step_below h b.0 s, b.1, b.2)
  step_below h b eval_rec_z = b.1
  step_below h b (eval_rec_s {e = e} {e₁ = c} v) = (one_below e c b.0 b.2, (b.0, b.1, b.2))
  step_below h b (eval_pair_left s) = (step_below h b.0 s, b.1)
  step_below h b (eval_pair_right v s) = (b.0, step_below h b.1 s)
  step_below h b (eval_fst s) = step_below h b s
  step_below h b (eval_snd s) = step_below h b s
  step_below h b (eval_fst_val v w) = b.0
  step_below h b (eval_snd_val v w) = b.1
  step_below h b (eval_abort s) = (b.0, step_below h b.1 s)
  step_below h b (eval_inl s) = (b.0, step_below h b.1 s)
  step_below h b (eval_inr s) = (b.0, step_below h b.1 s)
  step_below h b (eval_case s) = (step_below h b.0 s, b.1, b.2)
  step_below h b (eval_casel {e = e} {e₁ = a} v) = one_below e a b.0.1 b.1
  step_below h b (eval_caser {e = e} {e₂ = c} v) = one_below e c b.0.1 b.2
  step_below h b (eval_query s) = step_below h b s
  step_below h b (eval_answer {r = r} p q) = reply_below h r

  pub run_below : 2 ≤ k → {ms : List Meaning} {e e' : Term} → TypesBelow k e → Run ms e e' → TypesBelow k e'
  run_below h b done = b
  run_below h b (onward s x) = run_below h (step_below h b s) x
