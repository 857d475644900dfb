-- `next` computes the step relation.
use Rattle.std.proofs.Common.{◌≡◌, ℕ, Bool, true, false, cond, Some, Option, refl, ap, subst}
use Rattle.std.specs.Option.{option_map}
use Rattle.calculus.specs.Syntax.{Term, VA, ZE, SU, RE, LA, AP, TR, PA, FS, SN, AB, IL, IR, CA, QU, Value, val_z, val_s, val_abs, val_null, val_prod, val_inl, val_inr}
use Rattle.calculus.specs.Meanings.{Meaning, reply}
use Rattle.calculus.specs.Steps.{Step, eval_s, eval_fapp_left, eval_fapp_right, eval_beta, eval_rec_scrut, eval_rec_z, eval_rec_s, eval_pair_left, eval_pair_right, eval_fst, eval_snd, eval_fst_val, eval_snd_val, eval_abort, eval_inl, eval_inr, eval_case, eval_casel, eval_caser, eval_query, eval_answer}
use Rattle.calculus.specs.Infer.{value?, and_then}
use Rattle.calculus.specs.Next.{number?, beta, recur, parts, branch, ask, next}
use Rattle.calculus.proofs.Options.{some_injective, mapped_some, and_then_some}
use Rattle.calculus.proofs.Values.{value_true, true_value, numeral_value, number_numeral, numeral_number}
use Rattle.calculus.proofs.OneNext.{value_rests}

module _ (m : Meaning) where
  -- what has a next term is no value
  moves_false : {e e' : Term} → Step m e e' → (b : Bool) → value? e ≡ b → value? e ≡ false
  moves_false {e} s true p = absurd (value_rests m (true_value e p) s)
  moves_false s false p = p

  moves : {e e' : Term} → Step m e e' → value? e ≡ false
  moves {e} s = moves_false s (value? e) refl

  pub step_next : {e e' : Term} → Step m e e' → next m e ≡ Some e'
  step_next (eval_s s) = ap (option_map SU) (step_next s)
  step_next (eval_fapp_left s) = rw (moves s, step_next s)
  step_next (eval_fapp_right v s) = rw (value_true v, moves s, step_next s)
  step_next (eval_beta v) = rw (value_true v)
  step_next (eval_rec_scrut s) = rw (moves s, step_next s)
  step_next eval_rec_z = refl
  step_next (eval_rec_s v) = rw (value_true v)
  step_next (eval_pair_left s) = rw (moves s, step_next s)
  step_next (eval_pair_right v s) = rw (value_true v, step_next s)
  step_next (eval_fst s) = rw (moves s, step_next s)
  step_next (eval_snd s) = rw (moves s, step_next s)
  step_next (eval_fst_val v w) = rw (value_true v, value_true w)
  step_next (eval_snd_val v w) = rw (value_true v, value_true w)
  step_next (eval_abort {t = t} s) = ap (option_map (AB t)) (step_next s)
  step_next (eval_inl {t = t} s) = ap (option_map (IL t)) (step_next s)
  step_next (eval_inr {t = t} s) = ap (option_map (IR t)) (step_next s)
  step_next (eval_case s) = rw (moves s, step_next s)
  step_next (eval_casel v) = rw (value_true v)
  step_next (eval_caser v) = rw (value_true v)
  step_next (eval_query s) = rw (moves s, step_next s)
  step_next (eval_answer {n = n} p r) = rw (p, value_true (numeral_value n), number_numeral n, r)

  -- The other way: a step inside, and then each redex.
  at : {t a b : Term} → a ≡ b → Step m t a → Step m t b
  at {t} p s = subst (λ (x : Term). Step m t x) p s

  inside : (e : Term) (k : Term → Term) (t : Term) → ((x : Term) → Step m e x → Step m t (k x))
      → ((x : Term) → next m e ≡ Some x → Step m e x) → (e' : Term) → option_map k (next m e) ≡ Some e' → Step m t e'
  inside e k t f ih e' p = let x = mapped_some k (next m e) p in at x.2 (f x.0 (ih x.0 x.1))

  -- by whether a child is a value
  either : (e t : Term) (o w : Option Term) (e' : Term) (b : Bool) → value? e ≡ b
      → (Value e → o ≡ Some e' → Step m t e') → (w ≡ Some e' → Step m t e') → cond b o w ≡ Some e' → Step m t e'
  either e t o w e' true q f g p = f (true_value e q) p
  either e t o w e' false q f g p = g p

  beta_step : (f a : Term) → Value f → Value a → (e' : Term) → beta f a ≡ Some e' → Step m (AP f a) e'
  beta_step f a val_z w e' p = cc
  beta_step f a (val_s v) w e' p = cc
  beta_step f a val_abs w e' p = at (some_injective p) (eval_beta w)
  beta_step f a val_null w e' p = cc
  beta_step f a (val_prod v x) w e' p = cc
  beta_step f a (val_inl v) w e' p = cc
  beta_step f a (val_inr v) w e' p = cc

  recur_step : (e a b : Term) → Value e → (e' : Term) → recur e a b ≡ Some e' → Step m (RE e a b) e'
  recur_step e a b val_z e' p = at (some_injective p) eval_rec_z
  recur_step e a b (val_s v) e' p = at (some_injective p) (eval_rec_s (val_s v))
  recur_step e a b val_abs e' p = cc
  recur_step e a b val_null e' p = cc
  recur_step e a b (val_prod v x) e' p = cc
  recur_step e a b (val_inl v) e' p = cc
  recur_step e a b (val_inr v) e' p = cc

  parts_step : (k : Term → Term → Term) (F : Term → Term) → ((a b : Term) → Value a → Value b → Step m (F (PA a b)) (k a b))
      → (e : Term) → Value e → (e' : Term) → parts k e ≡ Some e' → Step m (F e) e'
  parts_step k F f e val_z e' p = cc
  parts_step k F f e (val_s v) e' p = cc
  parts_step k F f e val_abs e' p = cc
  parts_step k F f e val_null e' p = cc
  parts_step k F f e (val_prod {a = a} {b = b} v w) e' p = at (some_injective p) (f a b v w)
  parts_step k F f e (val_inl v) e' p = cc
  parts_step k F f e (val_inr v) e' p = cc

  branch_step : (e a b : Term) → Value e → (e' : Term) → branch e a b ≡ Some e' → Step m (CA e a b) e'
  branch_step e a b val_z e' p = cc
  branch_step e a b (val_s v) e' p = cc
  branch_step e a b val_abs e' p = cc
  branch_step e a b val_null e' p = cc
  branch_step e a b (val_prod v x) e' p = cc
  branch_step e a b (val_inl v) e' p = at (some_injective p) (eval_casel v)
  branch_step e a b (val_inr v) e' p = at (some_injective p) (eval_caser v)

  ask_step : (q : ℕ) (e e' : Term) → and_then (number? e) (ask m q) ≡ Some e' → Step m (QU q e) e'
  ask_step q e e' p =
      let x = and_then_some (number? e) (ask m q) p in
      let y = mapped_some reply (m.answer q x.0) x.2 in
      at y.2 (eval_answer (numeral_number e x.0 x.1) y.1)

  pub next_step : (e e' : Term) → next m e ≡ Some e' → Step m e e'
  next_step (VA i) e' p = cc
  next_step ZE e' p = cc
  next_step (SU e) e' p = inside e SU (SU e) (λ x s. eval_s s) (next_step e) e' p
  next_step (RE e a b) e' p =
      either e (RE e a b) (recur e a b) (option_map (λ x. RE x a b) (next m e)) e' (value? e) refl
      (λ v q. recur_step e a b v e' q)
      (λ q. inside e (λ x. RE x a b) (RE e a b) (λ x s. eval_rec_scrut s) (next_step e) e' q) p
  next_step (LA t b) e' p = cc
  next_step (AP f a) e' p =
      either f (AP f a) (cond (value? a) (beta f a) (option_map (AP f) (next m a))) (option_map (λ x. AP x a) (next m f)) e' (value? f) refl
      (λ v q. either a (AP f a) (beta f a) (option_map (AP f) (next m a)) e' (value? a) refl
      (λ w r. beta_step f a v w e' r)
      (λ r. inside a (AP f) (AP f a) (λ x s. eval_fapp_right v s) (next_step a) e' r) q)
      (λ q. inside f (λ x. AP x a) (AP f a) (λ x s. eval_fapp_left s) (next_step f) e' q) p
  next_step TR e' p = cc
  next_step (PA a b) e' p =
      either a (PA a b) (option_map (PA a) (next m b)) (option_map (λ x. PA x b) (next m a)) e' (value? a) refl
      (λ v q. inside b (PA a) (PA a b) (λ x s. eval_pair_right v s) (next_step b) e' q)
      (λ q. inside a (λ x. PA x b) (PA a b) (λ x s. eval_pair_left s) (next_step a) e' q) p
  next_step (FS e) e' p =
      either e (FS e) (parts (λ a b. a) e) (option_map FS (next m e)) e' (value? e) refl
      (λ v q. parts_step (λ a b. a) FS (λ a b v w. eval_fst_val v w) e v e' q)
      (λ q. inside e FS (FS e) (λ x s. eval_fst s) (next_step e) e' q) p
  next_step (SN e) e' p =
      either e (SN e) (parts (λ a b. b) e) (option_map SN (next m e)) e' (value? e) refl
      (λ v q. parts_step (λ a b. b) SN (λ a b v w. eval_snd_val v w) e v e' q)
      (λ q. inside e SN (SN e) (λ x s. eval_snd s) (next_step e) e' q) p
  next_step (AB t e) e' p = inside e (AB t) (AB t e) (λ x s. eval_abort s) (next_step e) e' p
  next_step (IL t e) e' p = inside e (IL t) (IL t e) (λ x s. eval_inl s) (next_step e) e' p
  next_step (IR t e) e' p = inside e (IR t) (IR t e) (λ x s. eval_inr s) (next_step e) e' p
  next_step (CA e a b) e' p =
      either e (CA e a b) (branch e a b) (option_map (λ x. CA x a b) (next m e)) e' (value? e) refl
      (λ v q. branch_step e a b v e' q)
      (λ q. inside e (λ x. CA x a b) (CA e a b) (λ x s. eval_case s) (next_step e) e' q) p
  next_step (QU q e) e' p =
      either e (QU q e) (and_then (number? e) (ask m q)) (option_map (QU q) (next m e)) e' (value? e) refl
      (λ v r. ask_step q e e' r)
      (λ r. inside e (QU q) (QU q e) (λ x s. eval_query s) (next_step e) e' r) p
