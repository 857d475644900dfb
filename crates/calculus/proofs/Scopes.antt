-- Substitution of closed terms leaves no variable that it gives a term for, and a step keeps a term closed.
use Rattle.std.proofs.Common.{ℕ, zero, suc, ◌<◌, ◌≤◌, true, false, Some, None, Option, unwrap_or, suc-le-suc, zero-le, arith}
use Rattle.calculus.specs.declared.answer.Answer.{Answer}
use Rattle.calculus.specs.declared.answer.Answer.TheVariants as answer
use Rattle.calculus.specs.Syntax.{Term, VA, numeral, up, put, one, Scoped, scoped_var, scoped_z, scoped_s, scoped_rec, scoped_abs, scoped_fapp, scoped_null, scoped_pair, scoped_fst, scoped_snd, scoped_abort, scoped_inl, scoped_inr, scoped_case, scoped_query, Closed}
use Rattle.calculus.specs.Meanings.{Meaning, reply}
use Rattle.calculus.specs.Steps.{Step, eval_s, eval_fapp_left, eval_fapp_right, eval_beta, eval_rec_scrut, eval_rec_z, eval_rec_s, eval_pair_left, eval_pair_right, eval_fst, eval_snd, eval_fst_val, eval_snd_val, eval_abort, eval_inl, eval_inr, eval_case, eval_casel, eval_caser, eval_query, eval_answer}

pub scoped_wider : {d k : ℕ} {e : Term} → d ≤ k → Scoped d e → Scoped k e
scoped_wider l (scoped_var h) = scoped_var (omega arith)
scoped_wider l scoped_z = scoped_z
scoped_wider l (scoped_s x) = scoped_s (scoped_wider l x)
scoped_wider l (scoped_rec x y z) = scoped_rec (scoped_wider l x) (scoped_wider l y) (scoped_wider (suc-le-suc l) z)
scoped_wider l (scoped_abs x) = scoped_abs (scoped_wider (suc-le-suc l) x)
scoped_wider l (scoped_fapp x y) = scoped_fapp (scoped_wider l x) (scoped_wider l y)
scoped_wider l scoped_null = scoped_null
scoped_wider l (scoped_pair x y) = scoped_pair (scoped_wider l x) (scoped_wider l y)
scoped_wider l (scoped_fst x) = scoped_fst (scoped_wider l x)
scoped_wider l (scoped_snd x) = scoped_snd (scoped_wider l x)
scoped_wider l (scoped_abort x) = scoped_abort (scoped_wider l x)
scoped_wider l (scoped_inl x) = scoped_inl (scoped_wider l x)
scoped_wider l (scoped_inr x) = scoped_inr (scoped_wider l x)
scoped_wider l (scoped_case x y z) =
    scoped_case (scoped_wider l x) (scoped_wider (suc-le-suc l) y) (scoped_wider (suc-le-suc l) z)
scoped_wider l (scoped_query x) = scoped_query (scoped_wider l x)

-- what a substitution gives for a variable: nothing, and the variable is below d, or a closed term
pub data Fills (d i : ℕ) : Option Term → Type 0 where
  stays : i < d → Fills d i None
  filled : {v : Term} → Closed v → Fills d i (Some v)

-- the substitution leaves of the variables below k only some below d
abbrev pub Lowers : ℕ → ℕ → (ℕ → Option Term) → Type 0
Lowers k d s = (i : ℕ) → i < k → Fills d i (s i)

fills_up : {d i : ℕ} {o : Option Term} → Fills d i o → Fills (suc d) (suc i) o
fills_up (stays h) = stays (suc-le-suc h)
fills_up (filled c) = filled c

lowers_up : (k d : ℕ) (s : ℕ → Option Term) → Lowers k d s → Lowers (suc k) (suc d) (up s)
lowers_up k d s f zero h = stays (suc-le-suc zero-le)
lowers_up k d s f (suc i) h = fills_up (f i (omega arith))

put_var : {d i : ℕ} {o : Option Term} → Fills d i o → Scoped d (unwrap_or o (VA i))
put_var (stays h) = scoped_var h
put_var (filled c) = scoped_wider zero-le c

pub put_scoped : {k : ℕ} {e : Term} (d : ℕ) (s : ℕ → Option Term) → Lowers k d s → Scoped k e → Scoped d (put s e)
put_scoped d s f (scoped_var {i = i} h) = put_var (f i h)
put_scoped d s f scoped_z = scoped_z
put_scoped d s f (scoped_s x) = scoped_s (put_scoped d s f x)
put_scoped d s f (scoped_rec {d = k} x y z) =
    scoped_rec (put_scoped d s f x) (put_scoped d s f y) (put_scoped (suc d) (up s) (lowers_up k d s f) z)
put_scoped d s f (scoped_abs {d = k} x) = scoped_abs (put_scoped (suc d) (up s) (lowers_up k d s f) x)
put_scoped d s f (scoped_fapp x y) = scoped_fapp (put_scoped d s f x) (put_scoped d s f y)
put_scoped d s f scoped_null = scoped_null
put_scoped d s f (scoped_pair x y) = scoped_pair (put_scoped d s f x) (put_scoped d s f y)
put_scoped d s f (scoped_fst x) = scoped_fst (put_scoped d s f x)
put_scoped d s f (scoped_snd x) = scoped_snd (put_scoped d s f x)
put_scoped d s f (scoped_abort x) = scoped_abort (put_scoped d s f x)
put_scoped d s f (scoped_inl x) = scoped_inl (put_scoped d s f x)
put_scoped d s f (scoped_inr x) = scoped_inr (put_scoped d s f x)
put_scoped d s f (scoped_case {d = k} x y z) =
    scoped_case (put_scoped d s f x) (put_scoped (suc d) (up s) (lowers_up k d s f) y)
    (put_scoped (suc d) (up s) (lowers_up k d s f) z)
put_scoped d s f (scoped_query x) = scoped_query (put_scoped d s f x)

lowers_one : (v : Term) → Closed v → Lowers 1 0 (one v)
lowers_one v c zero h = filled c
lowers_one v c (suc i) h = absurd (omega arith)

pub one_closed : {v e : Term} → Closed v → Scoped 1 e → Closed (put (one v) e)
one_closed {v} c x = put_scoped 0 (one v) (lowers_one v c) x

pub numeral_closed : (n : ℕ) → Closed (numeral n)
numeral_closed zero = scoped_z
numeral_closed (suc n) = scoped_s (numeral_closed n)

pub reply_closed : (r : Answer) → Closed (reply r)
reply_closed (answer.Number n) = numeral_closed n
reply_closed (answer.Flag false) = scoped_inl scoped_null
reply_closed (answer.Flag true) = scoped_inr scoped_null
reply_closed (answer.Maybe None) = scoped_inl scoped_null
reply_closed (answer.Maybe (Some n)) = scoped_inr (numeral_closed n)
reply_closed (answer.Pair m n) = scoped_pair (numeral_closed m) (numeral_closed n)

pub closed_kept : {m : Meaning} {e e' : Term} → Closed e → Step m e e' → Closed e'
closed_kept (scoped_s x) (eval_s s) = scoped_s (closed_kept x s)
closed_kept (scoped_fapp x y) (eval_fapp_left s) = scoped_fapp (closed_kept x s) y
closed_kept (scoped_fapp x y) (eval_fapp_right v s) = scoped_fapp x (closed_kept y s)
closed_kept (scoped_fapp (scoped_abs x) y) (eval_beta v) = one_closed y x
closed_kept (scoped_rec x y z) (eval_rec_scrut s) = scoped_rec (closed_kept x s) y z
closed_kept (scoped_rec x y z) eval_rec_z = y
closed_kept (scoped_rec (scoped_s x) y z) (eval_rec_s v) = scoped_fapp (one_closed x z) (scoped_rec x y z)
closed_kept (scoped_pair x y) (eval_pair_left s) = scoped_pair (closed_kept x s) y
closed_kept (scoped_pair x y) (eval_pair_right v s) = scoped_pair x (closed_kept y s)
closed_kept (scoped_fst x) (eval_fst s) = scoped_fst (closed_kept x s)
closed_kept (scoped_snd x) (eval_snd s) = scoped_snd (closed_kept x s)
closed_kept (scoped_fst (scoped_pair x y)) (eval_fst_val v w) = x
closed_kept (scoped_snd (scoped_pair x y)) (eval_snd_val v w) = y
closed_kept (scoped_abort x) (eval_abort s) = scoped_abort (closed_kept x s)
closed_kept (scoped_inl x) (eval_inl s) = scoped_inl (closed_kept x s)
closed_kept (scoped_inr x) (eval_inr s) = scoped_inr (closed_kept x s)
closed_kept (scoped_case x y z) (eval_case s) = scoped_case (closed_kept x s) y z
closed_kept (scoped_case (scoped_inl x) y z) (eval_casel v) = one_closed x y
closed_kept (scoped_case (scoped_inr x) y z) (eval_caser v) = one_closed x z
closed_kept (scoped_query x) (eval_query s) = scoped_query (closed_kept x s)
closed_kept (scoped_query x) (eval_answer {r = r} p q) = reply_closed r
closed_kept (scoped_var h) s = elim s [ ]
closed_kept scoped_z s = elim s [ ]
closed_kept (scoped_abs x) s = elim s [ ]
closed_kept scoped_null s = elim s [ ]
