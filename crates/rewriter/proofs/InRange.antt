-- Numbers in range: under larger bounds, and over substitution, answers, steps and runs.
--   wider_range        a larger bound of type numbers
--   put_in_range       substitution
--   reply_in_range     answers
--   step_in_range      steps
--   step_closed_term, run_closed_term   closed terms with numbers in range, over steps and runs
use Rattle.std.proofs.Common.{◌≡◌, ℕ, zero, suc, ◌≤◌, true, false, ltb, List, [], ◌∷◌, ◌++◌, Some, None, Option, unwrap_or, sym, refl, subst, arith}
use Rattle.std.proofs.lemmas.Bool.{ltb-true, lt-ltb}
use Rattle.calculus.specs.declared.answer.Answer.{Answer}
use Rattle.calculus.specs.declared.answer.Answer.TheVariants as answer
use Rattle.calculus.specs.declared.kind.Kind.{Kind}
use Rattle.calculus.specs.declared.kind.Kind.TheVariants.{Blank, Variable, Zero, Successor, Rec, Lambda, Apply, Triv, Pair, Fst, Snd, Abort, Inl, Inr, Case, Query}
use Rattle.calculus.specs.declared.node.Node.{Node}
use Rattle.calculus.specs.Meanings.{Meaning, reply}
use Rattle.calculus.specs.Runs.{Run, done, onward}
use Rattle.calculus.specs.Steps.{Step, eval_s, eval_fapp_left, eval_fapp_right, eval_beta, eval_rec_scrut, eval_rec_z, eval_rec_s, eval_pair_left, eval_pair_right, eval_fst, eval_snd, eval_fst_val, eval_snd_val, eval_abort, eval_inl, eval_inr, eval_case, eval_casel, eval_caser, eval_query, eval_answer}
use Rattle.calculus.specs.Syntax.{Term, VA, ZE, SU, RE, LA, AP, TR, PA, FS, SN, AB, IL, IR, CA, QU, onto, flat, numeral, up, put, one}
use Rattle.calculus.proofs.Options.{some_injective}
use Rattle.calculus.proofs.Scopes.{closed_kept}
use Rattle.terms.specs.Ranges.{number_in_range, AllInRange}
use Rattle.rewriter.specs.ClosedTerms.{any_type, ClosedTerm}
use Rattle.rewriter.proofs.Flats.{onto_flat}

module _ (types wider : ℕ) (l : types ≤ wider) where
  wider_type : (n : ℕ) → ltb n types ≡ true → ltb n wider ≡ true
  wider_type n h = let k = ltb-true n types h in lt-ltb n wider (omega arith)

  wider_number : (k : Kind) (n : ℕ) → number_in_range types k n ≡ true → number_in_range wider k n ≡ true
  wider_number Blank n h = h
  wider_number Variable n h = h
  wider_number Zero n h = h
  wider_number Successor n h = h
  wider_number Rec n h = h
  wider_number Lambda n h = wider_type n h
  wider_number Apply n h = h
  wider_number Triv n h = h
  wider_number Pair n h = h
  wider_number Fst n h = h
  wider_number Snd n h = h
  wider_number Abort n h = wider_type n h
  wider_number Inl n h = wider_type n h
  wider_number Inr n h = wider_type n h
  wider_number Case n h = h
  wider_number Query n h = h

  pub wider_range : (ns : List Node) → AllInRange types ns → AllInRange wider ns
  wider_range [] h = tt
  wider_range (n ∷ ns) h = (wider_number n.kind n.number h.0, wider_range ns h.1)

module _ (types : ℕ) where
  apart : (ns ms : List Node) → AllInRange types (ns ++ ms) → AllInRange types ns × AllInRange types ms
  apart [] ms h = (tt, h)
  apart (n ∷ ns) ms h = let r = apart ns ms h.1 in ((h.0, r.0), r.1)

  together : (ns ms : List Node) → AllInRange types ns → AllInRange types ms → AllInRange types (ns ++ ms)
  together [] ms g h = h
  together (n ∷ ns) ms g h = (g.0, together ns ms g.1 h)

  -- a term and what follows it
  split : (t : Term) (ns : List Node) → AllInRange types (onto t ns) → AllInRange types (flat t) × AllInRange types ns
  split t ns h = apart (flat t) ns (subst (AllInRange types) (onto_flat t ns) h)

  join : (t : Term) (ns : List Node) → AllInRange types (flat t) → AllInRange types ns → AllInRange types (onto t ns)
  join t ns g h = subst (AllInRange types) (sym (onto_flat t ns)) (together (flat t) ns g h)

  abbrev InRange : Term → Type 0
  InRange t = AllInRange types (flat t)

  -- two and three terms in a row
  split_two : (a b : Term) → AllInRange types (onto a (flat b)) → InRange a × InRange b
  split_two a b h = split a (flat b) h

  split_three : (e a b : Term) → AllInRange types (onto e (onto a (flat b))) → InRange e × InRange a × InRange b
  split_three e a b h =
      let (x, r) = split e (onto a (flat b)) h in let (y, z) = split a (flat b) r in (x, y, z)

  join_two : (a b : Term) → InRange a → InRange b → AllInRange types (onto a (flat b))
  join_two a b x y = join a (flat b) x y

  join_three : (e a b : Term) → InRange e → InRange a → InRange b → AllInRange types (onto e (onto a (flat b)))
  join_three e a b x y z = join e (onto a (flat b)) x (join a (flat b) y z)

  -- the terms that a substitution gives
  abbrev Gives : (ℕ → Option Term) → Type 0
  Gives s = (i : ℕ) (v : Term) → s i ≡ Some v → InRange v

  gives_up : (s : ℕ → Option Term) → Gives s → Gives (up s)
  gives_up s g zero v e = cc
  gives_up s g (suc i) v e = g i v e

  put_variable : (i : ℕ) (o : Option Term) → ((v : Term) → o ≡ Some v → InRange v) → InRange (VA i) → InRange (unwrap_or o (VA i))
  put_variable i None g h = h
  put_variable i (Some v) g h = g v refl

  pub put_in_range : (s : ℕ → Option Term) → Gives s → (e : Term) → InRange e → InRange (put s e)
  put_in_range s g (VA i) h = put_variable i (s i) (g i) h
  put_in_range s g ZE h = h
  put_in_range s g (SU e) h = (h.0, put_in_range s g e h.1)
  put_in_range s g (RE e a b) h =
      let (x, y, z) = split_three e a b h.1 in
      (h.0, join_three (put s e) (put s a) (put (up s) b) (put_in_range s g e x) (put_in_range s g a y) (put_in_range (up s) (gives_up s g) b z))
  put_in_range s g (LA t b) h = (h.0, put_in_range (up s) (gives_up s g) b h.1)
  put_in_range s g (AP f a) h =
      let (x, y) = split_two f a h.1 in (h.0, join_two (put s f) (put s a) (put_in_range s g f x) (put_in_range s g a y))
  put_in_range s g TR h = h
  put_in_range s g (PA a b) h =
      let (x, y) = split_two a b h.1 in (h.0, join_two (put s a) (put s b) (put_in_range s g a x) (put_in_range s g b y))
  put_in_range s g (FS e) h = (h.0, put_in_range s g e h.1)
  put_in_range s g (SN e) h = (h.0, put_in_range s g e h.1)
  put_in_range s g (AB t e) h = (h.0, put_in_range s g e h.1)
  put_in_range s g (IL t e) h = (h.0, put_in_range s g e h.1)
  put_in_range s g (IR t e) h = (h.0, put_in_range s g e h.1)
  put_in_range s g (CA e a b) h =
      let (x, y, z) = split_three e a b h.1 in (
        h.0,
        join_three (put s e) (put (up s) a) (put (up s) b) (put_in_range s g e x) (put_in_range (up s) (gives_up s g) a y)
            (put_in_range (up s) (gives_up s g) b z),
      )
  put_in_range s g (QU q e) h = (h.0, put_in_range s g e h.1)

  gives_one : (v : Term) → InRange v → Gives (one v)
  gives_one v h zero w e = subst InRange (some_injective e) h
  gives_one v h (suc i) w e = cc

  one_in_range : (v b : Term) → InRange v → InRange b → InRange (put (one v) b)
  one_in_range v b g h = put_in_range (one v) (gives_one v g) b h

  numeral_in_range : (n : ℕ) → InRange (numeral n)
  numeral_in_range zero = (refl, tt)
  numeral_in_range (suc n) = (refl, numeral_in_range n)

  module _ (two : 2 ≤ types) where
    pub reply_in_range : (r : Answer) → InRange (reply r)
    reply_in_range (answer.Number n) = numeral_in_range n
    reply_in_range (answer.Flag false) = (lt-ltb 1 types (omega arith), (refl, tt))
    reply_in_range (answer.Flag true) = (lt-ltb 1 types (omega arith), (refl, tt))
    reply_in_range (answer.Maybe None) = (lt-ltb 0 types (omega arith), (refl, tt))
    reply_in_range (answer.Maybe (Some n)) = (lt-ltb 1 types (omega arith), numeral_in_range n)
    reply_in_range (answer.Pair m n) = (refl, join_two (numeral m) (numeral n) (numeral_in_range m) (numeral_in_range n))

    pub step_in_range : {m : Meaning} {e e' : Term} → Step m e e' → InRange e → InRange e'
    step_in_range (eval_s s) h = (h.0, step_in_range s h.1)
    step_in_range (eval_fapp_left {e₁ = f} {e₁' = f'} {e₂ = a} s) h =
        let (x, y) = split_two f a h.1 in (h.0, join_two f' a (step_in_range s x) y)
    step_in_range (eval_fapp_right {e₁ = f} {e₂ = a} {e₂' = a'} v s) h =
        let (x, y) = split_two f a h.1 in (h.0, join_two f a' x (step_in_range s y))
    step_in_range (eval_beta {t = t} {e₁ = b} {e₂ = a} v) h =
        let (x, y) = split_two (LA t b) a h.1 in one_in_range a b y x.1
    step_in_range (eval_rec_scrut {e = e} {e' = e'} {e₀ = a} {e₁ = b} s) h =
        let (x, y, z) = split_three e a b h.1 in (h.0, join_three e' a b (step_in_range s x) y z)
    step_in_range (eval_rec_z {e₀ = a} {e₁ = b}) h = let (x, y, z) = split_three ZE a b h.1 in y
    step_in_range (eval_rec_s {e = e} {e₀ = a} {e₁ = b} v) h =
        let (x, y, z) = split_three (SU e) a b h.1 in
        (refl, join_two (put (one e) b) (RE e a b) (one_in_range e b x.1 z) (h.0, join_three e a b x.1 y z))
    step_in_range (eval_pair_left {e₁ = a} {e₁' = a'} {e₂ = b} s) h =
        let (x, y) = split_two a b h.1 in (h.0, join_two a' b (step_in_range s x) y)
    step_in_range (eval_pair_right {e₁ = a} {e₂ = b} {e₂' = b'} v s) h =
        let (x, y) = split_two a b h.1 in (h.0, join_two a b' x (step_in_range s y))
    step_in_range (eval_fst s) h = (h.0, step_in_range s h.1)
    step_in_range (eval_snd s) h = (h.0, step_in_range s h.1)
    step_in_range (eval_fst_val {e₁ = a} {e₂ = b} v w) h = let (x, y) = split_two a b h.1.1 in x
    step_in_range (eval_snd_val {e₁ = a} {e₂ = b} v w) h = let (x, y) = split_two a b h.1.1 in y
    step_in_range (eval_abort s) h = (h.0, step_in_range s h.1)
    step_in_range (eval_inl s) h = (h.0, step_in_range s h.1)
    step_in_range (eval_inr s) h = (h.0, step_in_range s h.1)
    step_in_range (eval_case {e = e} {e' = e'} {e₁ = a} {e₂ = b} s) h =
        let (x, y, z) = split_three e a b h.1 in (h.0, join_three e' a b (step_in_range s x) y z)
    step_in_range (eval_casel {t = t} {e = e} {e₁ = a} {e₂ = b} v) h =
        let (x, y, z) = split_three (IL t e) a b h.1 in one_in_range e a x.1 y
    step_in_range (eval_caser {t = t} {e = e} {e₁ = a} {e₂ = b} v) h =
        let (x, y, z) = split_three (IR t e) a b h.1 in one_in_range e b x.1 z
    step_in_range (eval_query s) h = (h.0, step_in_range s h.1)
    step_in_range (eval_answer {r = r} p a) h = reply_in_range r

pub step_closed_term : {m : Meaning} {t u : Term} → ClosedTerm t → Step m t u → ClosedTerm u
step_closed_term (c, h) s = (closed_kept c s, step_in_range any_type (omega arith) s h)

pub run_closed_term : {ms : List Meaning} {t u : Term} → ClosedTerm t → Run ms t u → ClosedTerm u
run_closed_term c done = c
run_closed_term c (onward s r) = run_closed_term (step_closed_term c s) r
