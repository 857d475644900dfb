-- Terms in evaluation contexts: their nodes, their steps, and where they have none.
--   before, behind   the nodes before the hole and those after it
--   onto_plug, flat_plug   a term's nodes are those before the hole, those in it and those after it
--   before_length    how many nodes stand before the hole
--   steps_at         a step in the hole is a step of the whole
--   no_value         a context with no value in its hole is no value
--   NoStep, no_step  and without a step in its hole it has none
use Rattle.std.proofs.Common.{◌≡◌, ℕ, suc, ◌+◌, List, [], ◌∷◌, ◌++◌, length, refl, ap, ◌∙◌}
use Rattle.calculus.specs.declared.kind.Kind.TheVariants.{Successor, Rec, Apply, Pair, Fst, Snd, Abort, Inl, Inr, Case, Query}
use Rattle.calculus.specs.declared.node.Node.{Node}
use Rattle.calculus.specs.Kinds.{node}
use Rattle.calculus.specs.Syntax.{Term, SU, RE, AP, PA, FS, SN, AB, IL, IR, CA, QU, onto, flat, size, Value, val_z, val_s, val_abs, val_prod, val_inl, val_inr}
use Rattle.calculus.specs.Meanings.{Meaning}
use Rattle.calculus.specs.Steps.{Step, eval_s, eval_fapp_left, eval_fapp_right, eval_beta, eval_rec_scrut, eval_rec_z, eval_rec_s, eval_pair_left, eval_pair_right, eval_fst, eval_snd, eval_fst_val, eval_snd_val, eval_abort, eval_inl, eval_inr, eval_case, eval_casel, eval_caser, eval_query, eval_answer}
use Rattle.calculus.proofs.Reading.{length_onto}
use Rattle.calculus.proofs.OneNext.{value_rests}
use Rattle.calculus.proofs.Values.{numeral_value}
use Rattle.rewriter.specs.Contexts.{Context, hole, in_s, in_fapp_left, in_fapp_right, in_rec, in_pair_left, in_pair_right, in_fst, in_snd, in_abort, in_inl, in_inr, in_case, in_query, plug, hole_place}
use Rattle.rewriter.proofs.Flats.{onto_append}

abbrev pub before : Context → List Node → List Node
before hole ns = ns
before (in_s E) ns = node Successor 0 ∷ before E ns
before (in_fapp_left E a) ns = node Apply 0 ∷ before E ns
before (in_fapp_right f v E) ns = node Apply 0 ∷ onto f (before E ns)
before (in_rec E a b) ns = node Rec 0 ∷ before E ns
before (in_pair_left E b) ns = node Pair 0 ∷ before E ns
before (in_pair_right a v E) ns = node Pair 0 ∷ onto a (before E ns)
before (in_fst E) ns = node Fst 0 ∷ before E ns
before (in_snd E) ns = node Snd 0 ∷ before E ns
before (in_abort t E) ns = node Abort t ∷ before E ns
before (in_inl t E) ns = node Inl t ∷ before E ns
before (in_inr t E) ns = node Inr t ∷ before E ns
before (in_case E a b) ns = node Case 0 ∷ before E ns
before (in_query q E) ns = node Query q ∷ before E ns

abbrev pub behind : Context → List Node → List Node
behind hole ns = ns
behind (in_s E) ns = behind E ns
behind (in_fapp_left E a) ns = behind E (onto a ns)
behind (in_fapp_right f v E) ns = behind E ns
behind (in_rec E a b) ns = behind E (onto a (onto b ns))
behind (in_pair_left E b) ns = behind E (onto b ns)
behind (in_pair_right a v E) ns = behind E ns
behind (in_fst E) ns = behind E ns
behind (in_snd E) ns = behind E ns
behind (in_abort t E) ns = behind E ns
behind (in_inl t E) ns = behind E ns
behind (in_inr t E) ns = behind E ns
behind (in_case E a b) ns = behind E (onto a (onto b ns))
behind (in_query q E) ns = behind E ns

pub onto_plug : (E : Context) (e : Term) (ns : List Node) → onto (plug E e) ns ≡ before E (onto e (behind E ns))
onto_plug hole e ns = refl
onto_plug (in_s E) e ns = rw (onto_plug E e ns)
onto_plug (in_fapp_left E a) e ns = rw (onto_plug E e (onto a ns))
onto_plug (in_fapp_right f v E) e ns = rw (onto_plug E e ns)
onto_plug (in_rec E a b) e ns = rw (onto_plug E e (onto a (onto b ns)))
onto_plug (in_pair_left E b) e ns = rw (onto_plug E e (onto b ns))
onto_plug (in_pair_right a v E) e ns = rw (onto_plug E e ns)
onto_plug (in_fst E) e ns = rw (onto_plug E e ns)
onto_plug (in_snd E) e ns = rw (onto_plug E e ns)
onto_plug (in_abort t E) e ns = rw (onto_plug E e ns)
onto_plug (in_inl t E) e ns = rw (onto_plug E e ns)
onto_plug (in_inr t E) e ns = rw (onto_plug E e ns)
onto_plug (in_case E a b) e ns = rw (onto_plug E e (onto a (onto b ns)))
onto_plug (in_query q E) e ns = rw (onto_plug E e ns)

before_append : (E : Context) (ns ms : List Node) → before E (ns ++ ms) ≡ before E ns ++ ms
before_append hole ns ms = refl
before_append (in_s E) ns ms = rw (before_append E ns ms)
before_append (in_fapp_left E a) ns ms = rw (before_append E ns ms)
before_append (in_fapp_right f v E) ns ms = rw (before_append E ns ms, onto_append f (before E ns) ms)
before_append (in_rec E a b) ns ms = rw (before_append E ns ms)
before_append (in_pair_left E b) ns ms = rw (before_append E ns ms)
before_append (in_pair_right a v E) ns ms = rw (before_append E ns ms, onto_append a (before E ns) ms)
before_append (in_fst E) ns ms = rw (before_append E ns ms)
before_append (in_snd E) ns ms = rw (before_append E ns ms)
before_append (in_abort t E) ns ms = rw (before_append E ns ms)
before_append (in_inl t E) ns ms = rw (before_append E ns ms)
before_append (in_inr t E) ns ms = rw (before_append E ns ms)
before_append (in_case E a b) ns ms = rw (before_append E ns ms)
before_append (in_query q E) ns ms = rw (before_append E ns ms)

pub flat_plug : (E : Context) (e : Term) → flat (plug E e) ≡ before E [] ++ onto e (behind E [])
flat_plug E e = onto_plug E e [] ∙ before_append E [] (onto e (behind E []))

pub before_length : (E : Context) → length (before E []) ≡ hole_place E
before_length hole = refl
before_length (in_s E) = ap suc (before_length E)
before_length (in_fapp_left E a) = ap suc (before_length E)
before_length (in_fapp_right f v E) = ap suc (length_onto f (before E []) ∙ ap (λ n. size f + n) (before_length E))
before_length (in_rec E a b) = ap suc (before_length E)
before_length (in_pair_left E b) = ap suc (before_length E)
before_length (in_pair_right a v E) = ap suc (length_onto a (before E []) ∙ ap (λ n. size a + n) (before_length E))
before_length (in_fst E) = ap suc (before_length E)
before_length (in_snd E) = ap suc (before_length E)
before_length (in_abort t E) = ap suc (before_length E)
before_length (in_inl t E) = ap suc (before_length E)
before_length (in_inr t E) = ap suc (before_length E)
before_length (in_case E a b) = ap suc (before_length E)
before_length (in_query q E) = ap suc (before_length E)

pub no_value : (E : Context) {e : Term} → (Value e → ⊥) → Value (plug E e) → ⊥
no_value hole n v = n v
no_value (in_s E) n (val_s v) = no_value E n v
no_value (in_fapp_left E a) n v = elim v [ ]
no_value (in_fapp_right f w E) n v = elim v [ ]
no_value (in_rec E a b) n v = elim v [ ]
no_value (in_pair_left E b) n (val_prod v w) = no_value E n v
no_value (in_pair_right a u E) n (val_prod v w) = no_value E n w
no_value (in_fst E) n v = elim v [ ]
no_value (in_snd E) n v = elim v [ ]
no_value (in_abort t E) n v = elim v [ ]
no_value (in_inl t E) n (val_inl v) = no_value E n v
no_value (in_inr t E) n (val_inr v) = no_value E n v
no_value (in_case E a b) n v = elim v [ ]
no_value (in_query q E) n v = elim v [ ]

module _ (m : Meaning) where
  pub steps_at : (E : Context) {e e' : Term} → Step m e e' → Step m (plug E e) (plug E e')
  steps_at hole s = s
  steps_at (in_s E) s = eval_s (steps_at E s)
  steps_at (in_fapp_left E a) s = eval_fapp_left (steps_at E s)
  steps_at (in_fapp_right f v E) s = eval_fapp_right v (steps_at E s)
  steps_at (in_rec E a b) s = eval_rec_scrut (steps_at E s)
  steps_at (in_pair_left E b) s = eval_pair_left (steps_at E s)
  steps_at (in_pair_right a v E) s = eval_pair_right v (steps_at E s)
  steps_at (in_fst E) s = eval_fst (steps_at E s)
  steps_at (in_snd E) s = eval_snd (steps_at E s)
  steps_at (in_abort t E) s = eval_abort (steps_at E s)
  steps_at (in_inl t E) s = eval_inl (steps_at E s)
  steps_at (in_inr t E) s = eval_inr (steps_at E s)
  steps_at (in_case E a b) s = eval_case (steps_at E s)
  steps_at (in_query q E) s = eval_query (steps_at E s)

  abbrev pub NoStep : Term → Type 0
  NoStep e = (e' : Term) → Step m e e' → ⊥

  -- a node whose part is no value and has no step
  no_s : {e : Term} → NoStep e → NoStep (SU e)
  no_s h w (eval_s s) = h _ s

  no_left : {f a : Term} → (Value f → ⊥) → NoStep f → NoStep (AP f a)
  no_left n h w (eval_fapp_left s) = h _ s
  no_left n h w (eval_fapp_right v s) = n v
  no_left n h w (eval_beta v) = n val_abs

  no_right : {f a : Term} → Value f → (Value a → ⊥) → NoStep a → NoStep (AP f a)
  no_right u n h w (eval_fapp_left s) = value_rests m u s
  no_right u n h w (eval_fapp_right v s) = h _ s
  no_right u n h w (eval_beta v) = n v

  no_rec : {e a b : Term} → (Value e → ⊥) → NoStep e → NoStep (RE e a b)
  no_rec n h w (eval_rec_scrut s) = h _ s
  no_rec n h w eval_rec_z = n val_z
  no_rec n h w (eval_rec_s v) = n v

  no_pair_left : {a b : Term} → (Value a → ⊥) → NoStep a → NoStep (PA a b)
  no_pair_left n h w (eval_pair_left s) = h _ s
  no_pair_left n h w (eval_pair_right v s) = n v

  no_pair_right : {a b : Term} → Value a → NoStep b → NoStep (PA a b)
  no_pair_right u h w (eval_pair_left s) = value_rests m u s
  no_pair_right u h w (eval_pair_right v s) = h _ s

  no_fst : {e : Term} → (Value e → ⊥) → NoStep e → NoStep (FS e)
  no_fst n h w (eval_fst s) = h _ s
  no_fst n h w (eval_fst_val u v) = n (val_prod u v)

  no_snd : {e : Term} → (Value e → ⊥) → NoStep e → NoStep (SN e)
  no_snd n h w (eval_snd s) = h _ s
  no_snd n h w (eval_snd_val u v) = n (val_prod u v)

  no_abort : {t : ℕ} {e : Term} → NoStep e → NoStep (AB t e)
  no_abort h w (eval_abort s) = h _ s

  no_inl : {t : ℕ} {e : Term} → NoStep e → NoStep (IL t e)
  no_inl h w (eval_inl s) = h _ s

  no_inr : {t : ℕ} {e : Term} → NoStep e → NoStep (IR t e)
  no_inr h w (eval_inr s) = h _ s

  no_case : {e a b : Term} → (Value e → ⊥) → NoStep e → NoStep (CA e a b)
  no_case n h w (eval_case s) = h _ s
  no_case n h w (eval_casel v) = n (val_inl v)
  no_case n h w (eval_caser v) = n (val_inr v)

  no_query : {q : ℕ} {e : Term} → (Value e → ⊥) → NoStep e → NoStep (QU q e)
  no_query n h w (eval_query s) = h _ s
  no_query n h w (eval_answer {n = k} p r) = n (rw p (numeral_value k))

  pub no_step : (E : Context) {e : Term} → (Value e → ⊥) → NoStep e → NoStep (plug E e)
  no_step hole n h = h
  no_step (in_s E) n h = no_s (no_step E n h)
  no_step (in_fapp_left E a) n h = no_left (no_value E n) (no_step E n h)
  no_step (in_fapp_right f v E) n h = no_right v (no_value E n) (no_step E n h)
  no_step (in_rec E a b) n h = no_rec (no_value E n) (no_step E n h)
  no_step (in_pair_left E b) n h = no_pair_left (no_value E n) (no_step E n h)
  no_step (in_pair_right a v E) n h = no_pair_right v (no_step E n h)
  no_step (in_fst E) n h = no_fst (no_value E n) (no_step E n h)
  no_step (in_snd E) n h = no_snd (no_value E n) (no_step E n h)
  no_step (in_abort t E) n h = no_abort (no_step E n h)
  no_step (in_inl t E) n h = no_inl (no_step E n h)
  no_step (in_inr t E) n h = no_inr (no_step E n h)
  no_step (in_case E a b) n h = no_case (no_value E n) (no_step E n h)
  no_step (in_query q E) n h = no_query (no_value E n) (no_step E n h)
