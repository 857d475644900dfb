-- A step keeps the type of a closed term, under every lawful meaning of the profile.
use Rattle.std.proofs.Common.{◌≡◌, ℕ, zero, suc, true, false, List, [], Some, None, sym, ap, ◌∙◌, subst}
use Rattle.calculus.specs.declared.answer.Answer.{Answer}
use Rattle.calculus.specs.declared.answer.Answer.TheVariants as answer
use Rattle.calculus.specs.Syntax.{Ty, nat, unit, sum, Term, TR, IL, IR, numeral}
use Rattle.calculus.specs.Meanings.{Meaning, LawfulUnder, question_shape, answer_shape, reply}
use Rattle.calculus.specs.Typing.{shape_type, Typed, typing_var, typing_z, typing_s, typing_rec, typing_abs, typing_fapp, typing_null, typing_pair, typing_fst, typing_snd, typing_abort, typing_inl, typing_inr, typing_case, typing_query}
use Rattle.calculus.specs.Steps.{Step, eval_s, eval_fapp_left, eval_fapp_right, eval_beta, eval_rec_scrut, eval_rec_z, eval_rec_s, eval_pair_left, eval_pair_right, eval_fst, eval_snd, eval_fst_val, eval_snd_val, eval_abort, eval_inl, eval_inr, eval_case, eval_casel, eval_caser, eval_query, eval_answer}
use Rattle.calculus.specs.Safety.{ReadsGiven}
use Rattle.calculus.proofs.Options.{same_value}
use Rattle.calculus.proofs.Substituted.{one_typed}

module _ (ρ : ℕ → Ty) (profile : ℕ) where
  pub numeral_typed : (Γ : List Ty) (n : ℕ) → Typed ρ profile Γ (numeral n) nat
  numeral_typed Γ zero = typing_z
  numeral_typed Γ (suc n) = typing_s (numeral_typed Γ n)

  -- an answer, as a term, has the type of its shape
  pub reply_typed : ReadsGiven ρ → (Γ : List Ty) (r : Answer) → Typed ρ profile Γ (reply r) (shape_type (answer_shape r))
  reply_typed g Γ (answer.Number n) = numeral_typed Γ n
  reply_typed g Γ (answer.Flag false) =
      subst (λ (t : Ty). Typed ρ profile Γ (IL 1 TR) (sum unit t)) g.1 (typing_inl typing_null)
  reply_typed g Γ (answer.Flag true) =
      subst (λ (t : Ty). Typed ρ profile Γ (IR 1 TR) (sum t unit)) g.1 (typing_inr typing_null)
  reply_typed g Γ (answer.Maybe None) =
      subst (λ (t : Ty). Typed ρ profile Γ (IL 0 TR) (sum unit t)) g.0 (typing_inl typing_null)
  reply_typed g Γ (answer.Maybe (Some n)) =
      subst (λ (t : Ty). Typed ρ profile Γ (IR 1 (numeral n)) (sum t nat)) g.1 (typing_inr (numeral_typed Γ n))
  reply_typed g Γ (answer.Pair m n) = typing_pair (numeral_typed Γ m) (numeral_typed Γ n)

pub answer_shaped : (profile : ℕ) (m : Meaning) → LawfulUnder profile m → (q n : ℕ) (r : Answer) → m.answer q n ≡ Some r
    → question_shape profile q ≡ Some (answer_shape r)
answer_shaped profile m l q n r p = ap (λ (k : ℕ). question_shape k q) (sym l.1) ∙ l.0.shaped q n r p

module _ (ρ : ℕ → Ty) (profile : ℕ) (m : Meaning) (g : ReadsGiven ρ) (l : LawfulUnder profile m) where
  pub type_kept : {e e' : Term} {τ : Ty} → Typed ρ profile [] e τ → Step m e e' → Typed ρ profile [] e' τ
  type_kept (typing_var p) s = elim s [ ]
  type_kept typing_z s = elim s [ ]
  type_kept (typing_abs b) s = elim s [ ]
  type_kept typing_null s = elim s [ ]
  type_kept (typing_s d) (eval_s s) = typing_s (type_kept d s)
  type_kept (typing_fapp f a) (eval_fapp_left s) = typing_fapp (type_kept f s) a
  type_kept (typing_fapp f a) (eval_fapp_right v s) = typing_fapp f (type_kept a s)
  type_kept (typing_fapp (typing_abs b) a) (eval_beta v) = one_typed ρ profile a b
  type_kept (typing_rec d a b w) (eval_rec_scrut s) = typing_rec (type_kept d s) a b w
  type_kept (typing_rec d a b w) eval_rec_z = a
  type_kept (typing_rec (typing_s d) a b w) (eval_rec_s v) = typing_fapp (one_typed ρ profile d b) (typing_rec d a b w)
  type_kept (typing_pair a b) (eval_pair_left s) = typing_pair (type_kept a s) b
  type_kept (typing_pair a b) (eval_pair_right v s) = typing_pair a (type_kept b s)
  type_kept (typing_fst d) (eval_fst s) = typing_fst (type_kept d s)
  type_kept (typing_fst (typing_pair a b)) (eval_fst_val v w) = a
  type_kept (typing_snd d) (eval_snd s) = typing_snd (type_kept d s)
  type_kept (typing_snd (typing_pair a b)) (eval_snd_val v w) = b
  type_kept (typing_abort d) (eval_abort s) = typing_abort (type_kept d s)
  type_kept (typing_inl d) (eval_inl s) = typing_inl (type_kept d s)
  type_kept (typing_inr d) (eval_inr s) = typing_inr (type_kept d s)
  type_kept (typing_case d a b) (eval_case s) = typing_case (type_kept d s) a b
  type_kept (typing_case (typing_inl d) a b) (eval_casel v) = one_typed ρ profile d a
  type_kept (typing_case (typing_inr d) a b) (eval_caser v) = one_typed ρ profile d b
  type_kept (typing_query p d) (eval_query s) = typing_query p (type_kept d s)
  type_kept (typing_query {q = q} p d) (eval_answer {n = n} {r = r} _ x) =
      subst (λ (σ : Ty). Typed ρ profile [] (reply r) σ) (ap shape_type (same_value (answer_shaped profile m l q n r x) p))
      (reply_typed ρ profile g [] r)
