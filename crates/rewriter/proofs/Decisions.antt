-- The rule that is chosen for an eliminator with its values is right: with one it contracts, and without one it has no step.
--   Decided        what a choice says, under every lawful meaning of a profile
--   decided        of the choice that is made on the list
--   contracts_step a contraction is a step
use Rattle.std.proofs.Common.{◌≡◌, ℕ, ◌<◌, Bool, true, false, cond, leb, ◌⊎◌, List, is_some, Some, None, Option, sym, refl, ap, ◌∙◌, inl, inr, arith}
use Rattle.std.proofs.lemmas.Bool.{leb-true, leb-false}
use Rattle.calculus.specs.declared.answer.Answer.{Answer}
use Rattle.calculus.specs.declared.kind.Kind.TheVariants.{Rec, Apply, Fst, Snd, Case}
use Rattle.calculus.specs.declared.node.Node.{Node}
use Rattle.calculus.specs.Syntax.{Term, VA, ZE, SU, RE, LA, AP, TR, PA, FS, SN, AB, IL, IR, CA, QU, onto, numeral, put, one, Value, val_z, val_s, val_abs, val_null, val_prod, val_inl, val_inr}
use Rattle.calculus.specs.declared.answer.Shape.{Shape}
use Rattle.calculus.specs.Meanings.{Meaning, LawfulUnder, question_shape, largest_asked, reply}
use Rattle.calculus.specs.Steps.{Step, eval_fapp_left, eval_fapp_right, eval_beta, eval_rec_scrut, eval_rec_z, eval_rec_s, eval_fst, eval_snd, eval_fst_val, eval_snd_val, eval_abort, eval_case, eval_casel, eval_caser, eval_query, eval_answer}
use Rattle.calculus.specs.Next.{number?}
use Rattle.calculus.proofs.OneNext.{value_rests}
use Rattle.calculus.proofs.Values.{number_numeral, numeral_number}
use Rattle.calculus.proofs.Progress.{answered}
use Rattle.rewriter.specs.declared.site.Rule.{Rule}
use Rattle.rewriter.specs.declared.site.Rule.TheVariants as rule
use Rattle.rewriter.specs.Redexes.{Contracts, beta, rec_zero, rec_successor, first, second, case_inl, case_inr, answer}
use Rattle.rewriter.specs.Searches.{rule_for_lem, answer_rule_lem, numeral_in, first_kind, rule_in}
use Rattle.rewriter.proofs.Numerals.{numeral_onto}
use Rattle.rewriter.proofs.Plugs.{NoStep}
use Rattle.rewriter.proofs.Views.{Ready, ready_fapp, ready_rec, ready_fst, ready_snd, ready_abort, ready_case, ready_query}

pub contracts_step : {m : Meaning} {r : Rule} {e e' : Term} → Contracts m r e e' → Step m e e'
contracts_step (beta v) = eval_beta v
contracts_step rec_zero = eval_rec_z
contracts_step (rec_successor v) = eval_rec_s (val_s v)
contracts_step (first u v) = eval_fst_val u v
contracts_step (second u v) = eval_snd_val u v
contracts_step (case_inl v) = eval_casel v
contracts_step (case_inr v) = eval_caser v
contracts_step (answer p a) = eval_answer p a

abbrev pub Decided : ℕ → Term → Option Rule → Type 0
Decided profile e None = (m : Meaning) → LawfulUnder profile m → NoStep m e
Decided profile e (Some r) = (m : Meaning) → LawfulUnder profile m → (e' : Term) × Contracts m r e e'

-- which form a value has, as a number
abbrev form : Term → ℕ
form (VA i) = 0
form ZE = 1
form (SU e) = 2
form (RE e a b) = 0
form (LA t b) = 3
form (AP f a) = 0
form TR = 0
form (PA a b) = 4
form (FS e) = 0
form (SN e) = 0
form (AB t e) = 0
form (IL t e) = 5
form (IR t e) = 6
form (CA e a b) = 0
form (QU q e) = 0

-- an eliminator whose values fit none of its rules
module _ (m : Meaning) where
  no_fapp : {f a : Term} → Value f → Value a → (form f ≡ 3 → ⊥) → NoStep m (AP f a)
  no_fapp u v h w (eval_fapp_left s) = value_rests m u s
  no_fapp u v h w (eval_fapp_right x s) = value_rests m v s
  no_fapp u v h w (eval_beta x) = h refl

  no_rec : {e a b : Term} → Value e → (form e ≡ 1 → ⊥) → (form e ≡ 2 → ⊥) → NoStep m (RE e a b)
  no_rec v h k w (eval_rec_scrut s) = value_rests m v s
  no_rec v h k w eval_rec_z = h refl
  no_rec v h k w (eval_rec_s x) = k refl

  no_fst : {e : Term} → Value e → (form e ≡ 4 → ⊥) → NoStep m (FS e)
  no_fst v h w (eval_fst s) = value_rests m v s
  no_fst v h w (eval_fst_val x y) = h refl

  no_snd : {e : Term} → Value e → (form e ≡ 4 → ⊥) → NoStep m (SN e)
  no_snd v h w (eval_snd s) = value_rests m v s
  no_snd v h w (eval_snd_val x y) = h refl

  no_case : {e a b : Term} → Value e → (form e ≡ 5 → ⊥) → (form e ≡ 6 → ⊥) → NoStep m (CA e a b)
  no_case v h k w (eval_case s) = value_rests m v s
  no_case v h k w (eval_casel x) = h refl
  no_case v h k w (eval_caser x) = k refl

  no_abort : {t : ℕ} {e : Term} → Value e → NoStep m (AB t e)
  no_abort v w (eval_abort s) = value_rests m v s

  no_query : {q : ℕ} {e : Term} → Value e → ((n : ℕ) (r : Answer) → e ≡ numeral n → m.answer q n ≡ Some r → ⊥) → NoStep m (QU q e)
  no_query v h w (eval_query s) = value_rests m v s
  no_query v h w (eval_answer {n = n} {r = r} p a) = h n r p a

module _ (profile : ℕ) where
  fapp_decided : {f a : Term} (ns : List Node) → Value f → Value a → Decided profile (AP f a) (rule_for_lem Apply (first_kind (onto f ns)))
  fapp_decided ns val_z v = λ m l. no_fapp m val_z v (λ h. omega arith)
  fapp_decided ns (val_s u) v = λ m l. no_fapp m (val_s u) v (λ h. omega arith)
  fapp_decided {a = a} ns (val_abs {b = b}) v = λ m l. (put (one a) b, beta v)
  fapp_decided ns val_null v = λ m l. no_fapp m val_null v (λ h. omega arith)
  fapp_decided ns (val_prod u w) v = λ m l. no_fapp m (val_prod u w) v (λ h. omega arith)
  fapp_decided ns (val_inl u) v = λ m l. no_fapp m (val_inl u) v (λ h. omega arith)
  fapp_decided ns (val_inr u) v = λ m l. no_fapp m (val_inr u) v (λ h. omega arith)

  rec_decided : {e : Term} (a b : Term) (ns : List Node) → Value e → Decided profile (RE e a b) (rule_for_lem Rec (first_kind (onto e ns)))
  rec_decided a b ns val_z = λ m l. (a, rec_zero)
  rec_decided a b ns (val_s {e} v) = λ m l. (AP (put (one e) b) (RE e a b), rec_successor v)
  rec_decided a b ns val_abs = λ m l. no_rec m val_abs (λ h. omega arith) (λ h. omega arith)
  rec_decided a b ns val_null = λ m l. no_rec m val_null (λ h. omega arith) (λ h. omega arith)
  rec_decided a b ns (val_prod u v) = λ m l. no_rec m (val_prod u v) (λ h. omega arith) (λ h. omega arith)
  rec_decided a b ns (val_inl v) = λ m l. no_rec m (val_inl v) (λ h. omega arith) (λ h. omega arith)
  rec_decided a b ns (val_inr v) = λ m l. no_rec m (val_inr v) (λ h. omega arith) (λ h. omega arith)

  fst_decided : {e : Term} (ns : List Node) → Value e → Decided profile (FS e) (rule_for_lem Fst (first_kind (onto e ns)))
  fst_decided ns val_z = λ m l. no_fst m val_z (λ h. omega arith)
  fst_decided ns (val_s v) = λ m l. no_fst m (val_s v) (λ h. omega arith)
  fst_decided ns val_abs = λ m l. no_fst m val_abs (λ h. omega arith)
  fst_decided ns val_null = λ m l. no_fst m val_null (λ h. omega arith)
  fst_decided ns (val_prod {a} u v) = λ m l. (a, first u v)
  fst_decided ns (val_inl v) = λ m l. no_fst m (val_inl v) (λ h. omega arith)
  fst_decided ns (val_inr v) = λ m l. no_fst m (val_inr v) (λ h. omega arith)

  snd_decided : {e : Term} (ns : List Node) → Value e → Decided profile (SN e) (rule_for_lem Snd (first_kind (onto e ns)))
  snd_decided ns val_z = λ m l. no_snd m val_z (λ h. omega arith)
  snd_decided ns (val_s v) = λ m l. no_snd m (val_s v) (λ h. omega arith)
  snd_decided ns val_abs = λ m l. no_snd m val_abs (λ h. omega arith)
  snd_decided ns val_null = λ m l. no_snd m val_null (λ h. omega arith)
  snd_decided ns (val_prod {b = b} u v) = λ m l. (b, second u v)
  snd_decided ns (val_inl v) = λ m l. no_snd m (val_inl v) (λ h. omega arith)
  snd_decided ns (val_inr v) = λ m l. no_snd m (val_inr v) (λ h. omega arith)

  case_decided : {e : Term} (a b : Term) (ns : List Node) → Value e → Decided profile (CA e a b) (rule_for_lem Case (first_kind (onto e ns)))
  case_decided a b ns val_z = λ m l. no_case m val_z (λ h. omega arith) (λ h. omega arith)
  case_decided a b ns (val_s v) = λ m l. no_case m (val_s v) (λ h. omega arith) (λ h. omega arith)
  case_decided a b ns val_abs = λ m l. no_case m val_abs (λ h. omega arith) (λ h. omega arith)
  case_decided a b ns val_null = λ m l. no_case m val_null (λ h. omega arith) (λ h. omega arith)
  case_decided a b ns (val_prod u v) = λ m l. no_case m (val_prod u v) (λ h. omega arith) (λ h. omega arith)
  case_decided a b ns (val_inl {e = e} v) = λ m l. (put (one e) a, case_inl v)
  case_decided a b ns (val_inr {e = e} v) = λ m l. (put (one e) b, case_inr v)

  -- by the laws of hosts an answer is missing at a number that is too large, and to a question that is not there
  unanswered : (m : Meaning) → LawfulUnder profile m → (q n : ℕ) (r : Answer)
      → (question_shape profile q ≡ None) ⊎ (largest_asked < n) → m.answer q n ≡ Some r → ⊥
  unanswered m l q n r h a =
      let h' : (question_shape m.profile q ≡ None) ⊎ (largest_asked < n) = rw l.1 h in
      cc (sym ((l.0.missing q n).1 h') ∙ a)

  numbers_agree : {e : Term} {n k : ℕ} → number? e ≡ Some n → e ≡ numeral k → n ≡ k
  numbers_agree {e} {n} {k} p q = let h = number_numeral k in let i : number? (numeral k) ≡ Some n = rw (← q) p in cc

  asked : {e : Term} (q n : ℕ) → Value e → number? e ≡ Some n → (o : Option Shape) → question_shape profile q ≡ o
      → (b : Bool) → leb n largest_asked ≡ b → Decided profile (QU q e) (cond b (cond (is_some o) (Some (rule.Answer q n)) None) None)
  asked {e} q n v p (Some s) x true h = λ m l.
      let r = answered profile m l q n s x (leb-true n largest_asked h) in (reply r.0, answer (numeral_number e n p) r.1)
  asked q n v p None x true h = λ m l. no_query m v (λ k r g a. unanswered m l q k r (inl x) a)
  asked q n v p o x false h = λ m l. no_query m v (λ k r g a.
      let z = numbers_agree p g in unanswered m l q k r (inr (omega (arith, leb-false n largest_asked h))) a)

  query_decided : {e : Term} (q : ℕ) → Value e → (o : Option ℕ) → number? e ≡ o → Decided profile (QU q e) (answer_rule_lem profile q o)
  query_decided q v None p = λ m l. no_query m v (λ k r g a. cc (sym p ∙ ap number? g ∙ number_numeral k))
  query_decided q v (Some n) p = asked q n v p (question_shape profile q) refl (leb n largest_asked) refl

  pub decided : {e : Term} → Ready e → (ns : List Node) → Decided profile e (rule_in profile (onto e ns))
  decided (ready_fapp {f} {a} u v) ns = fapp_decided (onto a ns) u v
  decided (ready_rec {e} {a} {b} v) ns = rec_decided a b (onto a (onto b ns)) v
  decided (ready_fst v) ns = fst_decided ns v
  decided (ready_snd v) ns = snd_decided ns v
  decided (ready_abort v) ns = λ m l. no_abort m v
  decided (ready_case {e} {a} {b} v) ns = case_decided a b (onto a (onto b ns)) v
  decided (ready_query {q} {e} v) ns = query_decided q v (numeral_in (onto e ns)) (sym (numeral_onto e ns))
