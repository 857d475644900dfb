-- Every outcome of checking a term means what it should, by the typing judgement. Assumes nothing.
use Rattle.std.proofs.Common.{ℕ, ◌≤◌, List, [], length, sym, subst, arith}
use Rattle.refusals.specs.declared.Question.{Question}
use Rattle.calculus.specs.declared.entry.Entry.{Entry}
use Rattle.calculus.specs.Syntax.{Ty, Term, VA, ZE, SU, RE, LA, AP, TR, PA, FS, SN, AB, IL, IR, CA, QU}
use Rattle.calculus.specs.Tables.{LaidDown, reading}
use Rattle.calculus.specs.Typing.{Typed, TypesBelow}
use Rattle.calculus.proofs.OneType.{one_type}
use Rattle.calculus.proofs.TypingKept.{typing_kept}
use Rattle.checker.specs.Judging.{Outcome, judge_term}
use Rattle.checker.specs.Meaning.{Accepts, Refuses, Means}
use Rattle.checker.proofs.Untyped.{faults_deny, reached_deny}
use Rattle.checker.proofs.TypeNumbers.{longer_refl, longer_length, no_binder}
use Rattle.checker.proofs.Outcomes.{Fine, Located, Says, says_typed, says_refused, judged}

-- type numbers below a bound are below a larger one
below_more : {m n : ℕ} → m ≤ n → (e : Term) → TypesBelow m e → TypesBelow n e
below_more l (VA i) h = tt
below_more l ZE h = tt
below_more l (SU e) h = below_more l e h
below_more l (RE e a b) h = (below_more l e h.0, below_more l a h.1, below_more l b h.2)
below_more l (LA t b) h = (omega (arith, l, h.0), below_more l b h.1)
below_more l (AP f a) h = (below_more l f h.0, below_more l a h.1)
below_more l TR h = tt
below_more l (PA a b) h = (below_more l a h.0, below_more l b h.1)
below_more l (FS e) h = below_more l e h
below_more l (SN e) h = below_more l e h
below_more l (AB t e) h = (omega (arith, l, h.0), below_more l e h.1)
below_more l (IL t e) h = (omega (arith, l, h.0), below_more l e h.1)
below_more l (IR t e) h = (omega (arith, l, h.0), below_more l e h.1)
below_more l (CA e a b) h = (below_more l e h.0, below_more l a h.1, below_more l b h.2)
below_more l (QU q e) h = below_more l e h

module _ (es : List Entry) (profile : ℕ) (rule : Term) (below : TypesBelow (length es) rule) where
  accepts : {n : ℕ} {U : List Entry} {τ : Ty} → Fine es profile [] es rule n U τ → Accepts es profile rule n U
  accepts {n} {U} {τ} f = record {
    accepted = record {
      table = f.table.laid_down;
      given = f.table.given;
      named = below_more (longer_length f.longer) rule below;
      within = f.reads.within;
      typed = here;
    };
    only = λ σ d. one_type (reading U) profile d here;
    longer = (f.longer.more, f.longer.same);
    grows = f.grows;
  }
    where
      here : Typed (reading U) profile [] rule (reading U n)
      here =
          subst (λ (σ : Ty). Typed (reading U) profile [] rule σ) (sym f.reads.is)
          (subst (λ (V : List Entry). Typed (reading V) profile [] rule τ) (sym f.longer.same)
          ((typing_kept es f.longer.more profile [] rule τ below).0 f.derived))

  refuses : {q : Question} → Located (reading es) profile [] rule 0 q → Refuses es profile rule q
  refuses {q} l = record {
    context = l.context;
    node = l.node;
    place = l.place;
    reached = l.reached;
    fault = l.fault;
    node_untyped = none;
    untyped = reached_deny (reading es) profile [] l.context rule l.node 0 l.place l.reached none;
  }
    where
      none : (τ : Ty) → Typed (reading es) profile l.context l.node τ → ⊥
      none = faults_deny (reading es) profile l.context l.place l.node q l.fault

  means : {o : Outcome} → Says es profile [] es rule 0 o → Means es profile rule o
  means (says_typed f) = accepts f
  means (says_refused l) = refuses l

pub judge_means : (es : List Entry) (profile : ℕ) (rule : Term) → LaidDown es → 6 ≤ length es → TypesBelow (length es) rule
    → Means es profile rule (judge_term profile rule es)
judge_means es profile rule d s h =
    means es profile rule h
    (judged es profile rule h [] [] es 0 (record { laid_down = d; given = s; from = longer_refl es }) no_binder)
