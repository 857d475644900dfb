-- Redexes, and the redex of a term.
--   Contracts     by a rule, under a host's meaning, a redex becomes a term: the rules of the step relation that evaluate
--                 no part
--   taken         how many nodes an eliminator and the values that it takes are
--   Written       some term is written so
--   RedexAt       what ties a site to the nodes of a term: there stands the redex of its next step
--   FoundRedex    what the search for the redex answers
-- Assumes nothing.
use Rattle.std.specs.Prelude.{◌≡◌, ℕ, suc, ◌+◌, ◌≤◌, List, length, Some}
use Rattle.calculus.specs.declared.answer.Answer.{Answer}
use Rattle.calculus.specs.declared.node.Node.{Node}
use Rattle.calculus.specs.Syntax.{Term, VA, ZE, SU, RE, LA, AP, TR, PA, FS, SN, AB, IL, IR, CA, QU, Value, flat, size, put, one, numeral}
use Rattle.calculus.specs.Meanings.{Meaning, LawfulUnder, reply}
use Rattle.calculus.specs.Safety.{HasNext}
use Rattle.rewriter.specs.declared.site.Rule.{Rule}
use Rattle.rewriter.specs.declared.site.Rule.TheVariants as rule
use Rattle.rewriter.specs.declared.site.Site.{Site}
use Rattle.rewriter.specs.declared.site.Redex.{Redex}
use Rattle.rewriter.specs.declared.site.Redex.TheVariants as found
use Rattle.rewriter.specs.Contexts.{Context, plug, hole_place}

pub data Contracts (m : Meaning) : Rule → Term → Term → Type 0 where
  beta : {t : ℕ} {b a : Term} → Value a → Contracts m rule.Beta (AP (LA t b) a) (put (one a) b)
  rec_zero : {a b : Term} → Contracts m rule.RecZero (RE ZE a b) a
  rec_successor : {e a b : Term} → Value e → Contracts m rule.RecSuccessor (RE (SU e) a b) (AP (put (one e) b) (RE e a b))
  first : {a b : Term} → Value a → Value b → Contracts m rule.Fst (FS (PA a b)) a
  second : {a b : Term} → Value a → Value b → Contracts m rule.Snd (SN (PA a b)) b
  case_inl : {t : ℕ} {e a b : Term} → Value e → Contracts m rule.CaseInl (CA (IL t e) a b) (put (one e) a)
  case_inr : {t : ℕ} {e a b : Term} → Value e → Contracts m rule.CaseInr (CA (IR t e) a b) (put (one e) b)
  answer : {q n : ℕ} {e : Term} {r : Answer} → e ≡ numeral n → m.answer q n ≡ Some r
      → Contracts m (rule.Answer q n) (QU q e) (reply r)

-- An application takes the values of both its children, every other eliminator that of its first. What is no eliminator
-- takes none.
abbrev pub taken : Term → ℕ
taken (VA i) = 0
taken ZE = 0
taken (SU e) = 0
taken (RE e a b) = suc (size e)
taken (LA t b) = 0
taken (AP f a) = suc (size f + size a)
taken TR = 0
taken (PA a b) = 0
taken (FS e) = suc (size e)
taken (SN e) = suc (size e)
taken (AB t e) = suc (size e)
taken (IL t e) = 0
taken (IR t e) = 0
taken (CA e a b) = suc (size e)
taken (QU q e) = suc (size e)

abbrev pub Written : List Node → Type 0
Written ns = (t : Term) × (flat t ≡ ns)

-- The nodes are a context with a redex in its hole, at the site; by the site's rule the redex contracts under every lawful
-- meaning of the profile.
pub record RedexAt (profile : ℕ) (ns : List Node) (site : Site) : Type 0 where
  pub context : Context
  pub redex : Term
  pub whole : flat (plug context redex) ≡ ns
  pub begins : site.at ≡ hole_place context
  pub values_end : site.upto ≡ site.at + taken redex
  pub ends : site.end ≡ site.at + size redex
  pub places : (site.at + 2 ≤ site.upto) × (site.upto ≤ site.end) × (site.end ≤ length ns)
  pub contracts : (m : Meaning) → LawfulUnder profile m → (e : Term) × Contracts m site.rule redex e

-- A value; or no value, and without a next term under every lawful meaning of the profile; or no value, with a redex, and
-- with a next term under every such meaning.
abbrev pub FoundRedex : ℕ → List Node → Redex → Type 0
FoundRedex profile ns found.Value = (t : Term) → flat t ≡ ns → Value t
FoundRedex profile ns found.Stuck =
    (t : Term) → flat t ≡ ns → (Value t → ⊥) × ((m : Meaning) → LawfulUnder profile m → HasNext m t → ⊥)
FoundRedex profile ns (found.Ready site) =
    RedexAt profile ns site
    × ((t : Term) → flat t ≡ ns → (Value t → ⊥) × ((m : Meaning) → LawfulUnder profile m → HasNext m t))
