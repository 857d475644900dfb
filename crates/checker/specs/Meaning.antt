-- What the outcome of `judge_term` means, by a type table and a profile.
--   Accepts       the outcome is a type: the table has grown as Grows says, it is laid down, and the number reads as the type of the term
--   Refuses       the outcome is a question: it names a node in a context, its fault, and the whole has no derivation
--   Means         either, by the outcome
--   JudgeMeans    every outcome means that, for every rule and table that pass the questions before
-- Assumes nothing.
use Rattle.std.specs.Prelude.{◌≡◌, ℕ, ◌≤◌, List, [], ◌++◌, length}
use Rattle.refusals.specs.declared.Question.{Question}
use Rattle.calculus.specs.declared.entry.Entry.{Entry}
use Rattle.calculus.specs.Syntax.{Ty, Term}
use Rattle.calculus.specs.Tables.{LaidDown, reading}
use Rattle.calculus.specs.Typing.{Typed, TypesBelow}
use Rattle.calculus.specs.Accepted.{AcceptedBy}
use Rattle.checker.specs.Judging.{Outcome, typed, refused, judge_term}
use Rattle.checker.specs.Derivations.{Reached, Fault, Untyped, Grows}

-- es is the table before, U the table after
pub record Accepts (es : List Entry) (profile : ℕ) (rule : Term) (number : ℕ) (U : List Entry) : Type 0 where
  -- the rule has a derivation of the type that the number reads as, by the table left
  pub accepted : AcceptedBy U rule number profile
  -- and of no other type
  pub only : (τ : Ty) → Typed (reading U) profile [] rule τ → τ ≡ reading U number
  -- the table begins as before, and what it has more is what Grows says
  pub longer : (more : List Entry) × (U ≡ es ++ more)
  pub grows : Grows (reading es) profile [] rule es U

pub record Refuses (es : List Entry) (profile : ℕ) (rule : Term) (q : Question) : Type 0 where
  -- the node, its place and the context there
  pub context : List Ty
  pub node : Term
  pub place : ℕ
  pub reached : Reached (reading es) profile [] rule 0 context node place
  -- what is wrong there, which is the question that was answered no
  pub fault : Fault (reading es) profile context place node q
  -- so neither the node nor the rule has a derivation
  pub node_untyped : Untyped (reading es) profile context node
  pub untyped : Untyped (reading es) profile [] rule

abbrev pub Means : List Entry → ℕ → Term → Outcome → Type 0
Means es profile rule (typed number U) = Accepts es profile rule number U
Means es profile rule (refused q) = Refuses es profile rule q

abbrev pub JudgeMeans : Type 0
JudgeMeans = (es : List Entry) (profile : ℕ) (rule : Term) → LaidDown es → 6 ≤ length es → TypesBelow (length es) rule
    → Means es profile rule (judge_term profile rule es)
