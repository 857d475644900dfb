-- The laws of the rewriter: the statements that the contracts of `laws` name.
--   WiderRange         numbers that are in range under a bound of type numbers are so under a larger one
--   StepInRange        a step keeps numbers in range, if the bound of type numbers lets those of answers pass
--   StepClosedTerm     the next term of a closed term with numbers in range is one again
--   RunClosedTerm      so is the term that a run ends at
-- Assumes nothing.
use Rattle.std.specs.Prelude.{ℕ, ◌≤◌, List}
use Rattle.calculus.specs.declared.node.Node.{Node}
use Rattle.calculus.specs.Meanings.{Meaning}
use Rattle.calculus.specs.Runs.{Run}
use Rattle.calculus.specs.Steps.{Step}
use Rattle.calculus.specs.Syntax.{Term, flat}
use Rattle.terms.specs.Ranges.{AllInRange}
use Rattle.rewriter.specs.ClosedTerms.{ClosedTerm}

abbrev pub WiderRange : Type 0
WiderRange = (types wider : ℕ) (ns : List Node) → types ≤ wider → AllInRange types ns → AllInRange wider ns

-- The type numbers in answers are 0 and 1.
abbrev pub StepInRange : Type 0
StepInRange = (types : ℕ) (m : Meaning) (t u : Term) → 2 ≤ types → AllInRange types (flat t) → Step m t u → AllInRange types (flat u)

abbrev pub StepClosedTerm : Type 0
StepClosedTerm = (m : Meaning) (t u : Term) → ClosedTerm t → Step m t u → ClosedTerm u

abbrev pub RunClosedTerm : Type 0
RunClosedTerm = (ms : List Meaning) (t u : Term) → ClosedTerm t → Run ms t u → ClosedTerm u
