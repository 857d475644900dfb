-- The parts of run and close: their questions, and the steps.
--   Runnable    the questions of run are answered yes
--   Closable    the questions of close are answered yes
--   Halted      what the loop of steps comes to
--   Evaluated   what run leaves in its tables
-- Assumes nothing.
use Rattle.std.specs.Prelude.{◌≡◌, ℕ, ◌+◌, ◌-◌, ◌≤◌, List, length, take}
use Rattle.calculus.specs.declared.node.Node.{Node}
use Rattle.calculus.specs.Syntax.{Term, Value, size, onto, flat}
use Rattle.calculus.specs.Meanings.{Meaning}
use Rattle.calculus.specs.Runs.{Stopped}
use Rattle.rewriter.specs.ClosedTerms.{OneClosed}
use Rattle.evaluator.specs.declared.held.Held.{Held}
use Rattle.evaluator.specs.declared.held.Run.{Run}
use Rattle.evaluator.specs.declared.outcome.Ran.{Ran}
use Rattle.evaluator.specs.OneCall.{State, blanks, Reads, FrontFits, TablesFit, FuelLeft}

pub record Runnable (m : Meaning) (fuel : ℕ) (s : State) (h : Held) : Type 0 where
  pub tables : TablesFit s h
  pub fuel_left : FuelLeft fuel h
  pub profile_is : m.profile ≡ h.profile
  pub closed : OneClosed (take h.count s.front)

pub record Closable (run : Run) (front : List Node) (h : Held) : Type 0 where
  pub table : FrontFits run front h
  pub term : Term
  pub reads : Reads (take h.count front) term
  pub value : Value term

-- From the term that front holds the run went to where it stops, and left the term there at the beginning of front'.
pub record Halted (m : Meaning) (fuel : ℕ) (h : Held) (front front' : List Node) (r : Ran) : Type 0 where
  pub from : Term
  pub reads : Reads (take h.count front) from
  pub to : Term
  pub stopped : Stopped m fuel (length front) r.cause r.made from to
  pub within : r.records ≤ length front
  pub holds : flat to ≡ take r.records front'
  pub total : r.total ≡ h.steps + r.made

pub record Evaluated (m : Meaning) (fuel : ℕ) (h : Held) (front : List Node) (r : Ran) (front' back' : List Node) : Type 0 where
  pub from : Term
  pub reads : Reads (take h.count front) from
  pub to : Term
  pub stopped : Stopped m fuel h.length r.cause r.made from to
  pub fits : size to ≤ h.length
  pub front_after : front' ≡ onto to (blanks (h.length - size to))
  pub back_after : back' ≡ blanks h.length
  pub total : r.total ≡ h.steps + r.made
  pub records : r.records ≡ size to
