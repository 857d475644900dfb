-- Running in slices.
--   Whole    a last slice that was spent used up the fuel
--   Sliced   slices under one meaning, at most so many steps in all: the calls before the last one, and the last one
-- Assumes nothing.
use Rattle.std.specs.Prelude.{◌≡◌, ℕ, ◌+◌, ◌≤◌, List, Ok, Err, Result}
use Rattle.refusals.specs.declared.Refusal.{Refusal}
use Rattle.calculus.specs.declared.stop.StopCause.TheVariants as cause
use Rattle.calculus.specs.Meanings.{Meaning}
use Rattle.calculus.specs.Runs.{steps_under}
use Rattle.evaluator.specs.declared.outcome.Ran.{Ran}
use Rattle.evaluator.specs.OneCall.{State, RunCall}
use Rattle.evaluator.specs.Lists.{Call, Calls, hosts}

-- `Whole fuel made asked r`: the last slice, which was asked for so many steps after `made` others, answered r
abbrev pub Whole : ℕ → ℕ → ℕ → Result Ran Refusal → Type 0
Whole fuel made asked (Ok ran) = ran.cause ≡ cause.Spent → made + asked ≡ fuel
Whole fuel made asked (Err x) = Unit {0}

pub record Sliced (m : Meaning) (fuel : ℕ) (s : State) (r : Result Ran Refusal) (s' : State) : Type 0 where
  -- the slices before the last one lead to `middle`
  pub before : List Call
  pub middle : State
  pub lead : Calls s before middle
  pub made : ℕ
  pub under : hosts before ≡ steps_under m made
  -- the last one
  pub asked : ℕ
  pub last : RunCall m asked middle r s'
  pub few : made + asked ≤ fuel
  pub whole : Whole fuel made asked r
