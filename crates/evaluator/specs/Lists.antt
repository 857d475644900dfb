-- Lists of calls on one run and its own tables.
--   Call    a run or a look, with what it was given and what it answered
--   Does    what one call does to the run and its tables
--   Calls   a list of calls, one after the other, leads from a state to a state
--   hosts   the host of each step that the calls of a list made, in order
--   Under   a call had a host with this meaning, if it had any
-- Assumes nothing.
use Rattle.std.specs.Prelude.{◌≡◌, ℕ, List, [], ◌∷◌, ◌++◌, Ok, Err, Result}
use Rattle.calculus.specs.declared.node.Node.{Node}
use Rattle.calculus.specs.Meanings.{Meaning, Lawful}
use Rattle.calculus.specs.Runs.{steps_under}
use Rattle.refusals.specs.declared.Refusal.{Refusal}
use Rattle.evaluator.specs.declared.outcome.Ran.{Ran}
use Rattle.evaluator.specs.OneCall.{State, RunCall, LookCall}

-- a run has its host, by what it means, and its fuel
pub data Call : Type 0 where
  run_call : Meaning → ℕ → Result Ran Refusal → Call
  look_call : Result (List Node) Refusal → Call

-- any lawful host, any fuel; a look changes nothing
abbrev pub Does : State → Call → State → Type 0
Does s (run_call m fuel a) s' = Lawful m × RunCall m fuel s a s'
Does s (look_call a) s' = LookCall s.run s.front a × (s' ≡ s)

-- Nothing but these calls writes the run or its tables.
pub data Calls : State → List Call → State → Type 0 where
  none : {s : State} → Calls s [] s
  call : {s s' s'' : State} {c : Call} {cs : List Call} → Does s c s' → Calls s' cs s'' → Calls s (c ∷ cs) s''

-- a refused call and a look make no step
abbrev pub hosts : List Call → List Meaning
hosts [] = []
hosts (run_call m fuel (Ok r) ∷ cs) = steps_under m r.made ++ hosts cs
hosts (run_call m fuel (Err x) ∷ cs) = hosts cs
hosts (look_call a ∷ cs) = hosts cs

abbrev pub Under : Meaning → Call → Type 0
Under m (run_call m' fuel a) = m' ≡ m
Under m (look_call a) = Unit {0}
