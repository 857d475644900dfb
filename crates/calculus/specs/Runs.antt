-- Runs of steps, and where a run stops.
--   Run           steps that lead from a term to a term, each under its own meaning
--   steps_under   the meanings of so many steps under one meaning
--   Cause         the causes to stop: after some steps of the fuel, at a term, with a table of a length
--   cause_order   the order in which the causes are tried
--   Stopped       a run up to the first term at which a cause is true, with the first such cause
-- Assumes nothing.
use Rattle.std.specs.Prelude.{◌≡◌, ℕ, ◌<◌, ◌≤◌, List, [], ◌∷◌, replicate}
use Rattle.calculus.specs.declared.stop.StopCause.{StopCause}
use Rattle.calculus.specs.declared.stop.StopCause.TheVariants as cause
use Rattle.calculus.specs.Syntax.{Term, Value, size}
use Rattle.calculus.specs.Meanings.{Meaning}
use Rattle.calculus.specs.Steps.{Step}

-- `Run ms e e'`: as many steps as ms has meanings, each under the next of them, lead from e to e'.
pub data Run : List Meaning → Term → Term → Type 0 where
  done : {e : Term} → Run [] e e
  onward : {m : Meaning} {ms : List Meaning} {e e' e'' : Term} → Step m e e' → Run ms e' e'' → Run (m ∷ ms) e e''

abbrev pub steps_under : Meaning → ℕ → List Meaning
steps_under m k = replicate k m

-- `Cause m fuel room c k e`: after k steps of `fuel`, at the term e, with a table of `room` nodes, the cause c is true.
abbrev pub Cause : Meaning → ℕ → ℕ → StopCause → ℕ → Term → Type 0
Cause m fuel room cause.Value k e = Value e
Cause m fuel room cause.Stuck k e = (Value e → ⊥) × ((e' : Term) → Step m e e' → ⊥)
Cause m fuel room cause.Spent k e = k ≡ fuel
Cause m fuel room cause.Full k e = (e' : Term) × Step m e e' × (room < size e')

abbrev pub cause_order : StopCause → ℕ
cause_order cause.Value = 0
cause_order cause.Stuck = 1
cause_order cause.Spent = 2
cause_order cause.Full = 3

-- `Stopped m fuel room c made e e'`: from e the run stops at e', after `made` steps, for the cause c.
pub record Stopped (m : Meaning) (fuel room : ℕ) (c : StopCause) (made : ℕ) (e e' : Term) : Type 0 where
  pub steps : Run (steps_under m made) e e'
  pub within_fuel : made ≤ fuel
  -- the cause is true there
  pub true_there : Cause m fuel room c made e'
  -- no earlier cause is true there
  pub first_there : (d : StopCause) → cause_order d < cause_order c → Cause m fuel room d made e' → ⊥
  -- no cause is true at an earlier term
  pub none_before : (k : ℕ) (v : Term) → k < made → Run (steps_under m k) e v
      → (d : StopCause) → Cause m fuel room d k v → ⊥
