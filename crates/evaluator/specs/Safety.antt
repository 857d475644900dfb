-- The safety of runs: what holds of every list of calls from start on.
--   Goes        under a meaning, a term is a value or has exactly one next term, and never both
--   Other       a refusal with neither 30 nor 33
--   Quiet       a call neither answered stuck nor was refused with 30 or 33
--   ClosesWith  what close answers of a run that holds a term
--   Follows     what each call of a list did to the held term
--   Safe        what holds after a list of calls
--   SafeFrom    the same, as a state promises it: whatever calls follow
--   Alike       two lists of meanings answer alike, step for step
--   Agree       two lists of calls on runs of one rule, whose steps were made under meanings that answer alike, end alike
--   Safety      the theorem
--   ClosedRun   what a rule becomes in some number of steps under one meaning is closed with this answer
-- Assumes nothing.
use Rattle.std.specs.Prelude.{◌≡◌, ℕ, ◌+◌, ◌<◌, ◌≤◌, ◌⊎◌, List, [], ◌∷◌, length, Ok, Err, Result, ◌≢◌}
use Rattle.std.specs.List.{AllByRecursion}
use Rattle.calculus.specs.declared.entry.Entry.{Entry}
use Rattle.calculus.specs.declared.node.Node.{Node}
use Rattle.calculus.specs.declared.stop.StopCause.TheVariants as cause
use Rattle.calculus.specs.Syntax.{Ty, Term, Value, size, onto, flat}
use Rattle.calculus.specs.Tables.{LaidDown, reading}
use Rattle.calculus.specs.Meanings.{Meaning, LawfulUnder}
use Rattle.calculus.specs.Typing.{Typed}
use Rattle.calculus.specs.Steps.{Step}
use Rattle.calculus.specs.Runs.{Run, steps_under, Stopped}
use Rattle.calculus.specs.Accepted.{Accepted}
use Rattle.refusals.specs.declared.Question.TheVariants as question
use Rattle.refusals.specs.declared.Refusal.{Refusal}
use Rattle.refusals.specs.Refusals.{report_of}
use Rattle.evaluator.specs.declared.outcome.Decided.{Decided}
use Rattle.evaluator.specs.declared.outcome.Ran.{Ran}
use Rattle.evaluator.specs.OneCall.{most_steps, in_run, State, Holding, Started, CloseCall}
use Rattle.evaluator.specs.Lists.{Call, run_call, look_call, Calls, hosts}

abbrev pub Goes : Meaning → Term → Type 0
Goes m e =
    (Value e × ((w : Term) → Step m e w → ⊥))
    ⊎ ((Value e → ⊥) × ((w : Term) × Step m e w × ((w' : Term) → Step m e w' → w' ≡ w)))

abbrev pub Other : Refusal → Type 0
Other x = ((report_of x).number ≢ 30) × ((report_of x).number ≢ 33)

abbrev pub Quiet : Call → Type 0
Quiet (run_call m fuel (Ok r)) = r.cause ≡ cause.Stuck → ⊥
Quiet (run_call m fuel (Err x)) = Other x
Quiet (look_call (Ok ns)) = Unit {0}
Quiet (look_call (Err x)) = Other x

-- `ClosesWith type n e r`: after n steps the run holds e, accepted with this type, and close answers r.
abbrev pub ClosesWith : ℕ → ℕ → Term → Result Decided Refusal → Type 0
ClosesWith type n e (Ok d) = Value e × (d.records ≡ size e) × (d.steps ≡ n) × (d.type_number ≡ type)
ClosesWith type n e (Err x) = (Value e → ⊥) × (x ≡ in_run question.ValueHeld)

-- `Follows profile room n e cs e'`: from e after n steps, the calls cs lead to e' with tables of `room` records. Each is
-- refused exactly for too much fuel or another profile than the accepted one, and otherwise runs to the first cause to stop.
pub data Follows (profile room : ℕ) : ℕ → Term → List Call → Term → Type 0 where
  ends : {n : ℕ} {e : Term} → Follows profile room n e [] e
  runs : {n fuel : ℕ} {e e' e'' : Term} {m : Meaning} {r : Ran} {cs : List Call}
      → n + fuel ≤ most_steps → m.profile ≡ profile → Stopped m fuel room r.cause r.made e e'
      → r.total ≡ n + r.made → r.records ≡ size e'
      → Follows profile room (n + r.made) e' cs e'' → Follows profile room n e (run_call m fuel (Ok r) ∷ cs) e''
  overspends : {n fuel : ℕ} {e e'' : Term} {m : Meaning} {cs : List Call}
      → most_steps < n + fuel
      → Follows profile room n e cs e'' → Follows profile room n e (run_call m fuel (Err (in_run question.FuelLeft)) ∷ cs) e''
  differs : {n fuel : ℕ} {e e'' : Term} {m : Meaning} {cs : List Call}
      → n + fuel ≤ most_steps → (m.profile ≢ profile)
      → Follows profile room n e cs e''
      → Follows profile room n e (run_call m fuel (Err (in_run question.ProfileAccepted)) ∷ cs) e''
  shows : {n : ℕ} {e e'' : Term} {ns : List Node} {cs : List Call}
      → ns ≡ flat e
      → Follows profile room n e cs e'' → Follows profile room n e (look_call (Ok ns) ∷ cs) e''

-- `Safe rule type profile room cs s`: the calls cs, from the start of the rule on, led to s.
pub record Safe (rule : Term) (type profile room : ℕ) (cs : List Call) (s : State) : Type 0 where
  -- the term that the run holds: front is it and blanks; the run's records are its own
  pub held : Term
  pub holding : Holding held (length (hosts cs)) type profile room s
  -- it is the only term with which front begins
  pub sole : (e : Term) (rest : List Node) → s.front ≡ onto e rest → e ≡ held
  -- it has a derivation from no assumptions of the accepted type
  pub accepted : Accepted held type profile
  -- by every type table: of each type that the rule has, and of no other
  pub typed : (es : List Entry) (τ : Ty) → LaidDown es → 6 ≤ length es
      → Typed (reading es) profile [] rule τ → Typed (reading es) profile [] held τ
  pub no_other : (es : List Entry) (τ σ : Ty) → LaidDown es → 6 ≤ length es
      → Typed (reading es) profile [] rule τ → Typed (reading es) profile [] held σ → σ ≡ τ
  -- under each lawful meaning of the accepted profile it is a value or has exactly one next term, and never both
  pub goes : (m : Meaning) → LawfulUnder profile m → Goes m held
  -- no call answered stuck or was refused with 30 or 33
  pub quiet : AllByRecursion Quiet cs
  -- it is what the rule becomes in as many steps as the list made, each under its call's host
  pub becomes : Run (hosts cs) rule held
  pub total : length (hosts cs) ≤ most_steps
  -- a run call that no question refuses made every step up to the first cause to stop
  pub follows : Follows profile room 0 rule cs held
  -- a close there is decided with it if it is a value, and is otherwise undecided with 34
  pub closes : (r : Result Decided Refusal) → CloseCall s.run s.front r → ClosesWith type (length (hosts cs)) held r

abbrev pub SafeFrom : Term → ℕ → ℕ → ℕ → State → Type 0
SafeFrom rule type profile room s₀ = (s : State) (cs : List Call) → Calls s₀ cs s → Safe rule type profile room cs s

pub data Alike : List Meaning → List Meaning → Type 0 where
  both_end : Alike [] []
  both_step : {m m' : Meaning} {ms ms' : List Meaning}
      → ((q n : ℕ) → m.answer q n ≡ m'.answer q n) → Alike ms ms' → Alike (m ∷ ms) (m' ∷ ms')

-- as many steps on both runs; the runs may differ in their tables, their fuels and where their calls divide the steps
abbrev pub Agree : Type 0
Agree = (rule : Term) (type profile room type' profile' room' : ℕ) (s₀ s t₀ t : State) (cs ds : List Call)
    → Accepted rule type profile → Started rule type profile room s₀ → Calls s₀ cs s
    → Accepted rule type' profile' → Started rule type' profile' room' t₀ → Calls t₀ ds t
    → Alike (hosts cs) (hosts ds)
    → (e e' : Term) (rest rest' : List Node) → s.front ≡ onto e rest → t.front ≡ onto e' rest' → e ≡ e'

pub record Safety : Type 0 where
  pub safe : (rule : Term) (type profile room : ℕ) (s₀ : State)
      → Accepted rule type profile → Started rule type profile room s₀ → SafeFrom rule type profile room s₀
  pub agree : Agree

abbrev pub ClosedRun : Term → ℕ → Meaning → Result Decided Refusal → Type 0
ClosedRun rule type m r = (k : ℕ) × (e : Term) × Run (steps_under m k) rule e × ClosesWith type k e r
