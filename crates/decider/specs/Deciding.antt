-- What a decision says.
--   Decision      what decide answers
--   decision      the decision of a run that was closed, by what its last slice and close answered
--   LeftBy        why a run was left before its term was a value
--   Ends          what became of an accepted rule: a value in so many steps of the step rules, or why not
--   Judged        what became of a rule that was loaded
--   DecideCall    what became of a file
-- Assumes nothing.
use Rattle.std.specs.Prelude.{◌≡◌, ℕ, ◌-◌, ◌<◌, ◌≤◌, List, [], length, take, Ok, Err, Result}
use Rattle.refusals.specs.declared.Question.TheVariants as question
use Rattle.refusals.specs.declared.Refusal.{Refusal}
use Rattle.calculus.specs.declared.entry.Entry.{Entry}
use Rattle.calculus.specs.declared.node.Node.{Node}
use Rattle.calculus.specs.declared.stop.StopCause.{StopCause}
use Rattle.calculus.specs.declared.stop.StopCause.TheVariants as cause
use Rattle.calculus.specs.Syntax.{Ty, Term, Value, onto, flat, size}
use Rattle.calculus.specs.Tables.{LaidDown, reading}
use Rattle.calculus.specs.Meanings.{Meaning}
use Rattle.calculus.specs.Typing.{Typed}
use Rattle.calculus.specs.Steps.{Step}
use Rattle.calculus.specs.Runs.{Run, steps_under}
use Rattle.rule_file.specs.Files.{Rule, file_of}
use Rattle.rule_file.specs.Loading.{LoadCall}
use Rattle.rule_file.specs.Accepted.{LoadedRule}
use Rattle.checker.specs.Checking.{RefuseCall}
use Rattle.checker.specs.Meaning.{Accepts}
use Rattle.evaluator.specs.declared.outcome.Decided.{Decided}
use Rattle.evaluator.specs.declared.outcome.Ran.{Ran}
use Rattle.evaluator.specs.OneCall.{most_steps, in_run, blanks, Fits}
use Rattle.decider.specs.declared.decision.Undecided.{Undecided}
use Rattle.decider.specs.declared.decision.Undecided.TheVariants.{Unloaded, Unaccepted, Unstarted, Refused, Stopped}
use Rattle.decider.specs.declared.memory.Memory.{Memory}

-- what decide answers
abbrev pub Decision : Type 0
Decision = Result Decided Undecided

abbrev pub decision : Result Ran Refusal → Result Decided Refusal → Decision
decision (Err x) c = Err (Refused x)
decision (Ok ran) (Ok d) = Ok d
decision (Ok ran) (Err x) = Err (Stopped ran.cause ran.total)

-- after so many steps of the fuel, at the term e, with tables of so many records; a run of an accepted rule never sticks
abbrev pub LeftBy : Meaning → ℕ → ℕ → StopCause → ℕ → Term → Type 0
LeftBy m fuel room cause.Value steps e = ⊥
LeftBy m fuel room cause.Stuck steps e = ⊥
LeftBy m fuel room cause.Spent steps e = steps ≡ fuel
LeftBy m fuel room cause.Full steps e = (e' : Term) × Step m e e' × (room < size e')

-- `Ends m fuel rule type front back d front'`: under the meaning m and with this fuel, the rule that was accepted with this type
-- came to d in tables that were `front` and `back`; front is then front'.
pub data Ends (m : Meaning) (fuel : ℕ) (rule : Term) (type : ℕ) (front back : List Node) : Decision → List Node → Type 0 where
  -- the step rules take the rule to the value v in so many steps; front is the value and blanks; it has each type that the rule has
  decides : {steps : ℕ} (v : Term) → Value v → Run (steps_under m steps) rule v → steps ≤ fuel
      → ((es : List Entry) (τ : Ty) → LaidDown es → 6 ≤ length es
      → Typed (reading es) m.profile [] rule τ → Typed (reading es) m.profile [] v τ)
      → Ends m fuel rule type front back (Ok (record { records = size v; steps = steps; type_number = type })) (onto v (blanks (length front - size v)))
  -- they take it to e, which is no value, and there the run was left
  leaves : {steps : ℕ} {c : StopCause} (e : Term) → (Value e → ⊥) → Run (steps_under m steps) rule e → steps ≤ fuel
      → LeftBy m fuel (length front) c steps e
      → Ends m fuel rule type front back (Err (Stopped c steps)) (onto e (blanks (length front - size e)))
  -- more fuel than a run may use in all
  overspends : {front' : List Node} → most_steps < fuel
      → Ends m fuel rule type front back (Err (Refused (in_run question.FuelLeft))) front'
  -- the tables do not fit the rule
  unfit : (Fits rule front back → ⊥) → Ends m fuel rule type front back (Err Unstarted) front

pub data Judged (nodes : List Node) (types : List Entry) (count : ℕ) (scratch : List ℕ) (front back : List Node)
    (m : Meaning) (fuel : ℕ) : Decision → List Node → Type 0 where
  -- check refuses it
  rejected : {x : Refusal} (types' : List Entry) (scratch' : List ℕ) → RefuseCall nodes types count scratch m.profile x types' scratch'
      → Judged nodes types count scratch front back m fuel (Err (Unaccepted x)) front
  -- check accepts it
  run : {d : Decision} {front' : List Node} (rule : Term) (number : ℕ) (left : List Entry) → flat rule ≡ nodes
      → Accepts (take count types) m.profile rule number left → Ends m fuel rule number front back d front'
      → Judged nodes types count scratch front back m fuel d front'

pub data DecideCall (file : List ℕ) (memory : Memory) (m : Meaning) (fuel : ℕ) : Decision → List Node → Type 0 where
  -- the file is no rule for which there is room
  unloads : {x : Refusal} (nodes' : List Node) (types' : List Entry)
      → LoadCall file memory.nodes.now memory.types.now (Err x) nodes' types'
      → LoadedRule file (length memory.nodes.now) (length memory.types.now) (Err x) nodes' types'
      → DecideCall file memory m fuel (Err (Unloaded x)) memory.front.now
  -- it is the file of this rule, in a type table that begins with its entries
  judges : {d : Decision} {front' : List Node} (es : List Entry) (ns : List Node) (types₁ : List Entry) → Rule es ns → file ≡ file_of es ns
      → take (length es) types₁ ≡ es
      → Judged ns types₁ (length es) memory.scratch.now memory.front.now memory.back.now m fuel d front'
      → DecideCall file memory m fuel d front'
