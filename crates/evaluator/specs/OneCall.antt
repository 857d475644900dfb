-- What one call does, for every run and whatever its tables hold.
--   most_steps    how many steps a run may make in all
--   in_run        the refusal of a question by run, look or close
--   State         a run with its own two tables
--   state_of      a run with these tables
--   blanks        so many unused places of a node table
--   Reads         nodes are one closed term, with indices and questions in range
--   Holding       a run holds a term after some steps; front is the term and blanks, back is blank
--   Narrow        a node's number has 16 bits
--   Fits          front and back are equally long, and long enough for a rule
--   Started       what start leaves of a rule and tables that fit it
--   StartCall     start
--   FrontFits     question 30 for front alone is answered yes
--   TablesFit     question 30 is answered yes
--   FuelLeft      question 31 is answered yes
--   RunRefused    the first question of run that is answered no
--   RunMade       a run call that no question refuses
--   RunCall       run
--   LookCall      look
--   CloseRefused  the first question of close that is answered no
--   CloseCall     close
-- Assumes nothing.
use Rattle.std.specs.Prelude.{◌≡◌, ℕ, ◌+◌, ◌-◌, ◌<◌, ◌≤◌, List, length, take, replicate, Some, None, Ok, Err, Result, ◌≢◌}
use Rattle.calculus.specs.declared.node.Node.{Node}
use Rattle.calculus.specs.Kinds.{blank}
use Rattle.calculus.specs.Syntax.{Term, Value, size, onto, flat}
use Rattle.calculus.specs.Meanings.{Meaning}
use Rattle.calculus.specs.Typing.{TypesBelow}
use Rattle.calculus.specs.Runs.{Stopped}
use Rattle.refusals.specs.declared.Layer.TheVariants as layer
use Rattle.refusals.specs.declared.Question.{Question}
use Rattle.refusals.specs.declared.Question.TheVariants as question
use Rattle.refusals.specs.declared.Refusal.{Refusal}
use Rattle.rewriter.specs.ClosedTerms.{any_type, ClosedTerm, FirstClosedFault}
use Rattle.evaluator.specs.declared.held.Held.{Held}
use Rattle.evaluator.specs.declared.held.Run.{Run}
use Rattle.evaluator.specs.declared.outcome.Ran.{Ran}
use Rattle.evaluator.specs.declared.outcome.Decided.{Decided}

abbrev pub most_steps : ℕ
most_steps = 1000000

abbrev pub in_run : Question → Refusal
in_run q = record { layer = layer.Run; question = q }

pub record State : Type 0 where
  pub run : Run
  pub front : List Node
  pub back : List Node

abbrev pub state_of : Run → List Node → List Node → State
state_of run front back = record { run = run; front = front; back = back }

abbrev pub blanks : ℕ → List Node
blanks n = replicate n blank

abbrev pub Reads : List Node → Term → Type 0
Reads ns e = (flat e ≡ ns) × ClosedTerm e

-- `Holding e steps type profile room s`: after so many steps in all the run of s holds e, accepted with this type and
-- profile, and the tables have `room` records.
pub record Holding (e : Term) (steps type profile room : ℕ) (s : State) : Type 0 where
  pub note : Held
  pub run : s.run.held ≡ Some note
  pub length_is : note.length ≡ room
  pub count_is : note.count ≡ size e
  pub steps_are : note.steps ≡ steps
  pub type_is : note.type_number ≡ type
  pub profile_is : note.profile ≡ profile
  pub fits : size e ≤ room
  pub front : s.front ≡ onto e (blanks (room - size e))
  pub back : s.back ≡ blanks room

abbrev pub Narrow : Node → Type 0
Narrow n = n.number < any_type

abbrev pub Fits : Term → List Node → List Node → Type 0
Fits rule front back = (length back ≡ length front) × (size rule ≤ length front) × (length front ≤ 4096)

pub record Started (rule : Term) (type profile room : ℕ) (s : State) : Type 0 where
  pub bounded : room ≤ 4096
  -- the rule's type numbers have 16 bits, as each number of a node has
  pub narrow : TypesBelow any_type rule
  pub holding : Holding rule 0 type profile room s

-- With tables that fit, the run holds the rule; otherwise it holds nothing, and both tables are untouched.
pub record StartCall (rule : Term) (type profile : ℕ) (front back : List Node) (s : State) : Type 0 where
  pub fit : Fits rule front back → Started rule type profile (length front) s
  pub unfit : (Fits rule front back → ⊥) → s ≡ state_of (record { held = None }) front back

abbrev pub FrontFits : Run → List Node → Held → Type 0
FrontFits run front h = (run.held ≡ Some h) × (length front ≡ h.length)

abbrev pub TablesFit : State → Held → Type 0
TablesFit s h = FrontFits s.run s.front h × (length s.back ≡ h.length)

abbrev pub FuelLeft : ℕ → Held → Type 0
FuelLeft fuel h = fuel ≤ most_steps - h.steps

pub data RunRefused (m : Meaning) (fuel : ℕ) (s : State) : Question → Type 0 where
  no_term : ((h : Held) → TablesFit s h → ⊥) → RunRefused m fuel s question.TermHeld
  no_fuel : {h : Held} → TablesFit s h → (FuelLeft fuel h → ⊥) → RunRefused m fuel s question.FuelLeft
  no_profile : {h : Held} → TablesFit s h → FuelLeft fuel h → (m.profile ≢ h.profile)
      → RunRefused m fuel s question.ProfileAccepted
  no_closed : {h : Held} {k : ℕ} → TablesFit s h → FuelLeft fuel h → m.profile ≡ h.profile
      → FirstClosedFault (take h.count s.front) k → RunRefused m fuel s (question.ClosedTerm k)

-- From the term that front holds the run went to where it stops; the run holds the term there, and the answer says so.
pub record RunMade (m : Meaning) (fuel : ℕ) (s : State) (r : Ran) (s' : State) : Type 0 where
  pub note : Held
  pub tables : TablesFit s note
  pub fuel_left : FuelLeft fuel note
  pub profile_is : m.profile ≡ note.profile
  pub from : Term
  pub reads : Reads (take note.count s.front) from
  pub to : Term
  pub stopped : Stopped m fuel note.length r.cause r.made from to
  pub holding : Holding to (note.steps + r.made) note.type_number note.profile note.length s'
  pub total : r.total ≡ note.steps + r.made
  pub records : r.records ≡ size to

-- A refusal leaves the run and both tables as they were.
abbrev pub RunCall : Meaning → ℕ → State → Result Ran Refusal → State → Type 0
RunCall m fuel s (Ok r) s' = RunMade m fuel s r s'
RunCall m fuel s (Err x) s' = ((q : Question) × (x ≡ in_run q) × RunRefused m fuel s q) × (s' ≡ s)

-- Front up to the recorded count, or 30 for front alone.
abbrev pub LookCall : Run → List Node → Result (List Node) Refusal → Type 0
LookCall run front (Ok ns) = (h : Held) × FrontFits run front h × (ns ≡ take h.count front)
LookCall run front (Err x) = (x ≡ in_run question.TermHeld) × ((h : Held) → FrontFits run front h → ⊥)

pub data CloseRefused (run : Run) (front : List Node) : Question → Type 0 where
  nothing_held : ((h : Held) → FrontFits run front h → ⊥) → CloseRefused run front question.TermHeld
  not_closed : {h : Held} {k : ℕ} → FrontFits run front h → FirstClosedFault (take h.count front) k
      → CloseRefused run front (question.ClosedTerm k)
  not_value : {h : Held} {e : Term} → FrontFits run front h → Reads (take h.count front) e → (Value e → ⊥)
      → CloseRefused run front question.ValueHeld

-- A value that the run holds, with its records, its steps and its type; or the first question that is answered no.
abbrev pub CloseCall : Run → List Node → Result Decided Refusal → Type 0
CloseCall run front (Ok d) =
    (h : Held) × FrontFits run front h × (e : Term) × Reads (take h.count front) e × Value e
    × (d.records ≡ h.count) × (d.steps ≡ h.steps) × (d.type_number ≡ h.type_number)
CloseCall run front (Err x) = (q : Question) × (x ≡ in_run q) × CloseRefused run front q
