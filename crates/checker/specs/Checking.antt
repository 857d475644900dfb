-- The questions of check, in order, and what check answers and leaves.
--   in_check      the refusal of a question by check
--   Roomy         question 11 is answered yes: room for a type at each node, and four numbers for each node
--   Checkable     questions 10 to 13 are answered yes
--   Uncheckable   the first of them that is answered no, with its place
--   zeros         a list of zeros
--   AcceptCall    what an acceptance says, and what check then leaves in the type table and the scratch list
--   RejectCall    what a no to one of 20 to 24 says, and what check then leaves
--   RefuseCall    every refusal, with what check leaves
--   Exactly       an acceptance is answered exactly when the typing rules derive a type, by the table that check leaves
-- Assumes nothing.
use Rattle.std.specs.Prelude.{◌≡◌, ℕ, ◌+◌, ◌-◌, ◌*◌, ◌≤◌, Bool, true, ◌↔◌, List, [], ◌++◌, length, take, replicate, Some}
use Rattle.refusals.specs.declared.Layer.TheVariants.{Check}
use Rattle.refusals.specs.declared.Question.{Question}
use Rattle.refusals.specs.declared.Question.TheVariants.{Counts, CheckRoom, EntryLaid, OneTerm}
use Rattle.refusals.specs.declared.Refusal.{Refusal}
use Rattle.calculus.specs.declared.entry.Entry.{Entry}
use Rattle.calculus.specs.declared.node.Node.{Node}
use Rattle.calculus.specs.Forms.{empty}
use Rattle.calculus.specs.Syntax.{Ty, Term, flat}
use Rattle.calculus.specs.Tables.{LaidDown, TableJudged, reading}
use Rattle.calculus.specs.Typing.{Typed}
use Rattle.terms.specs.Whole
use Rattle.types.specs.Counts.{CountsFit}
use Rattle.checker.specs.Judging.{typed, refused, judge_term}
use Rattle.checker.specs.Meaning.{Accepts, Refuses}

abbrev pub in_check : Question → Refusal
in_check q = record { layer = Check; question = q }

-- by the numbers of nodes, entries in the table, types and scratch numbers
abbrev pub Roomy : ℕ → ℕ → ℕ → ℕ → Type 0
Roomy nodes entries count words = (count + nodes ≤ entries) × (4 * nodes ≤ words)

pub record Checkable (nodes : List Node) (types : List Entry) (count words : ℕ) : Type 0 where
  pub counts : CountsFit (length nodes) (length types) count
  pub room : Roomy (length nodes) (length types) count words
  pub table : LaidDown (take count types)
  pub term : Whole.OneTerm count nodes

pub data Uncheckable (nodes : List Node) (types : List Entry) (count words : ℕ) : Question → Type 0 where
  counts_unfit : (CountsFit (length nodes) (length types) count → ⊥) → Uncheckable nodes types count words Counts
  no_room : CountsFit (length nodes) (length types) count → (Roomy (length nodes) (length types) count words → ⊥)
      → Uncheckable nodes types count words CheckRoom
  entry_at_fault : {k : ℕ} → CountsFit (length nodes) (length types) count → Roomy (length nodes) (length types) count words
      → TableJudged (take count types) (Some k) → Uncheckable nodes types count words (EntryLaid k)
  node_at_fault : {k : ℕ} → CountsFit (length nodes) (length types) count → Roomy (length nodes) (length types) count words
      → LaidDown (take count types) → Whole.FirstFault count nodes k → Uncheckable nodes types count words (OneTerm k)

abbrev pub zeros : ℕ → List ℕ
zeros n = replicate n 0

-- The rule has the type with this number, by the table that is left: its first entries, count' of them, and then blanks.
pub record AcceptCall (nodes : List Node) (types : List Entry) (count words profile number count' : ℕ)
    (types' : List Entry) (scratch' : List ℕ) : Type 0 where
  pub checkable : Checkable nodes types count words
  pub rule : Term
  pub is : flat rule ≡ nodes
  pub left : List Entry
  pub judged : judge_term profile rule (take count types) ≡ typed number left
  pub accepts : Accepts (take count types) profile rule number left
  pub count_after : count' ≡ length left
  pub types_after : types' ≡ left ++ replicate (length types - count') empty
  pub scratch_after : scratch' ≡ zeros words

-- The rule has no type: the question names the node and the child. The old entries stand, and then blanks.
pub record RejectCall (nodes : List Node) (types : List Entry) (count words profile : ℕ) (q : Question)
    (types' : List Entry) (scratch' : List ℕ) : Type 0 where
  pub checkable : Checkable nodes types count words
  pub rule : Term
  pub is : flat rule ≡ nodes
  pub judged : judge_term profile rule (take count types) ≡ refused q
  pub refuses : Refuses (take count types) profile rule q
  pub types_after : types' ≡ take count types ++ replicate (length types - count) empty
  pub scratch_after : scratch' ≡ zeros words

pub data RefuseCall (nodes : List Node) (types : List Entry) (count : ℕ) (scratch : List ℕ) (profile : ℕ)
    : Refusal → List Entry → List ℕ → Type 0 where
  -- a no to 10 to 13 leaves type table and scratch list as they were
  before : {q : Question} → Uncheckable nodes types count (length scratch) q
      → RefuseCall nodes types count scratch profile (in_check q) types scratch
  -- a no to 20 to 24
  during : {q : Question} {types' : List Entry} {scratch' : List ℕ}
      → RejectCall nodes types count (length scratch) profile q types' scratch'
      → RefuseCall nodes types count scratch profile (in_check q) types' scratch'

-- `Exactly .. accepted left`: of a rule past 10 to 13
abbrev pub Exactly : List Node → List Entry → ℕ → ℕ → ℕ → Bool → List Entry → Type 0
Exactly nodes types count words profile accepted left =
    Checkable nodes types count words → (rule : Term) → flat rule ≡ nodes
    → (accepted ≡ true) ↔ ((τ : Ty) × Typed (reading left) profile [] rule τ)
