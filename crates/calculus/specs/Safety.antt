-- The laws of the calculus: the statements that the contracts of `laws` name.
--   flat lists    ReadOnce, LengthIsSize
--   type tables   ReadingsApart, ReadingsKept, GivenReadings, EntriesJoin, ReadsGiven, AnswersRead
--   typing        OneType, InferExact, TypingKept, TypedScoped
--   steps         ValueRests, OneNext, NextExact, ValueExact
--   safety        ClosedKept, TypeKept, HasNext, Progress
--   runs          RunsCompose, RunsAgree, RunKeepsType, Stops, OneStop
-- Assumes nothing.
use Rattle.std.specs.Prelude.{◌≡◌, ℕ, ◌<◌, ◌≤◌, true, ◌⊎◌, ◌↔◌, List, [], ◌++◌, length, get_or, Some, slice_index_or}
use Rattle.std.specs.List.{AllByRecursion}
use Rattle.calculus.specs.declared.entry.Entry.{Entry}
use Rattle.calculus.specs.declared.node.Node.{Node}
use Rattle.calculus.specs.declared.stop.StopCause.{StopCause}
use Rattle.calculus.specs.Forms.{empty}
use Rattle.calculus.specs.Syntax.{Ty, nat, unit, Term, onto, flat, size, Value, Scoped, Closed}
use Rattle.calculus.specs.Tables.{LaidDown, join, reading, given_types}
use Rattle.calculus.specs.Meanings.{Meaning, LawfulUnder}
use Rattle.calculus.specs.Typing.{Typed, TypesBelow}
use Rattle.calculus.specs.Steps.{Step}
use Rattle.calculus.specs.Infer.{value?, infer}
use Rattle.calculus.specs.Next.{next}
use Rattle.calculus.specs.Runs.{Run, Stopped}

-- A list of nodes begins with at most one term, which says where it ends.
abbrev pub ReadOnce : Type 0
ReadOnce = (t u : Term) (r s : List Node) → onto t r ≡ onto u s → (t ≡ u) × (r ≡ s)

-- A term's written form has as many nodes as its size says.
abbrev pub LengthIsSize : Type 0
LengthIsSize = (t : Term) → length (flat t) ≡ size t

-- Two numbers of a type table that read as one type are one number.
abbrev pub ReadingsApart : Type 0
ReadingsApart = (es : List Entry) → LaidDown es → (i j : ℕ) → i < length es → j < length es → reading es i ≡ reading es j → i ≡ j

-- More entries behind a table change no reading by it.
abbrev pub ReadingsKept : Type 0
ReadingsKept = (es more : List Entry) (n : ℕ) → n < length es → reading (es ++ more) n ≡ reading es n

-- The given six read as nat, unit, void, unit + unit, unit + nat and nat × nat.
abbrev pub GivenReadings : Type 0
GivenReadings = (es : List Entry) → LaidDown es → (i : ℕ) → i < 6 → i < length es → reading es i ≡ slice_index_or given_types i nat

-- An entry of a type table reads as its form over what its two numbers read as.
abbrev pub EntriesJoin : Type 0
EntriesJoin = (es : List Entry) → LaidDown es → (i : ℕ) → i < length es
    → reading es i ≡ join (get_or es i empty).form (reading es (get_or es i empty).left) (reading es (get_or es i empty).right)

-- The two type numbers that stand in answers, 0 and 1, read as nat and unit.
abbrev pub ReadsGiven : (ℕ → Ty) → Type 0
ReadsGiven ρ = (ρ 0 ≡ nat) × (ρ 1 ≡ unit)

-- They do so by every type table.
abbrev pub AnswersRead : Type 0
AnswersRead = (es : List Entry) → LaidDown es → 6 ≤ length es → ReadsGiven (reading es)

-- A term has at most one type in a context.
abbrev pub OneType : Type 0
OneType = (ρ : ℕ → Ty) (profile : ℕ) (Γ : List Ty) (e : Term) (τ σ : Ty)
    → Typed ρ profile Γ e τ → Typed ρ profile Γ e σ → τ ≡ σ

-- `infer` computes the judgement.
abbrev pub InferExact : Type 0
InferExact = (ρ : ℕ → Ty) (profile : ℕ) (Γ : List Ty) (e : Term) (τ : Ty)
    → (infer ρ profile Γ e ≡ Some τ) ↔ Typed ρ profile Γ e τ

-- More entries behind a table change no type of a term whose type numbers the table has.
abbrev pub TypingKept : Type 0
TypingKept = (es more : List Entry) (profile : ℕ) (Γ : List Ty) (e : Term) (τ : Ty) → TypesBelow (length es) e
    → Typed (reading es) profile Γ e τ ↔ Typed (reading (es ++ more)) profile Γ e τ

-- A term with a type has only the variables of its context.
abbrev pub TypedScoped : Type 0
TypedScoped = (ρ : ℕ → Ty) (profile : ℕ) (Γ : List Ty) (e : Term) (τ : Ty) → Typed ρ profile Γ e τ → Scoped (length Γ) e

-- A value has no step.
abbrev pub ValueRests : Type 0
ValueRests = (m : Meaning) (e e' : Term) → Value e → Step m e e' → ⊥

-- A term has at most one next term under one meaning.
abbrev pub OneNext : Type 0
OneNext = (m : Meaning) (e a b : Term) → Step m e a → Step m e b → a ≡ b

-- `next` computes the step relation.
abbrev pub NextExact : Type 0
NextExact = (m : Meaning) (e e' : Term) → (next m e ≡ Some e') ↔ Step m e e'

-- `value?` computes which terms are values.
abbrev pub ValueExact : Type 0
ValueExact = (e : Term) → (value? e ≡ true) ↔ Value e

-- A step keeps a term closed, whether it has a type or not.
abbrev pub ClosedKept : Type 0
ClosedKept = (m : Meaning) (e e' : Term) → Closed e → Step m e e' → Closed e'

-- A step keeps the type of a closed term, under every lawful meaning of the profile.
abbrev pub TypeKept : Type 0
TypeKept = (ρ : ℕ → Ty) (profile : ℕ) (m : Meaning) (e e' : Term) (τ : Ty) → ReadsGiven ρ → LawfulUnder profile m
    → Typed ρ profile [] e τ → Step m e e' → Typed ρ profile [] e' τ

abbrev pub HasNext : Meaning → Term → Type 0
HasNext m e = (e' : Term) × Step m e e'

-- A closed term with a type, of at most 4,096 nodes, is a value or has a next term, and never both, under every lawful
-- meaning of the profile.
abbrev pub Progress : Type 0
Progress = (ρ : ℕ → Ty) (profile : ℕ) (m : Meaning) (e : Term) (τ : Ty) → LawfulUnder profile m
    → Typed ρ profile [] e τ → size e ≤ 4096 → (Value e ⊎ HasNext m e) × (Value e → HasNext m e → ⊥)

-- A run and a run from where it ends are one run.
abbrev pub RunsCompose : Type 0
RunsCompose = (ms ns : List Meaning) (e e' e'' : Term) → Run ms e e' → Run ns e' e'' → Run (ms ++ ns) e e''

-- Two runs of one term under the same meanings end at the same term.
abbrev pub RunsAgree : Type 0
RunsAgree = (ms : List Meaning) (e a b : Term) → Run ms e a → Run ms e b → a ≡ b

-- A run under lawful meanings of the profile keeps the type of a closed term.
abbrev pub RunKeepsType : Type 0
RunKeepsType = (ρ : ℕ → Ty) (profile : ℕ) (ms : List Meaning) (e e' : Term) (τ : Ty) → ReadsGiven ρ
    → AllByRecursion (LawfulUnder profile) ms → Typed ρ profile [] e τ → Run ms e e' → Typed ρ profile [] e' τ

-- With every fuel and room, a run stops somewhere.
abbrev pub Stops : Type 0
Stops = (m : Meaning) (fuel room : ℕ) (e : Term)
    → (c : StopCause) × (made : ℕ) × (e' : Term) × Stopped m fuel room c made e e'

-- And there is only one place, one number of steps and one cause.
abbrev pub OneStop : Type 0
OneStop = (m : Meaning) (fuel room : ℕ) (c d : StopCause) (k j : ℕ) (e a b : Term)
    → Stopped m fuel room c k e a → Stopped m fuel room d j e b → (c ≡ d) × (k ≡ j) × (a ≡ b)
