-- What it means that a rule is accepted.
--   AcceptedBy   by a type table: the table is laid down and has the given six, the rule's type numbers are in it, and the rule
--                has a derivation from no assumptions of the type that a number of the table stands for
--   Accepted     by some type table
-- Assumes nothing.
use Rattle.std.specs.Prelude.{ℕ, ◌<◌, ◌≤◌, List, [], length}
use Rattle.calculus.specs.declared.entry.Entry.{Entry}
use Rattle.calculus.specs.Syntax.{Term}
use Rattle.calculus.specs.Tables.{LaidDown, reading}
use Rattle.calculus.specs.Typing.{Typed, TypesBelow}

pub record AcceptedBy (es : List Entry) (rule : Term) (number profile : ℕ) : Type 0 where
  pub table : LaidDown es
  pub given : 6 ≤ length es
  pub named : TypesBelow (length es) rule
  pub within : number < length es
  pub typed : Typed (reading es) profile [] rule (reading es number)

-- cut down to a proposition, so that it can stand in the type of an acceptance
abbrev pub Accepted : Term → ℕ → ℕ → Type 0
Accepted rule number profile = ∥ ((es : List Entry) × AcceptedBy es rule number profile) ∥₁
