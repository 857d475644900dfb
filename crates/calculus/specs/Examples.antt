-- Worked rules.
--   empty_answers   what a listing without versions answers to each question
--   empty_listing   the meaning of a listing without versions
--   with_function   the given entries, and nat → nat as entry 6
--   WorkedRule      a rule with the type table that it is read by, and what is expected of it: that it has no type, or its
--                   type and where its run stops
--   worked_rules    the rules
--   TypedBy         a closed rule has a type by a table, under the profile of the listing
--   AsExpected      a rule is as expected, with a fuel of 10
--   WorkedRules     all of them are
--   EmptyLawful     the meaning under which they run is lawful
-- Assumes nothing.
use Rattle.std.specs.Prelude.{◌≡◌, ℕ, zero, suc, true, cond, List, [], ◌∷◌, ◌++◌, Some, None, Option, nat_le}
use Rattle.std.specs.List.{AllByRecursion}
use Rattle.calculus.specs.declared.answer.Answer.{Answer}
use Rattle.calculus.specs.declared.answer.Answer.TheVariants as answer
use Rattle.calculus.specs.declared.entry.Entry.{Entry}
use Rattle.calculus.specs.declared.form.Form.TheVariants as form
use Rattle.calculus.specs.declared.stop.StopCause.{StopCause}
use Rattle.calculus.specs.declared.stop.StopCause.TheVariants as cause
use Rattle.calculus.specs.Forms.{entry}
use Rattle.calculus.specs.Syntax.{Ty, nat, unit, void, fun, sum, Term, VA, ZE, SU, RE, LA, AP, TR, FS, AB, IL, CA, QU, size}
use Rattle.calculus.specs.Tables.{given_entries, reading}
use Rattle.calculus.specs.Meanings.{Meaning, Lawful, largest_asked}
use Rattle.calculus.specs.Typing.{Typed}
use Rattle.calculus.specs.Runs.{Stopped}

-- the count is 0, the age of every version is absent, every version is withdrawn, line and patch are 0
abbrev pub empty_answers : ℕ → Option Answer
empty_answers zero = Some (answer.Number 0)
empty_answers (suc zero) = Some (answer.Maybe None)
empty_answers (suc (suc zero)) = Some (answer.Flag true)
empty_answers (suc (suc (suc zero))) = Some (answer.Pair 0 0)
empty_answers (suc (suc (suc (suc q)))) = None

abbrev pub empty_listing : Meaning
empty_listing = record { profile = 0x4231; answer = λ q n. cond (nat_le n largest_asked) (empty_answers q) None }

abbrev pub with_function : List Entry
with_function = given_entries ++ (entry form.Function 0 0 ∷ [])

pub data WorkedRule : Type 0 where
  -- table, rule
  has_no_type : List Entry → Term → WorkedRule
  -- table, rule, its type; room; where the run stops: cause, steps made, the term there, its nodes
  stops : List Entry → Term → Ty → ℕ → StopCause → ℕ → Term → ℕ → WorkedRule

abbrev pub worked_rules : List WorkedRule
worked_rules =
    stops given_entries (AP (LA 0 (SU (VA 0))) ZE) nat 4096 cause.Value 1 (SU ZE) 2
    ∷ stops given_entries (RE (SU (SU ZE)) (SU ZE) (LA 0 (SU (VA 0)))) nat 15 cause.Value 5 (SU (SU (SU ZE))) 4
    ∷ stops given_entries (RE (SU (SU ZE)) (SU ZE) (LA 0 (SU (VA 0)))) nat 14 cause.Full 1
    (AP (LA 0 (SU (VA 0))) (RE (SU ZE) (SU ZE) (LA 0 (SU (VA 0))))) 12
    ∷ has_no_type given_entries (SU (FS ZE))
    ∷ has_no_type given_entries (AP (LA 1 (VA 0)) ZE)
    ∷ has_no_type given_entries (VA 0)
    ∷ stops given_entries (LA 2 (AB 0 (VA 0))) (fun void nat) 4096 cause.Value 0 (LA 2 (AB 0 (VA 0))) 3
    ∷ stops given_entries (IL 0 TR) (sum unit nat) 4096 cause.Value 0 (IL 0 TR) 2
    ∷ has_no_type with_function (RE ZE ZE (AP (LA 6 (VA 0)) (LA 0 (VA 0))))
    ∷ stops given_entries (CA (QU 2 ZE) ZE (SU ZE)) nat 4096 cause.Value 2 (SU ZE) 2
    ∷ []

abbrev pub TypedBy : List Entry → Term → Ty → Type 0
TypedBy table rule τ = Typed (reading table) empty_listing.profile [] rule τ

abbrev pub AsExpected : WorkedRule → Type 0
AsExpected (has_no_type table rule) = (τ : Ty) → TypedBy table rule τ → ⊥
AsExpected (stops table rule τ room c made e nodes) =
    TypedBy table rule τ × Stopped empty_listing 10 room c made rule e × (size e ≡ nodes)

abbrev pub WorkedRules : Type 0
WorkedRules = AllByRecursion AsExpected worked_rules

abbrev pub EmptyLawful : Type 0
EmptyLawful = Lawful empty_listing
