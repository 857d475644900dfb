-- Worked rules.
--   with_function   the given entries, and nat → nat as entry 6
--   WorkedRule      a rule with the type table that it is checked by, and what is expected of it: the question that is answered
--                   no, or its type and where its run stops
--   worked_rules    the rules
--   AsExpected      a rule is as expected, under a listing without versions and with a fuel of 10
--   WorkedRules     all of them are
-- Assumes nothing.
use Rattle.std.specs.Prelude.{◌≡◌, ℕ, List, [], ◌∷◌, ◌++◌}
use Rattle.std.specs.List.{AllByRecursion}
use Rattle.refusals.specs.declared.Question.{Question}
use Rattle.refusals.specs.declared.Question.TheVariants.{IndexBound, FirstChild, LaterChild, StepFunction}
use Rattle.calculus.specs.declared.entry.Entry.{Entry}
use Rattle.calculus.specs.declared.form.Form.TheVariants as form
use Rattle.calculus.specs.declared.stop.StopCause.{StopCause}
use Rattle.calculus.specs.declared.stop.StopCause.TheVariants as cause
use Rattle.calculus.specs.Forms.{entry}
use Rattle.calculus.specs.Syntax.{Ty, nat, unit, void, fun, sum, Term, VA, ZE, SU, RE, LA, AP, TR, FS, AB, IL, CA, QU, size}
use Rattle.calculus.specs.Tables.{given_entries, reading}
use Rattle.calculus.specs.Examples.{empty_listing}
use Rattle.calculus.specs.Runs.{Stopped}
use Rattle.checker.specs.Judging.{typed, refused, judge_term}
use Rattle.checker.specs.Meaning.{Accepts, Refuses}

abbrev pub with_function : List Entry
with_function = given_entries ++ (entry form.Function 0 0 ∷ [])

pub data WorkedRule : Type 0 where
  -- table, rule; the question, with its place and its child
  refuses : List Entry → Term → Question → WorkedRule
  -- table, rule; its type's number, the entries that are added, its type; room; where the run stops: cause, steps made, the term
  -- there, its nodes
  stops : List Entry → Term → ℕ → List Entry → Ty → ℕ → StopCause → ℕ → Term → ℕ → WorkedRule

abbrev pub worked_rules : List WorkedRule
worked_rules =
    stops given_entries (AP (LA 0 (SU (VA 0))) ZE) 0 (entry form.Function 0 0 ∷ []) nat 4096 cause.Value 1 (SU ZE) 2
    ∷ stops given_entries (RE (SU (SU ZE)) (SU ZE) (LA 0 (SU (VA 0)))) 0 (entry form.Function 0 0 ∷ []) nat 15 cause.Value 5
    (SU (SU (SU ZE))) 4
    ∷ stops given_entries (RE (SU (SU ZE)) (SU ZE) (LA 0 (SU (VA 0)))) 0 (entry form.Function 0 0 ∷ []) nat 14 cause.Full 1
    (AP (LA 0 (SU (VA 0))) (RE (SU ZE) (SU ZE) (LA 0 (SU (VA 0))))) 12
    ∷ refuses given_entries (SU (FS ZE)) (FirstChild 1)
    ∷ refuses given_entries (AP (LA 1 (VA 0)) ZE) (LaterChild 0 2)
    ∷ refuses given_entries (VA 0) (IndexBound 0)
    ∷ stops given_entries (LA 2 (AB 0 (VA 0))) 6 (entry form.Function 2 0 ∷ []) (fun void nat) 4096 cause.Value 0
    (LA 2 (AB 0 (VA 0))) 3
    ∷ stops given_entries (IL 0 TR) 4 [] (sum unit nat) 4096 cause.Value 0 (IL 0 TR) 2
    ∷ refuses with_function (RE ZE ZE (AP (LA 6 (VA 0)) (LA 0 (VA 0)))) (StepFunction 0)
    ∷ stops given_entries (CA (QU 2 ZE) ZE (SU ZE)) 0 [] nat 4096 cause.Value 2 (SU ZE) 2
    ∷ []

abbrev pub AsExpected : WorkedRule → Type 0
AsExpected (refuses table rule q) =
    (judge_term empty_listing.profile rule table ≡ refused q) × Refuses table empty_listing.profile rule q
AsExpected (stops table rule number added τ room c made e nodes) =
    (judge_term empty_listing.profile rule table ≡ typed number (table ++ added))
    × Accepts table empty_listing.profile rule number (table ++ added) × (reading (table ++ added) number ≡ τ)
    × Stopped empty_listing 10 room c made rule e × (size e ≡ nodes)

abbrev pub WorkedRules : Type 0
WorkedRules = AllByRecursion AsExpected worked_rules
