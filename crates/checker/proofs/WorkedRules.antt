-- The worked rules are as expected: what `judge_term` and `run_to` compute of each, and what that says. Assumes nothing.
use Rattle.std.proofs.Common.{◌≡◌, ℕ, ◌≤◌, List, ◌++◌, length, refl, ap, subst, lit<, lit≤}
use Rattle.std.specs.List.{AllByRecursion}
use Rattle.std.proofs.ByRecursion.{All-weaker}
use Rattle.calculus.specs.declared.entry.Entry.{Entry}
use Rattle.calculus.specs.declared.form.Form.TheVariants as form
use Rattle.calculus.specs.Forms.{entry}
use Rattle.calculus.specs.Syntax.{Ty, Term, size}
use Rattle.calculus.specs.Tables.{given_entries, LaidDown, reading}
use Rattle.calculus.specs.Typing.{TypesBelow}
use Rattle.calculus.specs.Examples.{empty_listing}
use Rattle.calculus.specs.Runs.{Stopped}
use Rattle.calculus.proofs.RunTo
use Rattle.calculus.proofs.RunTo.{run_to, run_to_stops}
use Rattle.types.proofs.Laid.{laid_given, laid_more}
use Rattle.checker.specs.Judging.{Outcome, typed, refused, judge_term}
use Rattle.checker.specs.Meaning.{Means}
use Rattle.checker.specs.WorkedRules.{with_function, WorkedRule, refuses, stops, worked_rules, AsExpected, WorkedRules}
use Rattle.checker.proofs.OutcomeMeans.{judge_means}

-- what a rule must pass before it is checked
abbrev Checked : List Entry → Term → Type 0
Checked table rule = LaidDown table × (6 ≤ length table) × TypesBelow (length table) rule

abbrev Computed : WorkedRule → Type 0
Computed (refuses table rule q) = Checked table rule × (judge_term empty_listing.profile rule table ≡ refused q)
Computed (stops table rule number added τ room c made e nodes) =
    Checked table rule
    × (◌≡◌ {A = Outcome × Ty × RunTo.Outcome × ℕ}
    (judge_term empty_listing.profile rule table, reading (table ++ added) number, run_to empty_listing 10 room rule, size e)
    (typed number (table ++ added), τ, (c, made, e), nodes))

means : (table : List Entry) (rule : Term) → Checked table rule
    → Means table empty_listing.profile rule (judge_term empty_listing.profile rule table)
means table rule (laid, six, below) = judge_means table empty_listing.profile rule laid six below

by_computing : (w : WorkedRule) → Computed w → AsExpected w
by_computing (refuses table rule q) (checked, e) =
    (e, subst (Means table empty_listing.profile rule) e (means table rule checked))
by_computing (stops table rule number added τ room c made e nodes) (checked, p) = (
  ap (λ x. x.0) p,
  subst (Means table empty_listing.profile rule) (ap (λ x. x.0) p) (means table rule checked),
  ap (λ x. x.1) p,
  subst (λ (h : RunTo.Outcome). Stopped empty_listing 10 room h.0 h.1 rule h.2) (ap (λ x. x.2) p)
      (run_to_stops empty_listing 10 room rule),
  ap (λ x. x.3) p,
)

laid_with : LaidDown with_function
laid_with = laid_more given_entries (entry form.Function 0 0) laid_given refl

all_computed : AllByRecursion Computed worked_rules
all_computed = (
  ((laid_given, lit≤ tt, ((lit< tt, tt), tt)), refl),
  (
    ((laid_given, lit≤ tt, (tt, tt, (lit< tt, tt))), refl),
    (
      ((laid_given, lit≤ tt, (tt, tt, (lit< tt, tt))), refl),
      (
        ((laid_given, lit≤ tt, tt), refl),
        (
          ((laid_given, lit≤ tt, ((lit< tt, tt), tt)), refl),
          (
            ((laid_given, lit≤ tt, tt), refl),
            (
              ((laid_given, lit≤ tt, (lit< tt, (lit< tt, tt))), refl),
              (
                ((laid_given, lit≤ tt, (lit< tt, tt)), refl),
                (
                  ((laid_with, lit≤ tt, (tt, tt, ((lit< tt, tt), (lit< tt, tt)))), refl),
                  (
                    ((laid_given, lit≤ tt, (tt, tt, tt)), refl),
                    tt,
                  ),
                ),
              ),
            ),
          ),
        ),
      ),
    ),
  ),
)

pub worked : WorkedRules
worked = All-weaker Computed AsExpected by_computing worked_rules all_computed
