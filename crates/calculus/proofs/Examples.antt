-- The worked rules are as expected: what `infer` and `run_to` compute of each, and what that says.
use Rattle.std.proofs.Common.{◌≡◌, ℕ, [], Some, None, Option, sym, refl, ap, ◌∙◌, subst}
use Rattle.std.specs.List.{AllByRecursion}
use Rattle.std.proofs.ByRecursion.{All-weaker}
use Rattle.calculus.specs.Syntax.{Ty, size}
use Rattle.calculus.specs.Tables.{reading}
use Rattle.calculus.specs.Infer.{infer}
use Rattle.calculus.specs.Runs.{Stopped}
use Rattle.calculus.specs.Examples.{empty_listing, WorkedRule, has_no_type, stops, worked_rules, AsExpected, WorkedRules}
use Rattle.calculus.proofs.Infer.{infer_typed, typed_infer}
use Rattle.calculus.proofs.RunTo.{Outcome, run_to, run_to_stops}

abbrev Computed : WorkedRule → Type 0
Computed (has_no_type table rule) = infer (reading table) empty_listing.profile [] rule ≡ None
Computed (stops table rule τ room c made e nodes) =
    ◌≡◌ {A = Option Ty × Outcome × ℕ}
    (infer (reading table) empty_listing.profile [] rule, run_to empty_listing 10 room rule, size e) (Some τ, (c, made, e), nodes)

by_computing : (w : WorkedRule) → Computed w → AsExpected w
by_computing (has_no_type table rule) p = λ τ d. cc (sym p ∙ typed_infer (reading table) empty_listing.profile d)
by_computing (stops table rule τ room c made e nodes) p = (
  infer_typed (reading table) empty_listing.profile [] rule τ (ap (λ x. x.0) p),
  subst (λ (h : Outcome). Stopped empty_listing 10 room h.0 h.1 rule h.2) (ap (λ x. x.1) p)
      (run_to_stops empty_listing 10 room rule),
  ap (λ x. x.2) p,
)

all_computed : AllByRecursion Computed worked_rules
all_computed = (refl, (refl, (refl, (refl, (refl, (refl, (refl, (refl, (refl, (refl, tt))))))))))

pub worked : WorkedRules
worked = All-weaker Computed AsExpected by_computing worked_rules all_computed
