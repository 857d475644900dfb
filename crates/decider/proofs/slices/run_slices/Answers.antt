use Rattle.std.proofs.Common.{◌≡◌, ◌≤◌, Bool, true, false, refl, ◌∙◌, subst, rules, arith}
use mathlib.Core.Bool.{not}
use denote.Enum.Bare.{same_true}
use Rattle.calculus.specs.contracts.stop.StopCause.{the_type}
use Rattle.calculus.specs.declared.stop.StopCause.TheVariants as cause
use Rattle.calculus.specs.Meanings.{Meaning}
use Rattle.evaluator.specs.OneCall.{State, state_of, RunMade}
use Rattle.decider.proofs.Slicing.{slicing_first, slicing_on}
use Rattle.decider.proofs.slices.run_slices.Goals as goal
use Rattle.decider.proofs.slices.run_slices.Goals.{then-slice-eq0, else-slice-eq0}

not_false : (b : Bool) → false ≡ not b → b ≡ true
not_false true e = refl
not_false false e = e

pub loop-ran-init : goal.loop-ran-init
loop-ran-init g c = (
  refl,
  slicing_first (g.H.Host.meaning c.args.host.now) c.args.fuel.total (state_of c.args.held.now c.args.front.now c.args.back.now),
  λ h. elim c.if-slice-eq0.branch [ then-slice-eq0 w ↦ omega (arith, w.most-is) | else-slice-eq0 w ↦ omega (arith, w.most-is, w.if-slice-eq0.false) ],
)

pub loop-ran-preserved : goal.loop-ran-preserved
loop-ran-preserved g c =
    let asked = c.min-asked.result in
    let most : asked ≤ c.loop-ran.left = omega (arith, c.min-asked.ensures) in
    let s : State = state_of c.loop-ran.held c.loop-ran.front c.loop-ran.back in
    let s' : State = state_of c.run.new.run c.run.new.front c.run.new.back in
    let made = subst (λ (n : Meaning). RunMade n asked s c.in_ok-ran.ran s') c.loop-ran.invariant.0 c.in_ok-ran.ensures.call in
    let spent : c.in_ok-ran.ran.cause ≡ cause.Spent = same_true the_type (search rules) _ _ (not_false _ c.if-ne.ensures) in (
      c.in_ok-ran.ensures.kept ∙ c.loop-ran.invariant.0,
      slicing_on c.loop-ran.invariant.1 (g.H.Host.lawful c.args.host.now) asked most made spent,
      λ h. c.loop-ran.invariant.2 (omega arith),
    )
