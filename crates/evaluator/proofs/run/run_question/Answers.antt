use Rattle.std.proofs.Common.{◌≡◌, sym, ap, ◌∙◌, subst, arith}
use Rattle.calculus.proofs.Options.{same_value}
use Rattle.evaluator.specs.declared.held.Held.{Held}
use Rattle.evaluator.specs.OneCall.{state_of, RunRefused, no_term, no_fuel, no_profile, no_closed}
use Rattle.evaluator.proofs.Results.{at_exit}
use Rattle.evaluator.proofs.run.run_question.Goals as goal

pub returns-in_err-held-clause-value : goal.returns-in_err-held-clause-value
returns-in_err-held-clause-value g c =
    let (is, unfit) = c.in_err-held.ensures.unfit in
    let m = g.H.Host.meaning c.args.host.now in
    at_exit _ _ _ _ c.from_residual.ensures.1
    (subst (RunRefused m c.args.fuel (state_of c.args.run.now c.args.front.now c.args.back.now)) (sym is) (no_term (λ h f. unfit h f.0)))

pub returns-then-back-held-clause-value : goal.returns-then-back-held-clause-value
returns-then-back-held-clause-value g c =
    no_term (λ h f.
    let same : c.in_ok-held.held ≡ h = same_value c.in_ok-held.ensures.fits.0 f.0.0 in
    omega (arith, ap (λ (x : Held). x.length) same, f.1, c.if-back-held.true))

pub returns-then-fuel-held-clause-value : goal.returns-then-fuel-held-clause-value
returns-then-fuel-held-clause-value g c =
    no_fuel (c.in_ok-held.ensures.fits, c.if-back-held.false) (λ h. omega (arith, h, c.if-fuel-held.true))

pub returns-then-profile-held-clause-value : goal.returns-then-profile-held-clause-value
returns-then-profile-held-clause-value g c =
    no_profile (c.in_ok-held.ensures.fits, c.if-back-held.false) c.if-fuel-held.false (λ h. c.if-profile-held.true (c.profile.ensures.value ∙ h))

pub returns-in_err-_term-clause-value : goal.returns-in_err-_term-clause-value
returns-in_err-_term-clause-value g c =
    let (k, is, fault) = c.in_err-_term.ensures.fault in
    let m = g.H.Host.meaning c.args.host.now in
    at_exit _ _ _ _ c.from_residual-in_err-_term.ensures.1
    (subst (RunRefused m c.args.fuel (state_of c.args.run.now c.args.front.now c.args.back.now)) (sym is)
    (no_closed (c.in_ok-held.ensures.fits, c.if-back-held.false) c.if-fuel-held.false (sym c.profile.ensures.value ∙ c.if-profile-held.false) fault))
