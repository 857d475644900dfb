use Rattle.std.proofs.Common.{sym, ◌∙◌, subst}
use Rattle.evaluator.specs.OneCall.{CloseRefused, nothing_held, not_closed, not_value}
use Rattle.evaluator.proofs.Halts.{no_value}
use Rattle.evaluator.proofs.Results.{at_exit}
use Rattle.evaluator.proofs.close.close_question.Goals as goal

pub returns-in_err-held : goal.returns-in_err-held
returns-in_err-held c =
    let (is, unfit) = c.in_err-held.ensures.unfit in
    record {
      value = at_exit _ _ _ _ c.from_residual.ensures.1 (subst (CloseRefused c.args.run.now c.args.front.now) (sym is) (nothing_held unfit));
    }

pub returns-in_err-term : goal.returns-in_err-term
returns-in_err-term c =
    let (k, is, fault) = c.in_err-term.ensures.fault in
    record {
      value = at_exit _ _ _ _ c.from_residual-in_err-term.ensures.1
          (subst (CloseRefused c.args.run.now c.args.front.now) (sym is) (not_closed c.in_ok-held.ensures.fits fault));
    }

pub returns-in-Stuck : goal.returns-in-Stuck
returns-in-Stuck c =
    let (e, is, closed) = c.in_ok-term.ensures.closed in
    record {
      value = not_value c.in_ok-held.ensures.fits (is, closed)
          (no_value _ _ _ c.find_redex.ensures.found (λ v. let is = c.in-Stuck.is in cc) e (is ∙ sym c.in_ok-term.ensures.term));
    }

pub returns-in-Ready : goal.returns-in-Ready
returns-in-Ready c =
    let (e, is, closed) = c.in_ok-term.ensures.closed in
    record {
      value = not_value c.in_ok-held.ensures.fits (is, closed)
          (no_value _ _ _ c.find_redex.ensures.found (λ v. let is = c.in-Ready.is in cc) e (is ∙ sym c.in_ok-term.ensures.term));
    }
