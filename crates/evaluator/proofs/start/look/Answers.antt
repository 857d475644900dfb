use Rattle.std.proofs.Common.{refl}
use Rattle.evaluator.specs.OneCall.{FrontFits}
use Rattle.evaluator.proofs.Results.{passed_on}
use Rattle.evaluator.proofs.start.look.Goals as goal

pub returns : goal.returns
returns c =
    let run = c.args.run.now in
    let front = c.args.front.now in
    record {
      call = (c.in_ok-held.held, passed_on _ (FrontFits run front) _ _ _ _ c.in_ok-held.ensures.cases (λ e h. h) c.held_in.ensures.fits, refl);
    }
