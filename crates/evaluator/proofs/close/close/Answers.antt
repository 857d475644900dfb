use Rattle.std.proofs.Common.{refl}
use Rattle.evaluator.specs.Evaluating.{Closable}
use Rattle.evaluator.specs.OneCall.{CloseRefused}
use Rattle.evaluator.proofs.Results.{passed_on}
use Rattle.evaluator.proofs.close.close.Goals as goal

pub returns : goal.returns
returns c =
    let front = c.args.front.now in
    let closable : Closable c.args.run front c.in_ok-held.held =
    passed_on _ (Closable c.args.run front) (CloseRefused c.args.run front) _ _ _ c.in_ok-held.ensures.cases (λ e h. h) c.close_question.ensures.value in
    record {
      call = (c.in_ok-held.held, closable.table, closable.term, closable.reads, closable.value, refl, refl, refl);
    }
