use Rattle.std.proofs.Common.{refl, ◌∙◌}
use Rattle.evaluator.proofs.Leaves.{run_made}
use Rattle.evaluator.proofs.Results.{passed_on}
use Rattle.evaluator.proofs.run.run.Goals as goal

pub returns : goal.returns
returns g c = record {
  call = run_made (g.H.Host.meaning c.args.host.now) (g.H.Host.meaning c.run_question.new.host) c.args.fuel
      (record { run = c.args.run.now; front = c.args.front.now; back = c.args.back.now }) c.in_ok-held.held c.evaluate-ran.result
      c.evaluate-ran.new.front c.evaluate-ran.new.back c.run_question.ensures.kept (passed_on _ _ _ _ _ _ c.in_ok-held.ensures.cases (λ e h. h) c.run_question.ensures.value) c.evaluate-ran.ensures.evaluated
      _ refl refl refl refl refl;
  kept = c.evaluate-ran.ensures.kept ∙ c.run_question.ensures.kept;
}
