use Rattle.std.proofs.Common.{◌≡◌, length, ap, ◌∙◌}
use Rattle.evaluator.specs.OneCall.{blanks}
use Rattle.evaluator.proofs.Leaves.{evaluated}
use Rattle.evaluator.proofs.evaluate.evaluate.Goals as goal

pub returns : goal.returns
returns g c =
    let room : length c.step_on-ran.new.front ≡ c.args.held.length = c.step_on-ran.auto.front ∙ c.requires.front in
    record {
      evaluated = evaluated c.args.held c.step_on-ran.result c.step_on-ran.ensures.halted c.requires.front room _ _
          c.blank_rest.ensures.front (c.blank_rest.ensures.back ∙ ap blanks (c.step_on-ran.auto.back ∙ c.requires.back));
      kept = c.step_on-ran.ensures.kept;
    }
