use Rattle.calculus.proofs.laws.steps.Goals as goal
use Rattle.calculus.proofs.OneNext.{value_rests, one_next}
use Rattle.calculus.proofs.Next.{next_step, step_next}
use Rattle.calculus.proofs.Values.{true_value, value_true}

pub returns : goal.returns
returns c = record {
  rests = λ m e e'. value_rests m;
  unique = λ m e a b. one_next m;
  computed = λ m e e'. (next_step m e e', step_next m);
  values = λ e. (true_value e, value_true);
}
