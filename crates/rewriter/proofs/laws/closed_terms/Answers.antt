use Rattle.rewriter.proofs.InRange.{step_closed_term, run_closed_term}
use Rattle.rewriter.proofs.laws.closed_terms.Goals as goal

pub returns : goal.returns
returns c = record { step = λ m t u. step_closed_term; run = λ ms t u. run_closed_term }
