use Rattle.calculus.proofs.laws.runs.Goals as goal
use Rattle.calculus.proofs.Runs.{runs_compose, runs_agree, run_keeps_type}
use Rattle.calculus.proofs.RunTo.{run_to, run_to_stops}
use Rattle.calculus.proofs.OneStop.{one_stop}

pub returns : goal.returns
returns c = record {
  compose = λ ms ns e e' e''. runs_compose;
  agree = λ ms e a b. runs_agree;
  typed = λ ρ profile ms e e' τ g. run_keeps_type ρ profile g;
  stops = λ m fuel room e. let h = run_to m fuel room e in (h.0, h.1, h.2, run_to_stops m fuel room e);
  unique = λ m fuel room c d k j e a b. one_stop m fuel room;
}
