use Rattle.rewriter.proofs.InRange.{wider_range, step_in_range}
use Rattle.rewriter.proofs.laws.ranges.Goals as goal

pub returns : goal.returns
returns c = record { wider = λ types wider ns l. wider_range types wider l ns; step = λ types m t u l h s. step_in_range types l s h }
