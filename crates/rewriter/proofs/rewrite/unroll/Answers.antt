use Rattle.rewriter.proofs.Unrolling.{no_step, no_rec, unrolled}
use Rattle.rewriter.proofs.rewrite.unroll.Goals as goal

pub returns-in_err-length : goal.returns-in_err-length
returns-in_err-length c = record {
  wrote = rw c.from_residual-in_err-length.ensures (no_step c.args.out.now c.write.new.out c.substitute.new.out _ _ _ c.args.parts.now c.in_ok-head.head
      c.write.auto.out c.substitute.auto.out c.in_ok-head.ensures.wrote c.in_err-length.ensures.wrote);
}

pub returns-in_err-used : goal.returns-in_err-used
returns-in_err-used c = record {
  wrote = rw c.from_residual-in_err-used.ensures (no_rec c.args.out.now c.write.new.out c.substitute.new.out _ _ _ c.args.parts.now c.in_ok-head.head
      c.write.auto.out c.substitute.auto.out c.in_ok-head.ensures.wrote
      c.write-2.new.out c.in_ok-length.length c.in_ok-length.ensures.wrote c.in_err-used.ensures.wrote);
}

pub returns : goal.returns
returns c = record {
  wrote = unrolled c.args.out.now c.write.new.out c.substitute.new.out _ _ _ c.args.parts.now c.in_ok-head.head
      c.write.auto.out c.substitute.auto.out c.in_ok-head.ensures.wrote
      c.write-2.new.out c.write-3.new.out c.in_ok-length.length c.in_ok-used.used c.write-3.result
      c.in_ok-length.ensures.wrote c.write-2.auto.out c.in_ok-used.ensures.wrote c.write-3.ensures.wrote;
}
