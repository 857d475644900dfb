use Rattle.std.proofs.Common.{[], ◌∷◌, length, ap, arith}
use Rattle.rewriter.proofs.Stacks.{within_up, within_next, length_next}
use Rattle.rewriter.proofs.Puts.{turn_hit, turn_miss}
use Rattle.rewriter.proofs.Writings.{wrote_on, wrote_kept}
use Rattle.rewriter.proofs.substitution.substitute.Goals as goal
use Rattle.rewriter.proofs.substitution.substitute.Goals.{then-is_index+in_ok-used, else-is_index+in_ok-used-2}

pub loop-node-preserved : goal.loop-node-preserved
loop-node-preserved c =
    let e = c.in-Some.ensures.next in
    let n = c.node-item.result in
    let i = c.loop-node.invariant in
    elim c.if-is_index.branch [
      | then-is_index+in_ok-used w ↦
          let o = w.in_ok-used.ensures.wrote in
          let turn = turn_hit c.args.value.now _ _ _ c.args.body.now _ n e c.loop-node-test.true c.node-item.is _ _ w.if-is_index.ensures.value i.whole in
          rw (w.pending-is, w.out-is, w.used-is) record {
            room = omega (arith, ap length e);
            enough = omega (arith, c.in-Some.ensures.room);
            within = within_up _ _ (rw e at i.within).1;
            inside = omega arith;
            whole = wrote_on c.loop-node.out w.write.new.out c.args.value.now _ _ c.loop-node.used w.in_ok-used.used o turn;
            kept = wrote_kept c.args.out.now c.loop-node.out w.write.new.out c.args.value.now c.loop-node.used w.in_ok-used.used o i.kept;
          }
      | else-is_index+in_ok-used-2 w ↦
          let o = w.in_ok-used-2.ensures.wrote in
          let out = w.write-else-is_index.new.out in
          let turn = turn_miss c.args.value.now _ _ _ c.args.body.now _ n e c.loop-node-test.true c.node-item.is _ _ w.if-is_index.ensures.value i.whole in
          rw (w.pending-is, w.out-is, w.used-is, w.push_children.ensures.after) record {
            room = omega (arith, length_next n.kind c.in-Some.depth c.pop.new.self.depths, ap length e);
            enough = omega (arith, c.in-Some.ensures.room);
            within = within_next n.kind _ _ _ (rw e at i.within);
            inside = omega arith;
            whole = wrote_on c.loop-node.out out (n ∷ []) _ _ c.loop-node.used w.in_ok-used-2.used o turn;
            kept = wrote_kept c.args.out.now c.loop-node.out out (n ∷ []) c.loop-node.used w.in_ok-used-2.used o i.kept;
          }
    ]
