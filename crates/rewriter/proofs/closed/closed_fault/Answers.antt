use Rattle.std.proofs.Common.{◌≡◌, [], length, Some, sym, ap, ◌∙◌, arith, rules}
use Rattle.rewriter.proofs.Stacks.{within_next, length_next}
use Rattle.rewriter.proofs.ClosedFaults.{judged_closed, fault_more, fault_unfit, fault_late, fault_over}
use Rattle.rewriter.proofs.closed.closed_fault.Goals as goal

pub returns-in_default : goal.returns-in_default
returns-in_default c = record {
  judged = judged_closed _ _ (fault_unfit _ _ _ _ c.loop-i.invariant.scan c.index-nodes-i.result _ _ c.in-Some.ensures.next c.loop-i-test.true c.index-nodes-i.is c.if-fits_under.ensures.value);
}

pub returns-in-loop-i : goal.returns-in-loop-i
returns-in-loop-i c =
    let e : (c.loop-i.pending.depths ≡ []) × (c.pop.new.self.depths ≡ []) = search rules in
    record {
      judged = judged_closed _ _ (fault_late _ _ _ _ c.loop-i.invariant.scan e.0 c.loop-i-test.true);
    }

pub loop-i-preserved : goal.loop-i-preserved
loop-i-preserved c =
    let e = c.in-Some.ensures.next in
    let k = c.index-nodes-i.result.kind in
    record {
      room = rw c.push_children.ensures.after (omega (arith, length_next k c.in-Some.depth c.pop.new.self.depths, ap length e));
      enough = rw c.push_children.ensures.after (omega (arith, c.in-Some.ensures.room));
      within = rw c.push_children.ensures.after (within_next k _ _ _ (rw e at c.loop-i.invariant.within));
      scan = rw c.push_children.ensures.after (fault_more _ _ _ _ c.loop-i.invariant.scan c.index-nodes-i.result _ _ e c.loop-i-test.true c.index-nodes-i.is c.if-fits_under.ensures.value);
    }

pub returns-then-is_empty : goal.returns-then-is_empty
returns-then-is_empty c = record {
  judged = judged_closed _ _ (sym (rw (← c.if-is_empty.ensures.value) at (fault_over c.args.nodes.now c.loop-i.pending.depths _ _ c.loop-i.invariant.scan c.loop-i-test.false)));
}

pub returns-else-is_empty : goal.returns-else-is_empty
returns-else-is_empty c =
    let e : length c.args.nodes.now ≡ c.loop-i.i = omega arith in
    record {
      judged = judged_closed _ _ (ap Some e ∙ sym (rw (← c.if-is_empty.ensures.value) at (fault_over c.args.nodes.now c.loop-i.pending.depths _ _ c.loop-i.invariant.scan c.loop-i-test.false)));
    }
