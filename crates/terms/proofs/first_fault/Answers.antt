use Rattle.std.proofs.Common.{◌≡◌, false, ◌⊎◌, length, Some, sym, ap, ◌∙◌, arith, rules}
use Rattle.terms.specs.Ranges.{in_range}
use Rattle.terms.proofs.first_fault.Goals as goal
use Rattle.terms.proofs.Fault.{judged, fault_here, fault_ended, fault_unended}

pub returns-then-not-is_in_range : goal.returns-then-not-is_in_range
returns-then-not-is_in_range c =
    let h : (c.loop-i.pending ≡ 0) ⊎ (in_range c.args.types c.index-nodes-i.result ≡ false) = search rules in
    let here = fault_here _ _ _ _ _ c.loop-i-test.true c.index-nodes-i.is h in
    record { judged = judged _ _ _ (sym (c.loop-i.invariant.1 ∙ here)) }

pub returns-then-pending-gt0 : goal.returns-then-pending-gt0
returns-then-pending-gt0 c =
    let e : c.loop-i.i ≡ length c.args.nodes.now = omega arith in
    let end = fault_unended _ _ _ _ c.loop-i-test.false c.if-pending-gt0.true in
    record { judged = judged _ _ _ (sym (c.loop-i.invariant.1 ∙ end ∙ ap Some e)) }

pub returns-else-pending-gt0 : goal.returns-else-pending-gt0
returns-else-pending-gt0 c =
    let h : c.loop-i.pending ≡ 0 = omega arith in
    let end = fault_ended _ _ _ _ c.loop-i-test.false h in
    record { judged = judged _ _ _ (sym (c.loop-i.invariant.1 ∙ end)) }
