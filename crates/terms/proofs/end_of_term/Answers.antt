use Rattle.std.proofs.Common.{◌≤◌, length, Some, refl, sym, ap, ◌∙◌, add_assoc, arith}
use Rattle.std.proofs.lemmas.List.{drop_all}
use Rattle.terms.proofs.end_of_term.Goals as goal
use Rattle.terms.proofs.Ends.{ends_at, after_more, after_ended, after_unended}

pub returns-in_err-node-items : goal.returns-in_err-node-items
returns-in_err-node-items c =
    let past : length c.args.nodes.now ≤ c.args.at = omega (arith, c.in_err-node-items.ensures.lookup.0) in
    record { ends = ends_at _ _ _ _ _ (sym (drop_all c.args.at c.args.nodes.now past)) refl c.from_residual.ensures }

pub returns-then-pending-eq0 : goal.returns-then-pending-eq0
returns-then-pending-eq0 c =
    let inv = c.loop-i.invariant in
    let step = after_more _ _ _ _ _ c.loop-i-test.true c.node-item.is inv.some c.children.ensures in
    let found = inv.scan ∙ step ∙ after_ended _ _ _ c.if-pending-eq0.true in
    record { ends = ends_at _ _ _ _ _ inv.rest found (ap Some (add_assoc c.args.at c.loop-i.i 1)) }

pub returns : goal.returns
returns c =
    let inv = c.loop-i.invariant in
    record { ends = ends_at _ _ _ _ _ inv.rest (inv.scan ∙ after_unended _ _ _ c.loop-i-test.false inv.some) refl }
