use Rattle.std.proofs.Common.{◌≤◌, sym, ap, ◌∙◌, arith}
use Rattle.std.proofs.lemmas.Result.{err_from_is_err_and}
use Rattle.calculus.specs.Kinds.{arity}
use Rattle.terms.proofs.Fault.{arity_le}
use Rattle.rule_file.proofs.Questions.{reading_ok, reading_err, err_read, node_more, node_here}
use Rattle.rule_file.proofs.load.Sections.term.Goals as goal

pub returns-in_err-node : goal.returns-in_err-node
returns-in_err-node c =
    let p = err_from_is_err_and c.from_residual.result c.from_residual.ensures.1 in
    err_read _ _ _ _ _ p.1 p.2
    (node_here _ _ _ _ _ c.loop-i.invariant.1 _ _ c.loop-i-test.true (reading_err _ _ _ (sym c.read_node.ensures ∙ c.in_err-node.was)))

pub loop-i-preserved : goal.loop-i-preserved
loop-i-preserved c =
    let bound : c.children.result ≤ 3 = rw c.children.ensures (arity_le c.in_ok-node.node.kind) in
    let read = reading_ok _ _ _ (sym c.read_node.ensures ∙ c.in_ok-node.was) in (
      omega arith,
      node_more _ _ _ _ _ c.loop-i.invariant.1 _ _ c.loop-i-test.true read.0 (c.children.ensures ∙ ap (λ n. arity n.kind) read.1),
    )
