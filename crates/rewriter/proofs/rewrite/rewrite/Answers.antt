use Rattle.std.proofs.Common.{◌+◌, ◌≤◌, length, refl, arith, rules}
use Rattle.rewriter.proofs.Rewriting.{standing, within, too_long, rewritten}
use Rattle.rewriter.proofs.Writings.{length_put}
use Rattle.rewriter.proofs.rewrite.rewrite.Goals as goal

pub replace-requires : goal.replace-requires
replace-requires g c = let redex = standing c.requires.redex _ (g.H.Host.lawful c.args.host.now, refl) in search rules

pub returns-in_err-length-clause-step : goal.returns-in_err-length-clause-step
returns-in_err-length-clause-step g c =
    let law = g.H.Host.lawful c.args.host.now in
    rw c.from_residual-in_err-length.ensures (too_long c.requires.redex _ (law, refl) c.args.back.now c.write.new.out c.replace.new.out c.in_ok-head.head
    c.write.auto.out c.replace.auto.out c.in_ok-head.ensures.wrote c.in_err-length.ensures.wrote)

pub overflow_add-head : goal.overflow_add-head
overflow_add-head g c =
    let law = g.H.Host.lawful c.args.host.now in
    let h : c.in_ok-head.head + c.in_ok-length.length ≤ length c.args.back.now =
    within c.requires.redex _ (law, refl) c.args.back.now c.write.new.out c.replace.new.out _ c.write.auto.out c.replace.auto.out
    c.in_ok-head.ensures.wrote _ c.in_ok-length.ensures.wrote in
    search rules

pub write-requires-2 : goal.write-requires-2
write-requires-2 g c =
    let law = g.H.Host.lawful c.args.host.now in
    let h : c.in_ok-head.head + c.in_ok-length.length ≤ length c.args.back.now =
    within c.requires.redex _ (law, refl) c.args.back.now c.write.new.out c.replace.new.out _ c.write.auto.out c.replace.auto.out
    c.in_ok-head.ensures.wrote _ c.in_ok-length.ensures.wrote in
    omega (arith, length_put c.write.new.out c.replace.new.out c.in_ok-head.head (omega arith) c.replace.auto.out)

pub returns-clause-step : goal.returns-clause-step
returns-clause-step g c =
    let law = g.H.Host.lawful c.args.host.now in
    rewritten c.requires.redex _ (law, refl) c.args.back.now c.write.new.out c.replace.new.out _ c.write.auto.out c.replace.auto.out
    c.in_ok-head.ensures.wrote c.write-2.new.out c.in_ok-length.length c.write-2.result c.in_ok-length.ensures.wrote c.write-2.ensures.wrote
