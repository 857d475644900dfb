use Rattle.std.proofs.Common.{sym, refl, ◌∙◌, arith}
use Rattle.calculus.specs.Meanings.{LawfulUnder}
use Rattle.evaluator.proofs.Halts.{going_first, halted_value, halted_stuck, halted_spent, halted_full, going_on}
use Rattle.evaluator.proofs.evaluate.step_on.Goals as goal
use Rattle.evaluator.proofs.evaluate.step_on.Goals.{in-Value, in-Stuck, in-Ready+then-made-fuel, in-Ready+else-made-fuel+in_default}

pub loop-site-init : goal.loop-site-init
loop-site-init g c =
    let o = c.requires.term in
    (refl, c.requires.back ∙ sym c.requires.front, refl, going_first _ _ c.args.held _ o.0 (o.1, o.2) (omega arith))

pub returns-clause-halted : goal.returns-clause-halted
returns-clause-halted g c =
    let m = g.H.Host.meaning c.args.host.now in
    let so = c.loop-site.invariant.3 in
    let lawful : LawfulUnder c.args.held.profile m = (g.H.Host.lawful c.args.host.now, c.requires.profile) in
    elim c.match-find_redex.branch [
      | in-Value w ↦ halted_value so w.cause-is c.args.held.profile w.in-Value.ensures.found
      | in-Stuck w ↦ halted_stuck so w.cause-is lawful w.in-Stuck.ensures.found
      | in-Ready+then-made-fuel w ↦ halted_spent so w.cause-is lawful w.in-Ready.site w.in-Ready.ensures.found w.if-made-fuel.true
      | in-Ready+else-made-fuel+in_default w ↦
          halted_full so w.cause-is (g.H.Host.meaning c.loop-site.host) c.loop-site.invariant.2 c.loop-site.back w.rewrite.new.back
          c.loop-site.invariant.1 w.if-made-fuel.false w.in_default.ensures.step
    ]

pub loop-site-preserved : goal.loop-site-preserved
loop-site-preserved g c = (
  c.copy_first.auto.to ∙ c.loop-site.invariant.0,
  c.rewrite.auto.back ∙ c.loop-site.invariant.1,
  c.in-Some.ensures.kept ∙ c.loop-site.invariant.2,
  going_on c.loop-site.invariant.3 (g.H.Host.meaning c.loop-site.host) c.loop-site.invariant.2 c.in-Some.next c.loop-site.back
      c.rewrite.new.back _ _ c.loop-site.invariant.1 c.if-made-fuel.false c.copy_first.ensures.after c.in-Some.ensures.step,
)
