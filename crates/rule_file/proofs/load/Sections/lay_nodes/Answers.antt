use Rattle.std.proofs.Common.{◌∙◌, length-set, arith}
use Rattle.rule_file.proofs.Laying.{laid_more}
use Rattle.rule_file.proofs.load.Sections.lay_nodes.Goals as goal

pub loop-i-preserved : goal.loop-i-preserved
loop-i-preserved c = (
  length-set _ _ _ ∙ c.loop-i.invariant.0,
  laid_more _ _ _ _ _ _ (omega arith) c.loop-i.invariant.0 c.loop-i-test.true c.get.ensures.lookup c.map_or.ensures c.loop-i.invariant.1,
)
