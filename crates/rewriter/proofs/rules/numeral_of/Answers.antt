use Rattle.std.proofs.Common.{◌≡◌, false, rules}
use Rattle.calculus.specs.declared.kind.Kind.TheVariants.{Zero, Successor}
use Rattle.rewriter.specs.Searches.{same}
use Rattle.rewriter.proofs.Numerals.{numeral_more, numeral_here, numeral_other, numeral_none}
use Rattle.rewriter.proofs.rules.numeral_of.Goals as goal

pub returns-in-Zero : goal.returns-in-Zero
returns-in-Zero c = record { value = numeral_here _ _ _ c.loop-i-test.true c.index-nodes-i.is _ c.loop-i.invariant c.in-Zero.is }

pub returns-in_default : goal.returns-in_default
returns-in_default c =
    let j : same c.index-nodes-i.result.kind Successor ≡ false = search rules in
    let k : same c.index-nodes-i.result.kind Zero ≡ false = search rules in
    record { value = numeral_other _ _ _ c.loop-i-test.true c.index-nodes-i.is _ c.loop-i.invariant j k }

pub loop-i-preserved : goal.loop-i-preserved
loop-i-preserved c = numeral_more _ _ _ c.loop-i-test.true c.index-nodes-i.is _ c.loop-i.invariant c.in-Successor.is

pub returns : goal.returns
returns c = record { value = numeral_none _ _ _ c.loop-i-test.false c.loop-i.invariant }
