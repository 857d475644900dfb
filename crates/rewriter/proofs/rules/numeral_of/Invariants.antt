use Rattle.std.proofs.Common.{◌≡◌, drop}
use Rattle.terms.specs.Scan.{shift}
use Rattle.rewriter.specs.Searches.{numeral_in}
use Rattle.rewriter.proofs.rules.numeral_of.Given as goal

abbrev pub invariant-loop-i : goal.invariant-loop-i
invariant-loop-i l = numeral_in l.nodes ≡ shift l.i (numeral_in (drop l.i l.nodes))
