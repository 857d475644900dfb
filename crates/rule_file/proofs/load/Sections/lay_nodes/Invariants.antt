use Rattle.std.proofs.Common.{◌≡◌, map, length, take}
use Rattle.calculus.specs.Kinds.{blank}
use Rattle.rule_file.specs.Records.{node_of}
use Rattle.rule_file.specs.Loading.{filled}
use Rattle.rule_file.proofs.load.Sections.lay_nodes.Given as goal

abbrev pub invariant-loop-i : goal.invariant-loop-i
invariant-loop-i l =
    (length l.rule ≡ length l.initial.rule)
    × (take l.i l.rule ≡ take l.i (filled (map node_of l.self.nodes.now) blank (length l.initial.rule)))
