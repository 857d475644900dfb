use Rattle.std.proofs.Common.{◌≡◌, ◌+◌, ◌*◌, ◌≤◌, drop}
use Rattle.rule_file.specs.Loading.{node_questions}
use Rattle.rule_file.proofs.load.Sections.term.Given as goal

abbrev pub invariant-loop-i : goal.invariant-loop-i
invariant-loop-i l =
    (l.pending ≤ 1 + 2 * l.i)
    × (node_questions l.first l.types 1 l.self.nodes.now ≡ node_questions (l.first + l.i) l.types l.pending (drop l.i l.self.nodes.now))
