use Rattle.std.proofs.Common.{◌≡◌, ◌+◌, ◌++◌, map, take, drop}
use Rattle.calculus.specs.Tables.{given_entries}
use Rattle.rule_file.specs.Records.{entry_of}
use Rattle.rule_file.specs.Loading.{type_questions}
use Rattle.rule_file.proofs.load.Sections.read_table.Given as goal

abbrev pub invariant-loop-i : goal.invariant-loop-i
invariant-loop-i l =
    (l.table ≡ given_entries ++ map entry_of (take l.i l.self.types.now))
    × (type_questions 1 given_entries l.self.types.now ≡ type_questions (1 + l.i) l.table (drop l.i l.self.types.now))
