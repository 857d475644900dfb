-- Each no, as a case of `Unwritable`.
use Rattle.std.proofs.Common.{rules}
use Rattle.rule_file.specs.Writing.{counts_unfit, entry_at_fault, node_at_fault, too_long}
use Rattle.rule_file.proofs.write.Tables.read.Goals as goal

pub returns-then-not-counts_fit-clause-writable : goal.returns-then-not-counts_fit-clause-writable
returns-then-not-counts_fit-clause-writable c = counts_unfit (search rules)

pub returns-in-Some-clause-writable : goal.returns-in-Some-clause-writable
returns-in-Some-clause-writable c = entry_at_fault (search rules) (search rules)

pub returns-in-Some-first_fault-clause-writable : goal.returns-in-Some-first_fault-clause-writable
returns-in-Some-first_fault-clause-writable c = node_at_fault (search rules) (search rules) (search rules)

pub returns-then-room-file_length-clause-writable : goal.returns-then-room-file_length-clause-writable
returns-then-room-file_length-clause-writable c = too_long (search rules) (search rules) (search rules) (search rules)
