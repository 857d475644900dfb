-- Each no, as a case of `Uncheckable`.
use Rattle.std.proofs.Common.{rules}
use Rattle.checker.specs.Checking.{counts_unfit, no_room, entry_at_fault, node_at_fault}
use Rattle.checker.proofs.check.admit.Goals as goal

pub returns-then-not-counts_fit : goal.returns-then-not-counts_fit
returns-then-not-counts_fit c = record { first = counts_unfit (search rules) }

pub returns-then-types-count : goal.returns-then-types-count
returns-then-types-count c = record { first = no_room (search rules) (λ h. search rules) }

pub returns-in-Some : goal.returns-in-Some
returns-in-Some c = record { first = entry_at_fault (search rules) (search rules) (search rules) }

pub returns-in-Some-first_fault : goal.returns-in-Some-first_fault
returns-in-Some-first_fault c = record { first = node_at_fault (search rules) (search rules) (search rules) (search rules) }
