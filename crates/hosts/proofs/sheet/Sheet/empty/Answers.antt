use Rattle.std.proofs.Common.{lit<}
use Rattle.hosts.proofs.FirstLines.{empty_legal}
use Rattle.hosts.proofs.sheet.Sheet.empty.Goals as goal

pub invariant_of-result : goal.invariant_of-result
invariant_of-result c = record { fits = lit< tt; legal = ∣ empty_legal ∣₁ }
