use Rattle.hosts.specs.Sheets.{LegalBelow}
use Rattle.hosts.proofs.sheet.line_fault.Given as goal

abbrev pub invariant-loop-i : goal.invariant-loop-i
invariant-loop-i l = LegalBelow l.profile l.lines l.i
