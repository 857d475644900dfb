use Rattle.hosts.specs.Sheets.{many_lines, high_digit}
use Rattle.hosts.proofs.FirstLines.{then_lines}
use Rattle.hosts.proofs.sheet.sheet_fault.Goals as goal

pub returns-then-lines-gt-MOST_LINES : goal.returns-then-lines-gt-MOST_LINES
returns-then-lines-gt-MOST_LINES c = record { first = many_lines c.if-lines-gt-MOST_LINES.true }

pub returns-in-Some : goal.returns-in-Some
returns-in-Some c =
    let f = c.in-Some.ensures.first in
    record { first = high_digit c.if-lines-gt-MOST_LINES.false f.0 f.1 f.2 }

pub returns : goal.returns
returns c = record {
  first = then_lines c.args.profile c.args.lines.now c.line_fault.result c.if-lines-gt-MOST_LINES.false
      c.in_default.ensures.first c.line_fault.ensures.first;
}
