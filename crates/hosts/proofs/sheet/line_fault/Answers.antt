use Rattle.std.proofs.Common.{sym, rules}
use Rattle.hosts.proofs.FirstLines.{line_illegal, line_again, legal_more}
use Rattle.hosts.proofs.sheet.line_fault.Goals as goal

pub returns-then-not-is_legal_line : goal.returns-then-not-is_legal_line
returns-then-not-is_legal_line c =
    record {
      first = line_illegal _ _ _ _ c.loop-i-test.true c.loop-i.invariant (sym c.if-not-is_legal_line.ensures.value);
    }

pub returns-then-is_some : goal.returns-then-is_some
returns-then-is_some c =
    record {
      first =
          line_again _ _ _ _ c.loop-i-test.true c.loop-i.invariant _ _ (sym c.if-not-is_legal_line.ensures.value)
          (c.from.ensures, c.first_with_key.ensures.first) (sym c.if-is_some.ensures);
    }

pub loop-i-preserved : goal.loop-i-preserved
loop-i-preserved c =
    legal_more _ _ _ _ c.loop-i-test.true c.loop-i.invariant _ _ (sym c.if-not-is_legal_line.ensures.value)
    (c.from.ensures, c.first_with_key.ensures.first) (sym c.if-is_some.ensures)

pub returns : goal.returns
returns c = record { first = λ k l h. c.loop-i.invariant k l (search rules) }
