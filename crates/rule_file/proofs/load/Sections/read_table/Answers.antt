use Rattle.std.proofs.Common.{sym, ◌∙◌}
use Rattle.std.proofs.lemmas.Result.{err_from_is_err_and}
use Rattle.rule_file.proofs.Questions.{reading_ok, reading_err, err_read, entries_more, type_more, type_here}
use Rattle.rule_file.proofs.load.Sections.read_table.Goals as goal

pub returns-in_err-entry-clause-answer : goal.returns-in_err-entry-clause-answer
returns-in_err-entry-clause-answer c =
    let asked = rw c.entries.ensures at c.read_entry.ensures in
    let p = err_from_is_err_and c.from_residual.result c.from_residual.ensures.1 in
    err_read _ _ _ _ _ p.1 p.2
    (type_here _ _ _ c.loop-i.invariant.1 _ _ c.loop-i-test.true (reading_err _ _ _ (sym asked ∙ c.in_err-entry.was)))

pub loop-i-preserved : goal.loop-i-preserved
loop-i-preserved c =
    let asked = rw c.entries.ensures at c.read_entry.ensures in
    let read = reading_ok _ _ _ (sym asked ∙ c.in_ok-entry.was) in
    rw c.push.ensures (
      entries_more _ _ _ _ _ c.loop-i-test.true read.1 c.loop-i.invariant.0,
      type_more _ _ _ c.loop-i.invariant.1 _ _ c.loop-i-test.true read.1 read.0,
    )
