use Rattle.std.proofs.Common.{◌<◌, ◌≤◌, rules}
use Rattle.std.proofs.lemmas.Iterator.{first_from_Range}
use borrow.Author.Tests.{tests}
use Rattle.hosts.specs.Lines.{question_digit}
use Rattle.hosts.proofs.Digits.{high_first}
use Rattle.hosts.proofs.sheet.high_digit.Goals as goal

pub returns : goal.returns
returns c = record {
  first = high_first c.args.profile c.find.result
      (first_from_Range _ _ _ c.find.result (λ k. 4 < question_digit c.args.profile k)
      (λ k. question_digit c.args.profile k ≤ 4) c.find.ensures.ran (λ x q k. search (rules, tests))
      (λ x q k. search (rules, tests)));
}
