use Rattle.std.proofs.Common.{true, false, rules, subst}
use Rattle.std.proofs.lemmas.Iterator.{YieldsList-from_slice, IsFirst-from_position}
use Rattle.std.proofs.lemmas.Iterator.Consumers.{YieldsList-from_enumerate}
use borrow.Author.Tests.{tests}
use Rattle.calculus.specs.Tables.{TableJudged}
use Rattle.types.proofs.Laid.{Laid, laid_judged}
use Rattle.types.proofs.table.first_fault.Goals as goal

pub returns : goal.returns
returns c =
    let es = c.args.entries.now in
    record {
      judged = subst (TableJudged es) (search rules)
          (laid_judged es _
          (IsFirst-from_position _ _ c.position.result (Laid es false) (Laid es true) c.position.ensures.ran
          (YieldsList-from_enumerate (YieldsList-from_slice es (cc)) (cc)) (λ x q k. search (rules, tests))
          (λ x q k. search (rules, tests))));
    }
