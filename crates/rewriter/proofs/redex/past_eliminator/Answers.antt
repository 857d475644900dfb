use Rattle.std.proofs.Common.{◌≡◌, ◌⊎◌, arith, rules}
use Rattle.calculus.specs.Kinds.{kind_number}
use Rattle.terms.proofs.Places.{drop_read}
use Rattle.rewriter.proofs.Eliminators.{ends_later, ends_there}
use Rattle.rewriter.proofs.redex.past_eliminator.Goals as goal

pub returns-in-Rec : goal.returns-in-Rec
returns-in-Rec c =
    let k : (kind_number c.index-front-at.result.kind ≡ 4) ⊎ (kind_number c.index-front-at.result.kind ≡ 14) = search rules in
    let here = drop_read c.args.front.now c.args.at c.index-front-at.result (omega arith) c.index-front-at.is in
    record { end = ends_later _ _ c.args.upto _ _ here (omega arith) k _ _ c.past_term.ensures.end c.past_term-in-Rec.ensures.end }

pub returns-in_default : goal.returns-in_default
returns-in_default c =
    let here = drop_read c.args.front.now c.args.at c.index-front-at.result (omega arith) c.index-front-at.is in
    record { end = ends_there _ _ c.args.upto _ _ here (omega arith) c.in_default.not-Rec c.in_default.not-Case }
