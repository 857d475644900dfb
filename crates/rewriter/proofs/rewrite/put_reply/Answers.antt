use Rattle.std.proofs.Common.{◌≡◌, ℕ, ◌+◌, ◌<◌, List, ◌++◌, length, take, drop, Some, None, Option, sym, ap, ◌∙◌, arith, length-append, length-drop, rules, MatchOption}
use Rattle.std.proofs.lemmas.List.{take_at, drop_at}
use Rattle.calculus.specs.declared.answer.Answer.{Answer}
use Rattle.calculus.specs.declared.node.Node.{Node}
use Rattle.calculus.specs.Syntax.{Term, flat, size}
use Rattle.calculus.proofs.Reading.{length_flat}
use Rattle.rewriter.specs.Writes.{Wrote}
use Rattle.rewriter.proofs.rewrite.put_reply.Goals as goal

wrote_answer : (was now : List Node) (t : Term) (r : Option ℕ) → length now ≡ length was
    → MatchOption r ((length was < size t) × (now ≡ was)) (λ k. (k ≡ size t) × (now ≡ flat t ++ drop k was))
    → Wrote was 0 (flat t) now r
wrote_answer was now t None l h = omega (arith, length_flat t)
wrote_answer was now t (Some k) l h =
    let s : length (flat t) ≡ k = length_flat t ∙ sym h.0 in
    let n : length now ≡ length (flat t) + length (drop k was) = ap length h.1 ∙ length-append (flat t) (drop k was) in (
      omega arith,
      omega (arith, length-drop k was),
      ap (take k) h.1 ∙ take_at (flat t) (drop k was) k s,
      ap (drop k) h.1 ∙ drop_at (flat t) (drop k was) k s,
    )

same_answer : (o : Option Answer) (a b : Answer) → Some a ≡ o → o ≡ Some b → a ≡ b
same_answer o a b p q = cc

pub returns : goal.returns
returns g c = record {
  wrote = λ a e.
      let s = same_answer _ _ a c.in_ok-query.ensures.value e in
      rw (← s) (wrote_answer _ _ _ _ c.put_answer.auto.out c.put_answer.ensures.call);
  kept = search rules;
}
