use Rattle.std.proofs.Common.{◌≡◌, ℕ, ◌+◌, ◌≤◌, List, drop, Some, Option, subst, rules}
use Rattle.calculus.specs.declared.answer.Answer.{Answer}
use Rattle.calculus.specs.declared.node.Node.{Node}
use Rattle.calculus.specs.Meanings.{Meaning, reply}
use Rattle.calculus.specs.Syntax.{Term, onto, flat, size}
use Rattle.rewriter.specs.declared.site.Rule.{Rule}
use Rattle.rewriter.specs.declared.site.Rule.TheVariants as rule
use Rattle.rewriter.specs.declared.site.Site.{Site}
use Rattle.rewriter.specs.Redexes.{Contracts, answer, taken}
use Rattle.rewriter.specs.Rewrites.{StandsAt, Replaces}
use Rattle.rewriter.specs.Writes.{Wrote}
use Rattle.rewriter.proofs.Layouts.{EndsAt, parts_known, beta_parts, rec_zero_parts, rec_successor_parts, fst_parts, snd_parts, case_inl_parts, case_inr_parts}
use Rattle.rewriter.proofs.rewrite.replace.Goals as goal

by : {m : Meaning} {r s : Rule} {e e' : Term} → r ≡ s → Contracts m r e e' → Contracts m s e e'
by {m} {e = e} {e' = e'} p k = subst (λ z. Contracts m z e e') p k

-- what was written is what the redex becomes
replaces : {m : Meaning} {ns : List Node} {site : Site} {r : Rule} (was now more : List Node) (k : Option ℕ)
    → StandsAt m ns site → site.rule ≡ r
    → ((e e' : Term) (rest : List Node) → Contracts m r e e' → drop site.at ns ≡ onto e rest
    → site.upto ≡ site.at + taken e → site.end ≡ site.at + size e → more ≡ flat e')
    → Wrote was 0 more now k → Replaces m ns site was now k
replaces was now more k s q f w = λ e e' rest d c.
    let u = parts_known s e rest d in subst (λ z. Wrote was 0 z now k) (f e e' rest (by q c) d u.0 u.1) w

by_answer : {m : Meaning} {q n : ℕ} {e e' : Term} (was now : List Node) (r : Option ℕ) → Contracts m (rule.Answer q n) e e'
    → ((a : Answer) → m.answer q n ≡ Some a → Wrote was 0 (flat (reply a)) now r) → Wrote was 0 (flat e') now r
by_answer was now r (answer {r = a} p h) w = w a h

-- the argument of an application, and the second part of a pair, begin before the values end
argument_within : {m : Meaning} {ns : List Node} {site : Site} → StandsAt m ns site → site.rule ≡ rule.Beta
    → (arg : ℕ) → EndsAt ns (site.at + 1) arg → arg ≤ site.upto
argument_within s q arg f = (beta_parts _ _ _ _ (by q s.contracts) s.there s.values_end arg f).0

second_within : {m : Meaning} {ns : List Node} {site : Site} → StandsAt m ns site → site.rule ≡ rule.Snd
    → (mid : ℕ) → EndsAt ns (site.at + 2) mid → mid ≤ site.upto
second_within s q mid f = (snd_parts _ _ _ _ (by q s.contracts) s.there s.values_end mid f).0

pub slice_bounds-substitute-count-in-Beta : goal.slice_bounds-substitute-count-in-Beta
slice_bounds-substitute-count-in-Beta g c =
    argument_within c.requires.redex c.in-Beta.is _ c.past_term-argument.ensures.end

pub slice_bounds-substitute-start-in-Beta : goal.slice_bounds-substitute-start-in-Beta
slice_bounds-substitute-start-in-Beta g c =
    let h = argument_within c.requires.redex c.in-Beta.is c.past_term-argument.result c.past_term-argument.ensures.end in search rules

pub slice_bounds-write-count-in-Snd : goal.slice_bounds-write-count-in-Snd
slice_bounds-write-count-in-Snd g c = second_within c.requires.redex c.in-Snd.is _ c.past_term-second-in-Snd.ensures.end

pub slice_bounds-write-start-in-Snd : goal.slice_bounds-write-start-in-Snd
slice_bounds-write-start-in-Snd g c =
    let h = second_within c.requires.redex c.in-Snd.is c.past_term-second-in-Snd.result c.past_term-second-in-Snd.ensures.end in search rules

pub returns-in-Beta-clause-wrote : goal.returns-in-Beta-clause-wrote
returns-in-Beta-clause-wrote g c =
    replaces _ _ _ _ c.requires.redex c.in-Beta.is (λ e e' rest k d u v. (beta_parts _ _ _ rest k d u _ c.past_term-argument.ensures.end).1) c.substitute.ensures.wrote

pub returns-in-RecZero-clause-wrote : goal.returns-in-RecZero-clause-wrote
returns-in-RecZero-clause-wrote g c =
    replaces _ _ _ _ c.requires.redex c.in-RecZero.is (λ e e' rest k d u v. rec_zero_parts _ _ _ rest k d u _ c.past_term-step.ensures.end) c.write.ensures.wrote

pub returns-in-RecSuccessor-clause-wrote : goal.returns-in-RecSuccessor-clause-wrote
returns-in-RecSuccessor-clause-wrote g c =
    replaces _ _ _ _ c.requires.redex c.in-RecSuccessor.is (λ e e' rest k d u v. rec_successor_parts _ _ _ rest k d u _ _ c.past_term-step-in-RecSuccessor.ensures.end v) c.unroll.ensures.wrote

pub returns-in-Fst-clause-wrote : goal.returns-in-Fst-clause-wrote
returns-in-Fst-clause-wrote g c =
    replaces _ _ _ _ c.requires.redex c.in-Fst.is (λ e e' rest k d u v. fst_parts _ _ _ rest k d u _ c.past_term-second.ensures.end) c.write-in-Fst.ensures.wrote

pub returns-in-Snd-clause-wrote : goal.returns-in-Snd-clause-wrote
returns-in-Snd-clause-wrote g c =
    replaces _ _ _ _ c.requires.redex c.in-Snd.is (λ e e' rest k d u v. (snd_parts _ _ _ rest k d u _ c.past_term-second-in-Snd.ensures.end).1) c.write-in-Snd.ensures.wrote

pub returns-in-CaseInl-clause-wrote : goal.returns-in-CaseInl-clause-wrote
returns-in-CaseInl-clause-wrote g c =
    replaces _ _ _ _ c.requires.redex c.in-CaseInl.is (λ e e' rest k d u v. case_inl_parts _ _ _ rest k d u) c.substitute-in-CaseInl.ensures.wrote

pub returns-in-CaseInr-clause-wrote : goal.returns-in-CaseInr-clause-wrote
returns-in-CaseInr-clause-wrote g c =
    replaces _ _ _ _ c.requires.redex c.in-CaseInr.is (λ e e' rest k d u v. case_inr_parts _ _ _ rest k d u _ c.past_term-right.ensures.end) c.substitute-in-CaseInr.ensures.wrote

pub returns-in-Answer-clause-wrote : goal.returns-in-Answer-clause-wrote
returns-in-Answer-clause-wrote g c = λ e e' rest d k. by_answer _ _ _ (by c.in-Answer.is k) c.put_reply.ensures.wrote
