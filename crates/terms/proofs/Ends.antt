-- Where terms end, as `after` reads it.
--   after_onto    the count passes a whole term
--   after_within  what is read stands in the list
--   ends_at       what a scan from a place finds is where the term there ends
--   after_more, after_ended, after_unended   a scan's next node, and its answers
use Rattle.std.proofs.Common.{◌≡◌, ℕ, zero, suc, ◌+◌, ◌-◌, ◌<◌, ◌≤◌, List, [], ◌∷◌, length, get_or, drop, Some, None, Option, sym, ap, ◌∙◌, add-zero, arith, length-drop}
use Rattle.std.proofs.lemmas.List.{drop_all}
use Rattle.calculus.specs.declared.node.Node.{Node}
use Rattle.calculus.specs.Kinds.{arity}
use Rattle.calculus.specs.Syntax.{Term, onto, size}
use Rattle.terms.specs.Scan.{further, shift, after}
use Rattle.terms.specs.Whole.{EndsAt}
use Rattle.terms.proofs.Places.{further_some, shift_some, shift_zero, further_shift, shift_further}
use Rattle.calculus.proofs.Reading.{walk}
use Rattle.terms.proofs.Places.{drop_read}

pub after_onto : (t : Term) (p : ℕ) (ns : List Node) → after (suc p) (onto t ns) ≡ shift (size t) (after p ns)
after_onto t p ns =
    let o = after p ns in
    let P : ℕ → ℕ → List Node → Type 0 = λ q i l. after q l ≡ shift i o in
    rw add-zero at (walk P (λ q i n l h. ap further h ∙ further_shift i o) t p 0 ns (sym (shift_zero o)))

pub after_within : (p : ℕ) (ns : List Node) (k : ℕ) → after p ns ≡ Some k → (k ≤ length ns) × (0 < p → 0 < k)
after_within zero ns k e = let z : 0 ≡ k = cc in (omega arith, λ h. absurd (omega arith))
after_within (suc p) [] k e = cc
after_within (suc p) (n ∷ ns) k e =
    let (j, s, q) = further_some (after (arity n.kind + p) ns) k e in
    let h = after_within (arity n.kind + p) ns j s in
    (omega arith, λ _. omega arith)

-- what a scan of the nodes from `at` on finds is where the term there ends
pub ends_at : (ns rest : List Node) (at : ℕ) (o r : Option ℕ)
    → rest ≡ drop at ns → after 1 rest ≡ o → r ≡ shift at o → EndsAt ns at r
ends_at ns rest at o r d s e =
    let v : r ≡ shift at (after 1 (drop at ns)) = e ∙ ap (shift at) (sym s ∙ ap (after 1) d) in
    record {
      end = λ t more h. v ∙ ap (λ l. shift at (after 1 l)) h ∙ ap (shift at) (after_onto t 0 more) ∙ ap Some (omega arith);
      within = λ k f.
          let (j, s, q) = shift_some at (after 1 (drop at ns)) k (sym v ∙ f) in
          let h = after_within 1 (drop at ns) j s in
          let l = length-drop at ns in
          (omega arith, omega arith);
      value = v;
    }

-- the scan's steps: it stands at i, n is the node there, and p terms are to come
pub after_more : (ns : List Node) (i p r : ℕ) (n : Node)
    → i < length ns → n ≡ get_or ns i n → 0 < p → r ≡ arity n.kind
    → shift i (after p (drop i ns)) ≡ shift (i + 1) (after (p - 1 + r) (drop (i + 1) ns))
after_more ns i zero r n l e h a = absurd (omega arith)
after_more ns i (suc p) r n l e h a =
    let q : suc p - 1 + r ≡ arity n.kind + p = omega arith in
    rw (drop_read ns i n l e, q, shift_further)

pub after_ended : (ns : List Node) (i p : ℕ) → p ≡ 0 → shift i (after p (drop i ns)) ≡ Some i
after_ended ns i p h = rw (h, add-zero)

pub after_unended : (ns : List Node) (i p : ℕ) → length ns ≤ i → 0 < p → shift i (after p (drop i ns)) ≡ None
after_unended ns i zero l h = absurd (omega arith)
after_unended ns i (suc p) l h = rw (drop_all i ns l)
