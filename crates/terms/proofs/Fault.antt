-- What `fault` finds, over trees and step by step.
--   arity_le        no node has more than three children
--   judged          the fault that is found is the first fault, and none is found in one term
--   fault_of_term   one term has no fault
--   fault_here, fault_ended, fault_unended   a scan's answers
use Rattle.std.proofs.Common.{◌≡◌, ℕ, zero, suc, ◌+◌, ◌<◌, ◌≤◌, true, false, eqb, ◌⊎◌, List, [], ◌∷◌, ◌++◌, length, get_or, take, drop, replicate, Some, None, Option, sym, refl, ap, ◌∙◌, inl, inr, add-zero, arith}
use Rattle.std.proofs.lemmas.List.{drop_all}
use Rattle.std.proofs.lemmas.Bool.{cases_Bool, eqb-true}
use Rattle.calculus.specs.declared.kind.Kind.{Kind}
use Rattle.calculus.specs.declared.kind.Kind.TheVariants.{Blank, Variable, Zero, Successor, Rec, Lambda, Apply, Triv, Pair, Fst, Snd, Abort, Inl, Inr, Case, Query}
use Rattle.calculus.specs.declared.node.Node.{Node}
use Rattle.calculus.specs.Kinds.{node, arity}
use Rattle.calculus.specs.Syntax.{Term, ZE, SU, RE, LA, AP, PA, FS, SN, AB, IL, IR, CA, QU, onto}
use Rattle.terms.specs.Ranges.{number_in_range, in_range, AllInRange}
use Rattle.terms.specs.Scan.{further, shift, fault}
use Rattle.terms.specs.Whole.{OneTerm, Judged}
use Rattle.terms.proofs.Places.{some_none, further_none, further_some}
use Rattle.calculus.proofs.Reading.{walk, one, two, three, gathered}
use Rattle.terms.proofs.Places.{drop_read}

pub arity_le : (k : Kind) → arity k ≤ 3
arity_le Blank = omega arith
arity_le Variable = omega arith
arity_le Zero = omega arith
arity_le Successor = omega arith
arity_le Rec = omega arith
arity_le Lambda = omega arith
arity_le Apply = omega arith
arity_le Triv = omega arith
arity_le Pair = omega arith
arity_le Fst = omega arith
arity_le Snd = omega arith
arity_le Abort = omega arith
arity_le Inl = omega arith
arity_le Inr = omega arith
arity_le Case = omega arith
arity_le Query = omega arith

-- the nodes of several terms
abbrev ontos : List Term → List Node → List Node
ontos [] ns = ns
ontos (t ∷ ts) ns = onto t (ontos ts ns)

-- the terms us are written as the terms ts with n before them
abbrev Gathers : Node → ℕ → List Term → List Term → Type 0
Gathers n q ts us = (length us ≡ suc q) × ((ns : List Node) → ontos us ns ≡ n ∷ ontos ts ns)

gathers_one : (n : Node) (f : Term → Term)
    → ((a : Term) (ns : List Node) → onto (f a) ns ≡ n ∷ onto a ns)
    → (q : ℕ) (ts : List Term) → length ts ≡ 1 + q → Gathers n q ts (one f ts)
gathers_one n f h q [] x = absurd (omega arith)
gathers_one n f h q (a ∷ ts) x = (omega arith, λ ns. h a (ontos ts ns))

gathers_two : (n : Node) (f : Term → Term → Term)
    → ((a b : Term) (ns : List Node) → onto (f a b) ns ≡ n ∷ onto a (onto b ns))
    → (q : ℕ) (ts : List Term) → length ts ≡ 2 + q → Gathers n q ts (two f ts)
gathers_two n f h q [] x = absurd (omega arith)
gathers_two n f h q (a ∷ []) x = absurd (omega arith)
gathers_two n f h q (a ∷ (b ∷ ts)) x = (omega arith, λ ns. h a b (ontos ts ns))

gathers_three : (n : Node) (f : Term → Term → Term → Term)
    → ((a b c : Term) (ns : List Node) → onto (f a b c) ns ≡ n ∷ onto a (onto b (onto c ns)))
    → (q : ℕ) (ts : List Term) → length ts ≡ 3 + q → Gathers n q ts (three f ts)
gathers_three n f h q [] x = absurd (omega arith)
gathers_three n f h q (a ∷ []) x = absurd (omega arith)
gathers_three n f h q (a ∷ (b ∷ [])) x = absurd (omega arith)
gathers_three n f h q (a ∷ (b ∷ (c ∷ ts))) x = (omega arith, λ ns. h a b c (ontos ts ns))

at_zero : (k : Kind) (m : ℕ) (ns : List Node) → eqb m 0 ≡ true → node k 0 ∷ ns ≡ node k m ∷ ns
at_zero k m ns g = ap (λ z. node k z ∷ ns) (sym (eqb-true m 0 g))

-- a node in range takes as many terms as it has children, and makes one
gathers : (types : ℕ) (k : Kind) (m q : ℕ) (ts : List Term)
    → number_in_range types k m ≡ true → length ts ≡ arity k + q → Gathers (node k m) q ts (gathered k m ts)
gathers types Blank m q ts g x = cc
gathers types Variable m q ts g x = (omega arith, λ ns. refl)
gathers types Zero m q ts g x = (omega arith, λ ns. at_zero Zero m (ontos ts ns) g)
gathers types Successor m q ts g x = gathers_one (node Successor m) SU (λ a ns. at_zero Successor m (onto a ns) g) q ts x
gathers types Rec m q ts g x =
    gathers_three (node Rec m) RE (λ a b c ns. at_zero Rec m (onto a (onto b (onto c ns))) g) q ts x
gathers types Lambda m q ts g x = gathers_one (node Lambda m) (LA m) (λ a ns. refl) q ts x
gathers types Apply m q ts g x = gathers_two (node Apply m) AP (λ a b ns. at_zero Apply m (onto a (onto b ns)) g) q ts x
gathers types Triv m q ts g x = (omega arith, λ ns. at_zero Triv m (ontos ts ns) g)
gathers types Pair m q ts g x = gathers_two (node Pair m) PA (λ a b ns. at_zero Pair m (onto a (onto b ns)) g) q ts x
gathers types Fst m q ts g x = gathers_one (node Fst m) FS (λ a ns. at_zero Fst m (onto a ns) g) q ts x
gathers types Snd m q ts g x = gathers_one (node Snd m) SN (λ a ns. at_zero Snd m (onto a ns) g) q ts x
gathers types Abort m q ts g x = gathers_one (node Abort m) (AB m) (λ a ns. refl) q ts x
gathers types Inl m q ts g x = gathers_one (node Inl m) (IL m) (λ a ns. refl) q ts x
gathers types Inr m q ts g x = gathers_one (node Inr m) (IR m) (λ a ns. refl) q ts x
gathers types Case m q ts g x =
    gathers_three (node Case m) CA (λ a b c ns. at_zero Case m (onto a (onto b (onto c ns))) g) q ts x
gathers types Query m q ts g x = gathers_one (node Query m) (QU m) (λ a ns. refl) q ts x

-- the list is p terms, with numbers in range
abbrev TermsInRange : ℕ → ℕ → List Node → Type 0
TermsInRange types p ns = (ts : List Term) × (length ts ≡ p) × (ontos ts [] ≡ ns) × AllInRange types ns

terms_cons : (types p : ℕ) (n : Node) (ns : List Node)
    → in_range types n ≡ true → TermsInRange types (arity n.kind + p) ns → TermsInRange types (suc p) (n ∷ ns)
terms_cons types p n ns g (ts, l, e, a) =
    let r = gathers types n.kind n.number p ts g l in
    (gathered n.kind n.number ts, r.0, r.1 [] ∙ ap (λ z. n ∷ z) e, (g, a))

terms_zeros : (types p : ℕ) → TermsInRange types p (replicate p (node Zero 0))
terms_zeros types zero = ([], refl, refl, tt)
terms_zeros types (suc p) =
    let (ts, l, e, a) = terms_zeros types p in (ZE ∷ ts, ap suc l, ap (λ z. node Zero 0 ∷ z) e, (refl, a))

terms_one : (types : ℕ) (ns : List Node) → TermsInRange types 1 ns → OneTerm types ns
terms_one types ns ([], l, e, a) = absurd (omega arith)
terms_one types ns (t ∷ [], l, e, a) = (t, e, a)
terms_one types ns (t ∷ (u ∷ ts), l, e, a) = absurd (omega arith)

-- a list with no fault is terms
terms_of : (types p : ℕ) (ns : List Node) → fault types p ns ≡ None → TermsInRange types p ns
terms_of types zero [] e = ([], refl, refl, tt)
terms_of types zero (n ∷ ns) e = cc
terms_of types (suc p) [] e = cc
terms_of types (suc p) (n ∷ ns) e =
    elim (cases_Bool (in_range types n)) [
      | inl g ↦ terms_cons types p n ns g (terms_of types (arity n.kind + p) ns (further_none _ (rw g at e)))
      | inr g ↦ let none = rw g at e in cc
    ]

-- what stands before a fault can be completed to terms
abbrev Front : ℕ → ℕ → List Node → ℕ → Type 0
Front types p ns k = (k ≤ length ns) × ((rest : List Node) × TermsInRange types p (take k ns ++ rest))

front_none : (types p : ℕ) (ns : List Node) (k : ℕ) → Some 0 ≡ Some k → Front types p ns k
front_none types p ns k e = let z : 0 ≡ k = cc in rw (← z) (omega arith, (replicate p (node Zero 0), terms_zeros types p))

front : (types p : ℕ) (ns : List Node) (k : ℕ) → fault types p ns ≡ Some k → Front types p ns k
front types zero [] k e = cc
front types zero (n ∷ ns) k e = front_none types zero (n ∷ ns) k e
front types (suc p) [] k e = front_none types (suc p) [] k e
front types (suc p) (n ∷ ns) k e =
    elim (cases_Bool (in_range types n)) [
      | inl g ↦
          let (j, s, q) = further_some _ k (rw g at e) in
          let (l, (rest, h)) = front types (arity n.kind + p) ns j s in
          rw q (omega arith, (rest, terms_cons types p n (take j ns ++ rest) g h))
      | inr g ↦ front_none types (suc p) (n ∷ ns) k (rw g at e)
    ]

-- what follows a fault does not matter
fault_stays : (types p : ℕ) (ns rest : List Node) (k : ℕ)
    → fault types p ns ≡ Some k → k < length ns → fault types p (take (suc k) ns ++ rest) ≡ Some k
fault_stays types zero [] rest k e l = absurd (omega arith)
fault_stays types zero (n ∷ ns) rest k e l = e
fault_stays types (suc p) [] rest k e l = absurd (omega arith)
fault_stays types (suc p) (n ∷ ns) rest k e l =
    elim (cases_Bool (in_range types n)) [
      | inl g ↦
          let (j, s, q) = further_some _ k (rw g at e) in
          rw (g, q) (ap further (fault_stays types (arity n.kind + p) ns rest j s (omega arith)))
      | inr g ↦ rw g (rw g at e)
    ]

pub fault_of_term : (types : ℕ) (ns : List Node) → OneTerm types ns → fault types 1 ns ≡ None
fault_of_term types ns (t, e, a) =
    let P : ℕ → ℕ → List Node → Type 0 = λ p i l. AllInRange types l → fault types p l ≡ None in
    rw (← e) (walk P (λ p i n l h b. rw b.0 (ap further (h b.1))) t 0 0 [] (λ b. refl) (rw (← e) at a))

pub judged : (types : ℕ) (ns : List Node) (r : Option ℕ) → r ≡ fault types 1 ns → Judged types ns r
judged types ns None e = terms_one types ns (terms_of types 1 ns (sym e))
judged types ns (Some k) e =
    let (l, (rest, h)) = front types 1 ns k (sym e) in
    let (t, f, a) = terms_one types (take k ns ++ rest) h in (
      l,
      (t, rest, f, a),
      (λ m (u, more, g, b).
          let none = fault_of_term types (take (suc k) ns ++ more) (u, g, b) in
          some_none k (sym (fault_stays types 1 ns more k (sym e) m) ∙ none)),
      (λ w. some_none k (e ∙ fault_of_term types ns w)),
    )

-- the scan's answers: i nodes are read, and p terms are to come
pub fault_here : (types : ℕ) (ns : List Node) (i p : ℕ) (n : Node)
    → i < length ns → n ≡ get_or ns i n → (p ≡ 0) ⊎ (in_range types n ≡ false)
    → shift i (fault types p (drop i ns)) ≡ Some i
fault_here types ns i zero n l e h = rw (drop_read ns i n l e, add-zero)
fault_here types ns i (suc p) n l e (inl h) = absurd (omega arith)
fault_here types ns i (suc p) n l e (inr g) = rw (drop_read ns i n l e, g, add-zero)

pub fault_ended : (types : ℕ) (ns : List Node) (i p : ℕ)
    → length ns ≤ i → p ≡ 0 → shift i (fault types p (drop i ns)) ≡ None
fault_ended types ns i p l h = rw (h, drop_all i ns l)

pub fault_unended : (types : ℕ) (ns : List Node) (i p : ℕ)
    → length ns ≤ i → 0 < p → shift i (fault types p (drop i ns)) ≡ Some i
fault_unended types ns i zero l h = absurd (omega arith)
fault_unended types ns i (suc p) l h = rw (drop_all i ns l, add-zero)
