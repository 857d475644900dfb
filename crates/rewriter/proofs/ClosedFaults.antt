-- What `fault_under` finds, over trees and step by step.
--   judged_closed   the fault that is found is the first fault, and none is found in one closed term
--   fault_more, fault_unfit, fault_late, fault_over   a scan's next node, and its answers
use Rattle.std.proofs.Common.{◌≡◌, ℕ, suc, ◌+◌, ◌<◌, ◌≤◌, Bool, true, false, cond, eqb, List, [], ◌∷◌, ◌++◌, length, get_or, take, drop, Some, None, Option, sym, refl, ap, ◌∙◌, inl, inr, add-zero, arith}
use Rattle.std.proofs.lemmas.Bool.{cases_Bool, both_ways, eqb-true, ne_eqb, ltb-true, lt-ltb}
use Rattle.std.proofs.lemmas.List.{drop_more, drop_all}
use Rattle.calculus.specs.declared.kind.Kind.{Kind}
use Rattle.calculus.specs.declared.kind.Kind.TheVariants.{Blank, Variable, Zero, Successor, Rec, Lambda, Apply, Triv, Pair, Fst, Snd, Abort, Inl, Inr, Case, Query}
use Rattle.calculus.specs.declared.node.Node.{Node}
use Rattle.calculus.specs.Kinds.{node, blank}
use Rattle.calculus.specs.Syntax.{Term, ZE, SU, RE, LA, AP, PA, FS, SN, AB, IL, IR, CA, QU, onto, flat, Scoped, scoped_var, scoped_z, scoped_s, scoped_rec, scoped_abs, scoped_fapp, scoped_null, scoped_pair, scoped_fst, scoped_snd, scoped_abort, scoped_inl, scoped_inr, scoped_case, scoped_query}
use Rattle.calculus.proofs.Reading.{one, two, three, gathered}
use Rattle.terms.specs.Ranges.{number_in_range, in_range, AllInRange}
use Rattle.terms.specs.Scan.{further, shift}
use Rattle.terms.proofs.Places.{some_none, further_none, further_some, shift_further, drop_read}
use Rattle.rewriter.specs.Depths.{child_depths}
use Rattle.rewriter.specs.ClosedTerms.{any_type, ClosedTerm, OneClosed, JudgedClosed, in_scope, fits_under, fault_under}

-- the nodes of several terms
abbrev ontos : List Term → List Node → List Node
ontos [] ns = ns
ontos (t ∷ ts) ns = onto t (ontos ts ns)

-- each term has only the variables of its depth
abbrev Fit : List ℕ → List Term → Type 0
Fit [] [] = Unit {0}
Fit [] (t ∷ ts) = ⊥
Fit (d ∷ ds) [] = ⊥
Fit (d ∷ ds) (t ∷ ts) = Scoped d t × Fit ds ts

-- the terms us are written as the terms ts with n before them
abbrev Gathers : Node → ℕ → List ℕ → List Term → List Term → Type 0
Gathers n d ds ts us = Fit (d ∷ ds) us × ((ns : List Node) → ontos us ns ≡ n ∷ ontos ts ns)

at_zero : (k : Kind) (m : ℕ) (ns : List Node) → eqb m 0 ≡ true → node k 0 ∷ ns ≡ node k m ∷ ns
at_zero k m ns g = ap (λ z. node k z ∷ ns) (sym (eqb-true m 0 g))

gathers_one : (n : Node) (f : Term → Term) (d e : ℕ) (ds : List ℕ)
    → ((a : Term) (ns : List Node) → onto (f a) ns ≡ n ∷ onto a ns) → ((a : Term) → Scoped e a → Scoped d (f a))
    → (ts : List Term) → Fit (e ∷ ds) ts → Gathers n d ds ts (one f ts)
gathers_one n f d e ds h s [] x = absurd x
gathers_one n f d e ds h s (a ∷ ts) x = ((s a x.0, x.1), λ ns. h a (ontos ts ns))

gathers_two : (n : Node) (f : Term → Term → Term) (d : ℕ) (ds : List ℕ)
    → ((a b : Term) (ns : List Node) → onto (f a b) ns ≡ n ∷ onto a (onto b ns))
    → ((a b : Term) → Scoped d a → Scoped d b → Scoped d (f a b))
    → (ts : List Term) → Fit (d ∷ (d ∷ ds)) ts → Gathers n d ds ts (two f ts)
gathers_two n f d ds h s [] x = absurd x
gathers_two n f d ds h s (a ∷ []) x = absurd x.1
gathers_two n f d ds h s (a ∷ (b ∷ ts)) x = ((s a b x.0 x.1.0, x.1.1), λ ns. h a b (ontos ts ns))

gathers_three : (n : Node) (f : Term → Term → Term → Term) (d e : ℕ) (ds : List ℕ)
    → ((a b c : Term) (ns : List Node) → onto (f a b c) ns ≡ n ∷ onto a (onto b (onto c ns)))
    → ((a b c : Term) → Scoped d a → Scoped e b → Scoped (suc d) c → Scoped d (f a b c))
    → (ts : List Term) → Fit (d ∷ (e ∷ (suc d ∷ ds))) ts → Gathers n d ds ts (three f ts)
gathers_three n f d e ds h s [] x = absurd x
gathers_three n f d e ds h s (a ∷ []) x = absurd x.1
gathers_three n f d e ds h s (a ∷ (b ∷ [])) x = absurd x.1.1
gathers_three n f d e ds h s (a ∷ (b ∷ (c ∷ ts))) x =
    ((s a b c x.0 x.1.0 x.1.1.0, x.1.1.1), λ ns. h a b c (ontos ts ns))

-- a node that may stand under d binders takes the terms of its children, and makes one
gathers : (k : Kind) (m d : ℕ) (ds : List ℕ) (ts : List Term) → in_scope d k m ≡ true → number_in_range any_type k m ≡ true
    → Fit (child_depths k d ++ ds) ts → Gathers (node k m) d ds ts (gathered k m ts)
gathers Blank m d ds ts s g x = absurd (both_ways false refl g)
gathers Variable m d ds ts s g x = ((scoped_var (ltb-true m d s), x), λ ns. refl)
gathers Zero m d ds ts s g x = ((scoped_z, x), λ ns. at_zero Zero m (ontos ts ns) g)
gathers Successor m d ds ts s g x =
    gathers_one (node Successor m) SU d d ds (λ a ns. at_zero Successor m (onto a ns) g) (λ a. scoped_s) ts x
gathers Rec m d ds ts s g x =
    gathers_three (node Rec m) RE d d ds (λ a b c ns. at_zero Rec m (onto a (onto b (onto c ns))) g) (λ a b c. scoped_rec) ts x
gathers Lambda m d ds ts s g x = gathers_one (node Lambda m) (LA m) d (suc d) ds (λ a ns. refl) (λ a. scoped_abs) ts x
gathers Apply m d ds ts s g x =
    gathers_two (node Apply m) AP d ds (λ a b ns. at_zero Apply m (onto a (onto b ns)) g) (λ a b. scoped_fapp) ts x
gathers Triv m d ds ts s g x = ((scoped_null, x), λ ns. at_zero Triv m (ontos ts ns) g)
gathers Pair m d ds ts s g x =
    gathers_two (node Pair m) PA d ds (λ a b ns. at_zero Pair m (onto a (onto b ns)) g) (λ a b. scoped_pair) ts x
gathers Fst m d ds ts s g x = gathers_one (node Fst m) FS d d ds (λ a ns. at_zero Fst m (onto a ns) g) (λ a. scoped_fst) ts x
gathers Snd m d ds ts s g x = gathers_one (node Snd m) SN d d ds (λ a ns. at_zero Snd m (onto a ns) g) (λ a. scoped_snd) ts x
gathers Abort m d ds ts s g x = gathers_one (node Abort m) (AB m) d d ds (λ a ns. refl) (λ a. scoped_abort) ts x
gathers Inl m d ds ts s g x = gathers_one (node Inl m) (IL m) d d ds (λ a ns. refl) (λ a. scoped_inl) ts x
gathers Inr m d ds ts s g x = gathers_one (node Inr m) (IR m) d d ds (λ a ns. refl) (λ a. scoped_inr) ts x
gathers Case m d ds ts s g x =
    gathers_three (node Case m) CA d (suc d) ds (λ a b c ns. at_zero Case m (onto a (onto b (onto c ns))) g) (λ a b c. scoped_case) ts x
gathers Query m d ds ts s g x = gathers_one (node Query m) (QU m) d d ds (λ a ns. refl) (λ a. scoped_query) ts x

both_pass : (a b : Bool) → cond a b false ≡ true → (a ≡ true) × (b ≡ true)
both_pass true b p = (refl, p)
both_pass false b p = absurd (both_ways false refl p)

-- the list is terms, one for each depth, with numbers in range
abbrev TermsUnder : List ℕ → List Node → Type 0
TermsUnder ds ns = (ts : List Term) × Fit ds ts × (ontos ts [] ≡ ns) × AllInRange any_type ns

terms_cons : (d : ℕ) (ds : List ℕ) (n : Node) (ns : List Node)
    → fits_under d n ≡ true → TermsUnder (child_depths n.kind d ++ ds) ns → TermsUnder (d ∷ ds) (n ∷ ns)
terms_cons d ds n ns g (ts, x, e, a) =
    let (s, i) = both_pass (in_scope d n.kind n.number) (in_range any_type n) g in
    let r = gathers n.kind n.number d ds ts s i x in
    (gathered n.kind n.number ts, r.0, r.1 [] ∙ ap (λ z. n ∷ z) e, (i, a))

-- a zero for each depth
abbrev zeros : List ℕ → List Node
zeros [] = []
zeros (d ∷ ds) = node Zero 0 ∷ zeros ds

terms_zeros : (ds : List ℕ) → TermsUnder ds (zeros ds)
terms_zeros [] = ([], tt, refl, tt)
terms_zeros (d ∷ ds) =
    let (ts, x, e, a) = terms_zeros ds in (ZE ∷ ts, (scoped_z, x), ap (λ z. node Zero 0 ∷ z) e, (refl, a))

terms_one : (ns : List Node) → TermsUnder (0 ∷ []) ns → OneClosed ns
terms_one ns ([], x, e, a) = absurd x
terms_one ns (t ∷ [], x, e, a) = (t, e, (x.0, rw e a))
terms_one ns (t ∷ (u ∷ ts), x, e, a) = absurd x.1

-- a list with no fault is terms
terms_of : (ds : List ℕ) (ns : List Node) → fault_under ds ns ≡ None → TermsUnder ds ns
terms_of [] [] e = ([], tt, refl, tt)
terms_of [] (n ∷ ns) e = absurd (some_none 0 e)
terms_of (d ∷ ds) [] e = absurd (some_none 0 e)
terms_of (d ∷ ds) (n ∷ ns) e =
    elim (cases_Bool (fits_under d n)) [
      | inl g ↦ terms_cons d ds n ns g (terms_of (child_depths n.kind d ++ ds) ns (further_none _ (rw g at e)))
      | inr g ↦ absurd (some_none 0 (rw g at e))
    ]

-- what stands before a fault can be completed to terms
abbrev Front : List ℕ → List Node → ℕ → Type 0
Front ds ns k = (k ≤ length ns) × ((rest : List Node) × TermsUnder ds (take k ns ++ rest))

front_none : (ds : List ℕ) (ns : List Node) (k : ℕ) → Some 0 ≡ Some k → Front ds ns k
front_none ds ns k e = let z : 0 ≡ k = cc in rw (← z) (omega arith, (zeros ds, terms_zeros ds))

front : (ds : List ℕ) (ns : List Node) (k : ℕ) → fault_under ds ns ≡ Some k → Front ds ns k
front [] [] k e = absurd (some_none k (sym e))
front [] (n ∷ ns) k e = front_none [] (n ∷ ns) k e
front (d ∷ ds) [] k e = front_none (d ∷ ds) [] k e
front (d ∷ ds) (n ∷ ns) k e =
    elim (cases_Bool (fits_under d n)) [
      | inl g ↦
          let (j, s, q) = further_some _ k (rw g at e) in
          let (l, (rest, h)) = front (child_depths n.kind d ++ ds) ns j s in
          rw q (omega arith, (rest, terms_cons d ds n (take j ns ++ rest) g h))
      | inr g ↦ front_none (d ∷ ds) (n ∷ ns) k (rw g at e)
    ]

-- what follows a fault does not matter
fault_stays : (ds : List ℕ) (ns rest : List Node) (k : ℕ)
    → fault_under ds ns ≡ Some k → k < length ns → fault_under ds (take (suc k) ns ++ rest) ≡ Some k
fault_stays [] [] rest k e l = absurd (omega arith)
fault_stays [] (n ∷ ns) rest k e l = e
fault_stays (d ∷ ds) [] rest k e l = absurd (omega arith)
fault_stays (d ∷ ds) (n ∷ ns) rest k e l =
    elim (cases_Bool (fits_under d n)) [
      | inl g ↦
          let (j, s, q) = further_some _ k (rw g at e) in
          rw (g, q) (ap further (fault_stays (child_depths n.kind d ++ ds) ns rest j s (omega arith)))
      | inr g ↦ rw g (rw g at e)
    ]

-- a term with the variables of its depth has no fault of its own
abbrev NoFault : ℕ → List ℕ → List Node → Type 0
NoFault d ds ns = AllInRange any_type ns → fault_under (d ∷ ds) ns ≡ None

pass : (d : ℕ) (ds : List ℕ) (n : Node) (ns : List Node) → in_scope d n.kind n.number ≡ true
    → (AllInRange any_type ns → fault_under (child_depths n.kind d ++ ds) ns ≡ None) → NoFault d ds (n ∷ ns)
pass d ds n ns s h (i, a) = rw (s, i) (ap further (h a))

none_in : {d : ℕ} {t : Term} → Scoped d t → (ds : List ℕ) (ns : List Node)
    → (AllInRange any_type ns → fault_under ds ns ≡ None) → NoFault d ds (onto t ns)
none_in {d} (scoped_var {i = i} l) ds ns h = pass d ds (node Variable i) ns (lt-ltb i d l) h
none_in {d} scoped_z ds ns h = pass d ds (node Zero 0) ns refl h
none_in {d} (scoped_s {e = e} x) ds ns h = pass d ds (node Successor 0) (onto e ns) refl (none_in x ds ns h)
none_in {d} (scoped_rec {e = e} {a = a} {b = b} x y z) ds ns h =
    pass d ds (node Rec 0) (onto e (onto a (onto b ns))) refl
    (none_in x (d ∷ (suc d ∷ ds)) (onto a (onto b ns)) (none_in y (suc d ∷ ds) (onto b ns) (none_in z ds ns h)))
none_in {d} (scoped_abs {t = t} {b = b} x) ds ns h = pass d ds (node Lambda t) (onto b ns) refl (none_in x ds ns h)
none_in {d} (scoped_fapp {f = f} {a = a} x y) ds ns h =
    pass d ds (node Apply 0) (onto f (onto a ns)) refl (none_in x (d ∷ ds) (onto a ns) (none_in y ds ns h))
none_in {d} scoped_null ds ns h = pass d ds (node Triv 0) ns refl h
none_in {d} (scoped_pair {a = a} {b = b} x y) ds ns h =
    pass d ds (node Pair 0) (onto a (onto b ns)) refl (none_in x (d ∷ ds) (onto b ns) (none_in y ds ns h))
none_in {d} (scoped_fst {e = e} x) ds ns h = pass d ds (node Fst 0) (onto e ns) refl (none_in x ds ns h)
none_in {d} (scoped_snd {e = e} x) ds ns h = pass d ds (node Snd 0) (onto e ns) refl (none_in x ds ns h)
none_in {d} (scoped_abort {t = t} {e = e} x) ds ns h = pass d ds (node Abort t) (onto e ns) refl (none_in x ds ns h)
none_in {d} (scoped_inl {t = t} {e = e} x) ds ns h = pass d ds (node Inl t) (onto e ns) refl (none_in x ds ns h)
none_in {d} (scoped_inr {t = t} {e = e} x) ds ns h = pass d ds (node Inr t) (onto e ns) refl (none_in x ds ns h)
none_in {d} (scoped_case {e = e} {a = a} {b = b} x y z) ds ns h =
    pass d ds (node Case 0) (onto e (onto a (onto b ns))) refl
    (none_in x (suc d ∷ (suc d ∷ ds)) (onto a (onto b ns)) (none_in y (suc d ∷ ds) (onto b ns) (none_in z ds ns h)))
none_in {d} (scoped_query {q = q} {e = e} x) ds ns h = pass d ds (node Query q) (onto e ns) refl (none_in x ds ns h)

no_fault : (t : Term) → ClosedTerm t → fault_under (0 ∷ []) (flat t) ≡ None
no_fault t (s, a) = none_in s [] [] (λ _. refl) a

pub judged_closed : (ns : List Node) (r : Option ℕ) → r ≡ fault_under (0 ∷ []) ns → JudgedClosed ns r
judged_closed ns None e = terms_one ns (terms_of (0 ∷ []) ns (sym e))
judged_closed ns (Some k) e =
    let (l, (rest, h)) = front (0 ∷ []) ns k (sym e) in
    let (t, f, c) = terms_one (take k ns ++ rest) h in (
      l,
      (t, rest, f, c),
      (λ m (u, more, g, b).
          some_none k (sym (fault_stays (0 ∷ []) ns more k (sym e) m) ∙ ap (fault_under (0 ∷ [])) (sym g) ∙ no_fault u b)),
      (λ (u, g, b). some_none k (e ∙ ap (fault_under (0 ∷ [])) (sym g) ∙ no_fault u b)),
    )

-- the scan's turns: i nodes are read, and n is the next; the stack is st
module _ (ns : List Node) (st : List ℕ) (i : ℕ) (goal : Option ℕ) (inv : goal ≡ shift i (fault_under st (drop i ns))) where
  pub fault_more : (n : Node) (d : ℕ) (ds : List ℕ) → st ≡ d ∷ ds → i < length ns → n ≡ get_or ns i n
      → true ≡ fits_under d n → goal ≡ shift (i + 1) (fault_under (child_depths n.kind d ++ ds) (drop (i + 1) ns))
  fault_more n d ds e l is g = rw (← shift_further) (rw (e, drop_read ns i n l is, ← g) at inv)

  pub fault_unfit : (n : Node) (d : ℕ) (ds : List ℕ) → st ≡ d ∷ ds → i < length ns → n ≡ get_or ns i n
      → false ≡ fits_under d n → Some i ≡ goal
  fault_unfit n d ds e l is g = sym (rw (e, drop_read ns i n l is, ← g, add-zero) at inv)

  pub fault_late : st ≡ [] → i < length ns → Some i ≡ goal
  fault_late e l = sym (rw (e, drop_more ns i blank l, add-zero) at inv)

  pub fault_over : length ns ≤ i → goal ≡ cond (eqb (length st) 0) None (Some i)
  fault_over l = over st (rw (drop_all i ns l) at inv)
    where
      over : (ds : List ℕ) → goal ≡ shift i (fault_under ds []) → goal ≡ cond (eqb (length ds) 0) None (Some i)
      over [] e = e
      over (d ∷ ds) e = e ∙ ap Some (add-zero i) ∙ ap (λ b. cond b None (Some i)) (sym (ne_eqb (suc (length ds)) 0 (λ z. omega arith)))
