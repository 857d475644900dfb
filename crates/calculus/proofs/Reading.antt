-- Flat lists read as trees.
--   walk         what is kept node by node, by a count of terms to come and of nodes, is kept over a term
--   length_onto  a term takes up as many nodes as its size
--   drop_onto    what stands past them
--   build        the terms that a list holds, read from its end
--   read_once    a list begins with one term at most
--   length_flat  the length of a written form
use Rattle.std.proofs.Common.{◌≡◌, ℕ, suc, ◌+◌, List, [], ◌∷◌, length, drop, sym, refl, ap, ◌∙◌, add-zero, arith}
use Rattle.calculus.specs.declared.kind.Kind.{Kind}
use Rattle.calculus.specs.declared.kind.Kind.TheVariants.{Blank, Variable, Zero, Successor, Rec, Lambda, Apply, Triv, Pair, Fst, Snd, Abort, Inl, Inr, Case, Query}
use Rattle.calculus.specs.declared.node.Node.{Node}
use Rattle.calculus.specs.Kinds.{arity}
use Rattle.calculus.specs.Syntax.{Term, VA, ZE, SU, RE, LA, AP, TR, PA, FS, SN, AB, IL, IR, CA, QU, onto, flat, size}

-- P p i ns is said of a list ns with p terms to come and i nodes up to some end.
module _
    (P : ℕ → ℕ → List Node → Type 0)
    (more : (p i : ℕ) (n : Node) (ns : List Node) → P (arity n.kind + p) i ns → P (suc p) (suc i) (n ∷ ns))
  where
    cons : {n : Node} {ns : List Node} {p q i j : ℕ}
        → P q i ns → q ≡ arity n.kind + p → j ≡ suc i → P (suc p) j (n ∷ ns)
    cons {n} {ns} {p} {q} {i} {j} x e f = rw f (more p i n ns (rw (← e) x))

    pub walk : (t : Term) (p i : ℕ) (ns : List Node) → P p i ns → P (suc p) (size t + i) (onto t ns)
    walk (VA k) p i ns x = cons x (omega arith) (omega arith)
    walk ZE p i ns x = cons x (omega arith) (omega arith)
    walk (SU e) p i ns x = cons (walk e p i ns x) (omega arith) (omega arith)
    walk (RE e a b) p i ns x =
        let y = walk a (suc p) (size b + i) (onto b ns) (walk b p i ns x) in
        cons (walk e (suc (suc p)) (size a + (size b + i)) (onto a (onto b ns)) y) (omega arith) (omega arith)
    walk (LA t b) p i ns x = cons (walk b p i ns x) (omega arith) (omega arith)
    walk (AP f a) p i ns x = cons (walk f (suc p) (size a + i) (onto a ns) (walk a p i ns x)) (omega arith) (omega arith)
    walk TR p i ns x = cons x (omega arith) (omega arith)
    walk (PA a b) p i ns x = cons (walk a (suc p) (size b + i) (onto b ns) (walk b p i ns x)) (omega arith) (omega arith)
    walk (FS e) p i ns x = cons (walk e p i ns x) (omega arith) (omega arith)
    walk (SN e) p i ns x = cons (walk e p i ns x) (omega arith) (omega arith)
    walk (AB t e) p i ns x = cons (walk e p i ns x) (omega arith) (omega arith)
    walk (IL t e) p i ns x = cons (walk e p i ns x) (omega arith) (omega arith)
    walk (IR t e) p i ns x = cons (walk e p i ns x) (omega arith) (omega arith)
    walk (CA e a b) p i ns x =
        let y = walk a (suc p) (size b + i) (onto b ns) (walk b p i ns x) in
        cons (walk e (suc (suc p)) (size a + (size b + i)) (onto a (onto b ns)) y) (omega arith) (omega arith)
    walk (QU q e) p i ns x = cons (walk e p i ns x) (omega arith) (omega arith)

pub length_onto : (t : Term) (r : List Node) → length (onto t r) ≡ size t + length r
length_onto t r =
    let h = walk (λ p i ns. length ns ≡ i + length r) (λ p i n ns h. omega arith) t 0 0 r (omega arith) in omega arith

pub drop_onto : (t : Term) (r : List Node) → drop (size t) (onto t r) ≡ r
drop_onto t r = rw add-zero at (walk (λ p i ns. drop i ns ≡ r) (λ p i n ns h. h) t 0 0 r refl)

abbrev pub one : (Term → Term) → List Term → List Term
one f [] = []
one f (a ∷ ts) = f a ∷ ts

abbrev pub two : (Term → Term → Term) → List Term → List Term
two f [] = []
two f (a ∷ []) = []
two f (a ∷ (b ∷ ts)) = f a b ∷ ts

abbrev pub three : (Term → Term → Term → Term) → List Term → List Term
three f [] = []
three f (a ∷ []) = []
three f (a ∷ (b ∷ [])) = []
three f (a ∷ (b ∷ (c ∷ ts))) = f a b c ∷ ts

-- the terms that follow a node, with the node's own term in place of its children
abbrev pub gathered : Kind → ℕ → List Term → List Term
gathered Blank m ts = []
gathered Variable m ts = VA m ∷ ts
gathered Zero m ts = ZE ∷ ts
gathered Successor m ts = one SU ts
gathered Rec m ts = three RE ts
gathered Lambda m ts = one (LA m) ts
gathered Apply m ts = two AP ts
gathered Triv m ts = TR ∷ ts
gathered Pair m ts = two PA ts
gathered Fst m ts = one FS ts
gathered Snd m ts = one SN ts
gathered Abort m ts = one (AB m) ts
gathered Inl m ts = one (IL m) ts
gathered Inr m ts = one (IR m) ts
gathered Case m ts = three CA ts
gathered Query m ts = one (QU m) ts

abbrev pub build : List Node → List Term
build [] = []
build (n ∷ ns) = gathered n.kind n.number (build ns)

pub build_onto : (t : Term) (r : List Node) → build (onto t r) ≡ t ∷ build r
build_onto (VA i) r = refl
build_onto ZE r = refl
build_onto (SU e) r = rw (build_onto e r)
build_onto (RE e a b) r = rw (build_onto e (onto a (onto b r)), build_onto a (onto b r), build_onto b r)
build_onto (LA t b) r = rw (build_onto b r)
build_onto (AP f a) r = rw (build_onto f (onto a r), build_onto a r)
build_onto TR r = refl
build_onto (PA a b) r = rw (build_onto a (onto b r), build_onto b r)
build_onto (FS e) r = rw (build_onto e r)
build_onto (SN e) r = rw (build_onto e r)
build_onto (AB t e) r = rw (build_onto e r)
build_onto (IL t e) r = rw (build_onto e r)
build_onto (IR t e) r = rw (build_onto e r)
build_onto (CA e a b) r = rw (build_onto e (onto a (onto b r)), build_onto a (onto b r), build_onto b r)
build_onto (QU q e) r = rw (build_onto e r)

heads : {a b : Term} {s t : List Term} → a ∷ s ≡ b ∷ t → a ≡ b
heads p = cc

pub read_once : (t u : Term) (r s : List Node) → onto t r ≡ onto u s → (t ≡ u) × (r ≡ s)
read_once t u r s p =
    let q : t ≡ u = heads (sym (build_onto t r) ∙ ap build p ∙ build_onto u s) in
    (q, sym (drop_onto t r) ∙ ap (drop (size t)) p ∙ ap (λ v. drop (size v) (onto u s)) q ∙ drop_onto u s)

pub length_flat : (t : Term) → length (flat t) ≡ size t
length_flat t = length_onto t [] ∙ add-zero (size t)
