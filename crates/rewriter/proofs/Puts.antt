-- `substituted` is substitution on trees, and the turns of the loop that computes it.
--   substituted_onto   at a term and what follows it
--   put_flat           at the body of a binder
--   turn_hit, turn_miss   the turns of the loop
use Rattle.std.proofs.Common.{◌≡◌, ℕ, zero, suc, ◌+◌, ◌<◌, true, false, cond, eqb, List, [], ◌∷◌, ◌++◌, length, get_or, drop, Some, None, Option, unwrap_or, sym, refl, ap, ◌∙◌, inl, inr}
use Rattle.std.proofs.lemmas.Bool.{cases_eq, eq-eqb, ne_eqb}
use Rattle.calculus.specs.declared.kind.Kind.TheVariants.{Variable, Successor, Rec, Lambda, Apply, Pair, Fst, Snd, Abort, Inl, Inr, Case, Query}
use Rattle.calculus.specs.declared.node.Node.{Node}
use Rattle.calculus.specs.Kinds.{node}
use Rattle.calculus.specs.Syntax.{Term, VA, ZE, SU, RE, LA, AP, TR, PA, FS, SN, AB, IL, IR, CA, QU, onto, flat, up, put, one}
use Rattle.terms.proofs.Places.{drop_read}
use Rattle.rewriter.specs.Depths.{child_depths}
use Rattle.rewriter.specs.Substituted.{hits, substituted}
use Rattle.rewriter.proofs.Flats.{onto_flat}

-- v for the variable with the index d
abbrev lifted : ℕ → Term → ℕ → Option Term
lifted zero v = one v
lifted (suc d) v = up (lifted d v)

lifted_own : (d : ℕ) (v : Term) → lifted d v d ≡ Some v
lifted_own zero v = refl
lifted_own (suc d) v = lifted_own d v

lifted_other : (d : ℕ) (v : Term) (i : ℕ) → (i ≡ d → ⊥) → lifted d v i ≡ None
lifted_other zero v zero h = absurd (h refl)
lifted_other zero v (suc i) h = refl
lifted_other (suc d) v zero h = refl
lifted_other (suc d) v (suc i) h = lifted_other d v i (λ e. h (ap suc e))

at_variable : (v : Term) (i d : ℕ) (rest : List Node)
    → cond (eqb i d) (flat v ++ rest) (node Variable i ∷ rest) ≡ onto (unwrap_or (lifted d v i) (VA i)) rest
at_variable v i d rest =
    elim (cases_eq i d) [
      | inl e ↦ ap (λ b. cond b (flat v ++ rest) (node Variable i ∷ rest)) (eq-eqb i d e) ∙ sym (onto_flat v rest)
          ∙ sym (ap (λ o. onto (unwrap_or o (VA i)) rest) (ap (lifted d v) e ∙ lifted_own d v))
      | inr n ↦ ap (λ b. cond b (flat v ++ rest) (node Variable i ∷ rest)) (ne_eqb i d n)
          ∙ sym (ap (λ o. onto (unwrap_or o (VA i)) rest) (lifted_other d v i n))
    ]

pub substituted_onto : (v t : Term) (d : ℕ) (ds : List ℕ) (ns : List Node)
    → substituted (flat v) (d ∷ ds) (onto t ns) ≡ onto (put (lifted d v) t) (substituted (flat v) ds ns)
substituted_onto v (VA i) d ds ns = at_variable v i d (substituted (flat v) ds ns)
substituted_onto v ZE d ds ns = refl
substituted_onto v (SU e) d ds ns = ap (λ l. node Successor 0 ∷ l) (substituted_onto v e d ds ns)
substituted_onto v (RE e a b) d ds ns =
    ap (λ l. node Rec 0 ∷ l)
    (substituted_onto v e d (d ∷ (suc d ∷ ds)) (onto a (onto b ns))
    ∙ ap (onto (put (lifted d v) e)) (substituted_onto v a d (suc d ∷ ds) (onto b ns)
    ∙ ap (onto (put (lifted d v) a)) (substituted_onto v b (suc d) ds ns)))
substituted_onto v (LA t b) d ds ns = ap (λ l. node Lambda t ∷ l) (substituted_onto v b (suc d) ds ns)
substituted_onto v (AP f a) d ds ns =
    ap (λ l. node Apply 0 ∷ l)
    (substituted_onto v f d (d ∷ ds) (onto a ns) ∙ ap (onto (put (lifted d v) f)) (substituted_onto v a d ds ns))
substituted_onto v TR d ds ns = refl
substituted_onto v (PA a b) d ds ns =
    ap (λ l. node Pair 0 ∷ l)
    (substituted_onto v a d (d ∷ ds) (onto b ns) ∙ ap (onto (put (lifted d v) a)) (substituted_onto v b d ds ns))
substituted_onto v (FS e) d ds ns = ap (λ l. node Fst 0 ∷ l) (substituted_onto v e d ds ns)
substituted_onto v (SN e) d ds ns = ap (λ l. node Snd 0 ∷ l) (substituted_onto v e d ds ns)
substituted_onto v (AB t e) d ds ns = ap (λ l. node Abort t ∷ l) (substituted_onto v e d ds ns)
substituted_onto v (IL t e) d ds ns = ap (λ l. node Inl t ∷ l) (substituted_onto v e d ds ns)
substituted_onto v (IR t e) d ds ns = ap (λ l. node Inr t ∷ l) (substituted_onto v e d ds ns)
substituted_onto v (CA e a b) d ds ns =
    ap (λ l. node Case 0 ∷ l)
    (substituted_onto v e d (suc d ∷ (suc d ∷ ds)) (onto a (onto b ns))
    ∙ ap (onto (put (lifted d v) e)) (substituted_onto v a (suc d) (suc d ∷ ds) (onto b ns)
    ∙ ap (onto (put (lifted (suc d) v) a)) (substituted_onto v b (suc d) ds ns)))
substituted_onto v (QU q e) d ds ns = ap (λ l. node Query q ∷ l) (substituted_onto v e d ds ns)

pub put_flat : (v b : Term) (ns : List Node) → substituted (flat v) (0 ∷ []) (onto b ns) ≡ flat (put (one v) b)
put_flat v b ns = substituted_onto v b 0 [] ns

-- the loop stands at the node n, the place i of the body, with the stack d ∷ ds
module _ (v : List Node) (st : List ℕ) (d : ℕ) (ds : List ℕ) (body : List Node) (i : ℕ) (n : Node)
    (e : st ≡ d ∷ ds) (l : i < length body) (is : n ≡ get_or body i n)
  where
    here : substituted v st (drop i body) ≡ cond (hits d n) (v ++ substituted v ds (drop (i + 1) body))
        (n ∷ substituted v (child_depths n.kind d ++ ds) (drop (i + 1) body))
    here = rw (e, drop_read body i n l is)

    pub turn_hit : (done goal : List Node) → true ≡ hits d n → done ++ substituted v st (drop i body) ≡ goal
        → done ++ (v ++ substituted v ds (drop (i + 1) body)) ≡ goal
    turn_hit done goal b inv = rw (here, ← b) at inv

    pub turn_miss : (done goal : List Node) → false ≡ hits d n → done ++ substituted v st (drop i body) ≡ goal
        → done ++ ((n ∷ []) ++ substituted v (child_depths n.kind d ++ ds) (drop (i + 1) body)) ≡ goal
    turn_miss done goal b inv = rw (here, ← b) at inv
