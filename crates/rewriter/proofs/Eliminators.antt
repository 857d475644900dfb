-- Where an eliminator ends, by where its values end.
--   ends_later   a recursion and a case have two more children
--   ends_there   the others end with their values
use Rattle.std.proofs.Common.{◌≡◌, ℕ, suc, ◌+◌, ◌<◌, ◌⊎◌, List, ◌∷◌, drop, sym, ap, ◌∙◌, arith}
use Rattle.calculus.specs.declared.kind.Kind.{Kind}
use Rattle.calculus.specs.declared.kind.Kind.TheVariants.{Rec, Apply, Fst, Snd, Abort, Case, Query}
use Rattle.calculus.specs.declared.node.Node.{Node}
use Rattle.calculus.specs.Kinds.{node, kind_number}
use Rattle.calculus.specs.Syntax.{Term, VA, ZE, SU, RE, LA, AP, TR, PA, FS, SN, AB, IL, IR, CA, QU, onto, size}
use Rattle.rewriter.specs.Redexes.{taken}
use Rattle.rewriter.proofs.Cursors.{node_at, term_at}
use Rattle.rewriter.proofs.Layouts.{EndsAt}

module _ (ns : List Node) (at upto : ℕ) (n : Node) (after : List Node) (here : drop at ns ≡ n ∷ after) (some : at < upto) where
  -- the node that is read is the term's
  read : (m : Node) (l rest : List Node) → drop at ns ≡ m ∷ l → kind_number n.kind ≡ kind_number m.kind
  read m l rest d = let e : n ∷ after ≡ m ∷ l = sym here ∙ d in let k : n.kind ≡ m.kind = cc in ap kind_number k

  two_more : (k : Kind) (e a b : Term) (rest : List Node) (mid end : ℕ) → drop at ns ≡ node k 0 ∷ onto e (onto a (onto b rest))
      → upto ≡ at + suc (size e) → EndsAt ns upto mid → EndsAt ns mid end → end ≡ at + suc (size e + (size a + size b))
  two_more k e a b rest mid end d u f g =
      let x = term_at ns (at + 1) e (onto a (onto b rest)) (node_at ns at (node k 0) (onto e (onto a (onto b rest))) d).on in
      let q : upto ≡ at + 1 + size e = omega arith in
      let y = ap (λ j. drop j ns) q ∙ x.on in
      let p = f a (onto b rest) y in
      let z = ap (λ j. drop j ns) p ∙ (term_at ns upto a (onto b rest) y).on in
      omega (arith, g b rest z)

  pub ends_later : (kind_number n.kind ≡ 4) ⊎ (kind_number n.kind ≡ 14) → (mid end : ℕ) → EndsAt ns upto mid → EndsAt ns mid end
      → (e : Term) (rest : List Node) → drop at ns ≡ onto e rest → upto ≡ at + taken e → end ≡ at + size e
  ends_later k mid end f g (VA i) rest d u = absurd (omega arith)
  ends_later k mid end f g ZE rest d u = absurd (omega arith)
  ends_later k mid end f g (SU e) rest d u = absurd (omega arith)
  ends_later k mid end f g (RE e a b) rest d u = two_more Rec e a b rest mid end d u f g
  ends_later k mid end f g (LA t b) rest d u = absurd (omega arith)
  ends_later k mid end f g (AP h a) rest d u = absurd (omega (arith, read (node Apply 0) _ rest d))
  ends_later k mid end f g TR rest d u = absurd (omega arith)
  ends_later k mid end f g (PA a b) rest d u = absurd (omega arith)
  ends_later k mid end f g (FS e) rest d u = absurd (omega (arith, read (node Fst 0) _ rest d))
  ends_later k mid end f g (SN e) rest d u = absurd (omega (arith, read (node Snd 0) _ rest d))
  ends_later k mid end f g (AB t e) rest d u = absurd (omega (arith, read (node Abort t) _ rest d))
  ends_later k mid end f g (IL t e) rest d u = absurd (omega arith)
  ends_later k mid end f g (IR t e) rest d u = absurd (omega arith)
  ends_later k mid end f g (CA e a b) rest d u = two_more Case e a b rest mid end d u f g
  ends_later k mid end f g (QU q e) rest d u = absurd (omega (arith, read (node Query q) _ rest d))

  pub ends_there : (n.kind ≡ Rec → ⊥) → (n.kind ≡ Case → ⊥)
      → (e : Term) (rest : List Node) → drop at ns ≡ onto e rest → upto ≡ at + taken e → upto ≡ at + size e
  ends_there j k (VA i) rest d u = absurd (omega arith)
  ends_there j k ZE rest d u = absurd (omega arith)
  ends_there j k (SU e) rest d u = absurd (omega arith)
  ends_there j k (RE e a b) rest d u =
      let q : n ∷ after ≡ node Rec 0 ∷ onto e (onto a (onto b rest)) = sym here ∙ d in absurd (j (cc))
  ends_there j k (LA t b) rest d u = absurd (omega arith)
  ends_there j k (AP h a) rest d u = u
  ends_there j k TR rest d u = absurd (omega arith)
  ends_there j k (PA a b) rest d u = absurd (omega arith)
  ends_there j k (FS e) rest d u = u
  ends_there j k (SN e) rest d u = u
  ends_there j k (AB t e) rest d u = u
  ends_there j k (IL t e) rest d u = absurd (omega arith)
  ends_there j k (IR t e) rest d u = absurd (omega arith)
  ends_there j k (CA e a b) rest d u =
      let q : n ∷ after ≡ node Case 0 ∷ onto e (onto a (onto b rest)) = sym here ∙ d in absurd (k (cc))
  ends_there j k (QU q e) rest d u = u
