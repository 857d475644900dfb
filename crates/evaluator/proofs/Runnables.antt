-- A closed term with a type, no longer than the longest table, is one that question 33 lets pass.
use Rattle.std.proofs.Common.{◌≡◌, ℕ, ◌+◌, ◌<◌, ◌≤◌, Bool, true, false, cond, ltb, List, [], length, Some, None, Option, refl, arith, ltb-true, lt-ltb}
use Rattle.std.specs.List.{AllByRecursion}
use Rattle.calculus.specs.declared.node.Node.{Node}
use Rattle.calculus.specs.Syntax.{Ty, Term, VA, ZE, SU, RE, LA, AP, TR, PA, FS, SN, AB, IL, IR, CA, QU, size, onto, Scoped, scoped_var}
use Rattle.calculus.specs.declared.answer.Shape.{Shape}
use Rattle.calculus.specs.Meanings.{digit, digit_shape, question_shape}
use Rattle.calculus.specs.Typing.{TypesBelow, Typed, typing_var, typing_z, typing_s, typing_rec, typing_abs, typing_fapp, typing_null, typing_pair, typing_fst, typing_snd, typing_abort, typing_inl, typing_inr, typing_case, typing_query}
use Rattle.calculus.proofs.TypedScoped.{typed_scoped}
use Rattle.terms.specs.Ranges.{AllInRange}
use Rattle.rewriter.specs.ClosedTerms.{any_type, ClosedTerm}
use Rattle.evaluator.specs.OneCall.{Narrow}

known_go : (q : ℕ) (o : Option Shape) (s : Shape) (b : Bool) → ltb q 8 ≡ b → cond b o None ≡ Some s → q < 8
known_go q o s true p e = ltb-true q 8 p
known_go q o s false p e = cc

-- a question of a profile is below 8
known_below : (p q : ℕ) (s : Shape) → question_shape p q ≡ Some s → q < 8
known_below p q s e = known_go q (digit_shape (digit p q)) s (ltb q 8) refl e

index : {d i : ℕ} → Scoped d (VA i) → i < d
index (scoped_var h) = h

module _ (ρ : ℕ → Ty) (p : ℕ) where
  ranged : {Γ : List Ty} {e : Term} {τ : Ty} → Typed ρ p Γ e τ → length Γ + size e ≤ 4097 → TypesBelow any_type e
      → (ns : List Node) → AllInRange any_type ns → AllInRange any_type (onto e ns)
  ranged (typing_var {Γ = Γ} {i = i} {τ = τ} x) l b ns r =
      let h : i < length Γ = index (typed_scoped ρ p {Γ = Γ} {e = VA i} {τ = τ} (typing_var x)) in
      (lt-ltb i 4096 (omega arith), r)
  ranged typing_z l b ns r = (refl, r)
  ranged (typing_s d) l b ns r = (refl, ranged d (omega arith) b ns r)
  ranged (typing_rec d a c v) l b ns r =
      (refl, ranged d (omega arith) b.0 _ (ranged a (omega arith) b.1 _ (ranged c (omega arith) b.2 ns r)))
  ranged (typing_abs {t = t} d) l b ns r = (lt-ltb t any_type b.0, ranged d (omega arith) b.1 ns r)
  ranged (typing_fapp f a) l b ns r = (refl, ranged f (omega arith) b.0 _ (ranged a (omega arith) b.1 ns r))
  ranged typing_null l b ns r = (refl, r)
  ranged (typing_pair a c) l b ns r = (refl, ranged a (omega arith) b.0 _ (ranged c (omega arith) b.1 ns r))
  ranged (typing_fst d) l b ns r = (refl, ranged d (omega arith) b ns r)
  ranged (typing_snd d) l b ns r = (refl, ranged d (omega arith) b ns r)
  ranged (typing_abort {t = t} d) l b ns r = (lt-ltb t any_type b.0, ranged d (omega arith) b.1 ns r)
  ranged (typing_inl {t = t} d) l b ns r = (lt-ltb t any_type b.0, ranged d (omega arith) b.1 ns r)
  ranged (typing_inr {t = t} d) l b ns r = (lt-ltb t any_type b.0, ranged d (omega arith) b.1 ns r)
  ranged (typing_case d a c) l b ns r =
      (refl, ranged d (omega arith) b.0 _ (ranged a (omega arith) b.1 _ (ranged c (omega arith) b.2 ns r)))
  ranged (typing_query {q = q} {s = s} x d) l b ns r = (lt-ltb q 8 (known_below p q s x), ranged d (omega arith) b ns r)

  pub typed_closed : {e : Term} {τ : Ty} → Typed ρ p [] e τ → size e ≤ 4096 → TypesBelow any_type e → ClosedTerm e
  typed_closed d l b = (typed_scoped ρ p d, ranged d (omega arith) b [] tt)

-- Where each number of a list of nodes has 16 bits, so have the type numbers of a term that stands in it.
narrow_onto : (e : Term) (ns : List Node) → AllByRecursion Narrow (onto e ns) → TypesBelow any_type e × AllByRecursion Narrow ns
narrow_onto (VA i) ns h = (tt, h.1)
narrow_onto ZE ns h = (tt, h.1)
narrow_onto (SU e) ns h = narrow_onto e ns h.1
narrow_onto (RE e a b) ns h =
    let x = narrow_onto e (onto a (onto b ns)) h.1 in
    let y = narrow_onto a (onto b ns) x.1 in
    let z = narrow_onto b ns y.1 in
    ((x.0, y.0, z.0), z.1)
narrow_onto (LA t b) ns h = let x = narrow_onto b ns h.1 in ((h.0, x.0), x.1)
narrow_onto (AP f a) ns h =
    let x = narrow_onto f (onto a ns) h.1 in
    let y = narrow_onto a ns x.1 in
    ((x.0, y.0), y.1)
narrow_onto TR ns h = (tt, h.1)
narrow_onto (PA a b) ns h =
    let x = narrow_onto a (onto b ns) h.1 in
    let y = narrow_onto b ns x.1 in
    ((x.0, y.0), y.1)
narrow_onto (FS e) ns h = narrow_onto e ns h.1
narrow_onto (SN e) ns h = narrow_onto e ns h.1
narrow_onto (AB t e) ns h = let x = narrow_onto e ns h.1 in ((h.0, x.0), x.1)
narrow_onto (IL t e) ns h = let x = narrow_onto e ns h.1 in ((h.0, x.0), x.1)
narrow_onto (IR t e) ns h = let x = narrow_onto e ns h.1 in ((h.0, x.0), x.1)
narrow_onto (CA e a b) ns h =
    let x = narrow_onto e (onto a (onto b ns)) h.1 in
    let y = narrow_onto a (onto b ns) x.1 in
    let z = narrow_onto b ns y.1 in
    ((x.0, y.0, z.0), z.1)
narrow_onto (QU q e) ns h = narrow_onto e ns h.1

pub narrow_types : (e : Term) → AllByRecursion Narrow (onto e []) → TypesBelow any_type e
narrow_types e h = (narrow_onto e [] h).0
