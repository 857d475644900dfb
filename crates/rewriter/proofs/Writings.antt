-- One writing after another, and writing into a part of a table.
--   wrote_seq     two writings are one
--   wrote_none    what does not fit does not fit with more behind it
--   wrote_part    a writing to the part from a place on
--   wrote_on      what was to come follows what has been written
--   wrote_kept    what stands behind the writing is kept
--   wrote_whole   the table after a writing to its front
use Rattle.std.proofs.Common.{◌≡◌, ℕ, ◌+◌, ◌-◌, ◌<◌, ◌≤◌, List, [], ◌++◌, length, take, drop, Some, None, Option, sym, ap, ◌∙◌, append_assoc, arith, length-append, length-drop}
use lib.Seq.{take-append-add}
use borrow.Rule.Slice.PartMut.{put_mid}
use Rattle.std.proofs.lemmas.List.{append-nil, length-take-le, take_rest, take-append-le, take-append-drop, drop-drop, drop_all, drop_at}
use Rattle.calculus.specs.declared.node.Node.{Node}
use Rattle.rewriter.specs.Writes.{Wrote}

-- lists that agree from a place on agree from a later one on
drop_later : (xs ys : List Node) (a k : ℕ) → a ≤ k → drop a xs ≡ drop a ys → drop k xs ≡ drop k ys
drop_later xs ys a k l e =
    let q : a + (k - a) ≡ k = omega arith in
    ap (λ j. drop j xs) (sym q) ∙ sym (drop-drop (k - a) a xs) ∙ ap (drop (k - a)) e ∙ drop-drop (k - a) a ys ∙ ap (λ j. drop j ys) q

pub wrote_seq : (was mid now first more : List Node) (u a : ℕ) (r : Option ℕ)
    → length mid ≡ length was → Wrote was u first mid (Some a) → Wrote mid a more now r → Wrote was u (first ++ more) now r
wrote_seq was mid now first more u a None l p q = simp length-append (omega arith)
wrote_seq was mid now first more u a (Some k) l p q = (
  simp length-append (omega arith),
  omega arith,
  q.2 ∙ ap (λ z. z ++ more) p.2 ∙ append_assoc (take u was) first more,
  q.3 ∙ drop_later mid was a k (omega arith) p.3,
)

pub wrote_none : (was now first more : List Node) (u : ℕ)
    → length was < u + length first → Wrote was u (first ++ more) now None
wrote_none was now first more u p = simp length-append (omega arith)

-- a place in a part, as a place in the whole
abbrev pub from_part : ℕ → Option ℕ → Option ℕ
from_part h None = None
from_part h (Some k) = Some (h + k)

pub length_rest : (was : List Node) (h : ℕ) → length (take (length was - h) (drop h was)) ≡ length was - h
length_rest was h = ap length (take_rest was h) ∙ length-drop h was

pub length_put : (was now : List Node) (h : ℕ) → h ≤ length was → length now ≡ length (take (length was - h) (drop h was))
    → length (put_mid h (length was - h) was now) ≡ length was
length_put was now h l n =
    simp (length-append, length-append, length-drop, length-drop) (omega (arith, length-take-le h was l, length_rest was h))

pub wrote_part : (was now more : List Node) (h : ℕ) (r : Option ℕ) → h ≤ length was
    → length now ≡ length (take (length was - h) (drop h was)) → Wrote (take (length was - h) (drop h was)) 0 more now r
    → Wrote was h more (put_mid h (length was - h) was now) (from_part h r)
wrote_part was now more h None l n w = omega (arith, length_rest was h)
wrote_part was now more h (Some k) l n w =
    let g = length_rest was h in
    let t : length (take h was) ≡ h = length-take-le h was l in
    let behind = drop (length was - h) (drop h was) in
    let none : behind ≡ [] = drop_all (length was - h) (drop h was) (omega (arith, length-drop h was)) in (
      omega arith,
      omega arith,
      ap (λ z. take (z + k) (put_mid h (length was - h) was now)) (sym t) ∙ take-append-add (take h was) (now ++ behind) k
          ∙ ap (λ z. take h was ++ z) (take-append-le k now behind (omega arith) ∙ w.2),
      sym (drop-drop k h (put_mid h (length was - h) was now)) ∙ ap (drop k) (drop_at (take h was) (now ++ behind) h t)
          ∙ ap (λ z. drop k (now ++ z)) none ∙ ap (drop k) (append-nil now) ∙ w.3 ∙ ap (drop k) (take_rest was h)
          ∙ drop-drop k h was,
    )

pub wrote_on : (was now more tail goal : List Node) (used k : ℕ)
    → Wrote was used more now (Some k) → take used was ++ (more ++ tail) ≡ goal → take k now ++ tail ≡ goal
wrote_on was now more tail goal used k w h = ap (λ l. l ++ tail) w.2 ∙ append_assoc (take used was) more tail ∙ h

pub wrote_kept : (first was now more : List Node) (used k : ℕ)
    → Wrote was used more now (Some k) → drop used was ≡ drop used first → drop k now ≡ drop k first
wrote_kept first was now more used k w h = w.3 ∙ drop_later was first used k (omega arith) h

pub wrote_whole : (was now more : List Node) (k : ℕ) → Wrote was 0 more now (Some k) → now ≡ more ++ drop k was
wrote_whole was now more k w = sym (take-append-drop k now) ∙ ap (λ z. z ++ drop k now) w.2 ∙ ap (λ z. more ++ z) w.3
