-- Where the parts of a redex stand in the list, and that what is written of them is what it becomes.
--   EndsAt        a place is the end of the term at another
--   beta_parts, case_inl_parts, case_inr_parts   a body and the value that is put into it
--   rec_zero_parts, fst_parts, snd_parts         a part that is copied
--   rec_successor_parts                          an unrolled recursion
--   parts_known   what is known of the redex at a site is known of the term that stands there
use Rattle.std.proofs.Common.{◌≡◌, ℕ, ◌+◌, ◌-◌, ◌≤◌, List, [], ◌∷◌, ◌++◌, length, take, drop, sym, ap, ◌∙◌, arith}
use Rattle.std.proofs.lemmas.List.{take_rest, take_at}
use Rattle.calculus.specs.declared.kind.Kind.TheVariants.{Apply, Rec, Lambda, Successor, Fst, Snd, Pair, Case, Inl, Inr}
use Rattle.calculus.specs.declared.node.Node.{Node}
use Rattle.calculus.specs.Kinds.{node}
use Rattle.calculus.specs.Meanings.{Meaning}
use Rattle.calculus.specs.Syntax.{Term, ZE, SU, RE, LA, PA, IL, IR, onto, flat, size, put, one}
use Rattle.calculus.proofs.Reading.{read_once, length_onto, length_flat}
use Rattle.rewriter.specs.declared.site.Rule.TheVariants as rule
use Rattle.rewriter.specs.declared.site.Site.{Site}
use Rattle.rewriter.specs.Redexes.{Contracts, beta, rec_zero, rec_successor, first, second, case_inl, case_inr, taken}
use Rattle.rewriter.specs.Rewrites.{StandsAt}
use Rattle.rewriter.specs.Substituted.{substituted}
use Rattle.rewriter.proofs.Cursors.{node_at, term_at}
use Rattle.rewriter.proofs.Flats.{onto_flat, onto_append}
use Rattle.rewriter.proofs.Puts.{put_flat}

abbrev pub EndsAt : List Node → ℕ → ℕ → Type 0
EndsAt ns j r = (t : Term) (rest : List Node) → drop j ns ≡ onto t rest → r ≡ j + size t

pub parts_known : {m : Meaning} {ns : List Node} {site : Site} → StandsAt m ns site → (e : Term) (rest : List Node)
    → drop site.at ns ≡ onto e rest → (site.upto ≡ site.at + taken e) × (site.end ≡ site.at + size e)
parts_known {site = site} s e rest d =
    let q = (read_once s.redex e s.rest rest (sym s.there ∙ d)).0 in
    (s.values_end ∙ ap (λ z. site.at + taken z) q, s.ends ∙ ap (λ z. site.at + size z) q)

-- a part of the list
copied : (ns : List Node) (lo hi : ℕ) (t : Term) (rest : List Node)
    → drop lo ns ≡ onto t rest → hi ≡ lo + size t → take (hi - lo) (drop lo ns) ≡ flat t
copied ns lo hi t rest d q = ap (λ j. take j (drop lo ns)) (omega arith) ∙ (term_at ns lo t rest d).is

-- the body that stands at a place, with the value that stands at another
filled : (ns : List Node) (from lo hi : ℕ) (b v : Term) (bs vs : List Node)
    → drop from ns ≡ onto b bs → drop lo ns ≡ onto v vs → hi ≡ lo + size v
    → substituted (take (hi - lo) (drop lo ns)) (0 ∷ []) (take (length ns - from) (drop from ns)) ≡ flat (put (one v) b)
filled ns from lo hi b v bs vs p q h =
    ap (λ z. substituted z (0 ∷ []) (take (length ns - from) (drop from ns))) (copied ns lo hi v vs q h)
    ∙ ap (substituted (flat v) (0 ∷ [])) (take_rest ns from ∙ p) ∙ put_flat v b bs

module _ (ns : List Node) (at upto : ℕ) (rest : List Node) where
  two : {l : List Node} → drop (at + 1 + 1) ns ≡ l → drop (at + 2) ns ≡ l
  two e = let q : at + 2 ≡ at + 1 + 1 = omega arith in ap (λ j. drop j ns) q ∙ e

  at_place : (i j : ℕ) {l : List Node} → i ≡ j → drop i ns ≡ l → drop j ns ≡ l
  at_place i j q e = ap (λ z. drop z ns) (sym q) ∙ e

  pub beta_parts : {m : Meaning} {e e' : Term} → Contracts m rule.Beta e e'
      → drop at ns ≡ onto e rest → upto ≡ at + taken e → (arg : ℕ) → EndsAt ns (at + 1) arg
      → (arg ≤ upto)
      × (substituted (take (upto - arg) (drop arg ns)) (0 ∷ []) (take (length ns - (at + 2)) (drop (at + 2) ns)) ≡ flat e')
  beta_parts (beta {t} {b} {a} v) d u arg f =
      let x = node_at ns at (node Apply 0) (onto (LA t b) (onto a rest)) d in
      let y = node_at ns (at + 1) (node Lambda t) (onto b (onto a rest)) x.on in
      let g = f (LA t b) (onto a rest) x.on in
      let z = term_at ns (at + 1) (LA t b) (onto a rest) x.on in
      let w = at_place (at + 1 + size (LA t b)) arg (sym g) z.on in
      (omega arith, filled ns (at + 2) arg upto b a (onto a rest) rest (two y.on) w (omega arith))

  pub rec_zero_parts : {m : Meaning} {e e' : Term} → Contracts m rule.RecZero e e'
      → drop at ns ≡ onto e rest → upto ≡ at + taken e → (step : ℕ) → EndsAt ns upto step → take (step - upto) (drop upto ns) ≡ flat e'
  rec_zero_parts (rec_zero {a} {b}) d u step f =
      let x = node_at ns at (node Rec 0) (onto ZE (onto a (onto b rest))) d in
      let y = term_at ns (at + 1) ZE (onto a (onto b rest)) x.on in
      let w = at_place (at + 1 + size ZE) upto (omega arith) y.on in
      copied ns upto step a (onto b rest) w (f a (onto b rest) w)

  pub rec_successor_parts : {m : Meaning} {e e' : Term} → Contracts m rule.RecSuccessor e e'
      → drop at ns ≡ onto e rest → upto ≡ at + taken e → (step end : ℕ) → EndsAt ns upto step → end ≡ at + size e
      → node Apply 0 ∷ (substituted (take (upto - (at + 2)) (drop (at + 2) ns)) (0 ∷ []) (take (length ns - step) (drop step ns))
      ++ (node Rec 0 ∷ take (end - (at + 2)) (drop (at + 2) ns))) ≡ flat e'
  rec_successor_parts (rec_successor {e = n} {a} {b} v) d u step end f h =
      let x = node_at ns at (node Rec 0) (onto (SU n) (onto a (onto b rest))) d in
      let y = node_at ns (at + 1) (node Successor 0) (onto n (onto a (onto b rest))) x.on in
      let from = two y.on in
      let z = term_at ns (at + 2) n (onto a (onto b rest)) from in
      let w = at_place (at + 2 + size n) upto (omega arith) z.on in
      let g = f a (onto b rest) w in
      let s = at_place (upto + size a) step (sym g) (term_at ns upto a (onto b rest) w).on in
      let body = filled ns step (at + 2) upto b n rest (onto a (onto b rest)) s from (omega arith) in
      let row : onto n (onto a (onto b rest)) ≡ onto n (onto a (flat b)) ++ rest =
      ap (λ l. onto n (onto a l)) (onto_flat b rest) ∙ ap (onto n) (onto_append a (flat b) rest) ∙ onto_append n (onto a (flat b)) rest in
      let long : length (onto n (onto a (flat b))) ≡ end - (at + 2) =
      omega (arith, length_onto n (onto a (flat b)), length_onto a (flat b), length_flat b) in
      let copy : take (end - (at + 2)) (drop (at + 2) ns) ≡ onto n (onto a (flat b)) =
      ap (take (end - (at + 2))) (from ∙ row) ∙ take_at (onto n (onto a (flat b))) rest (end - (at + 2)) long in
      ap (λ l. node Apply 0 ∷ (l ++ (node Rec 0 ∷ take (end - (at + 2)) (drop (at + 2) ns)))) body
      ∙ ap (λ l. node Apply 0 ∷ (flat (put (one n) b) ++ (node Rec 0 ∷ l))) copy
      ∙ ap (λ l. node Apply 0 ∷ l) (sym (onto_flat (put (one n) b) (flat (RE n a b))))

  pub fst_parts : {m : Meaning} {e e' : Term} → Contracts m rule.Fst e e'
      → drop at ns ≡ onto e rest → upto ≡ at + taken e → (mid : ℕ) → EndsAt ns (at + 2) mid → take (mid - (at + 2)) (drop (at + 2) ns) ≡ flat e'
  fst_parts (first {a} {b} v w) d u mid f =
      let x = node_at ns at (node Fst 0) (onto (PA a b) rest) d in
      let y = two (node_at ns (at + 1) (node Pair 0) (onto a (onto b rest)) x.on).on in
      copied ns (at + 2) mid a (onto b rest) y (f a (onto b rest) y)

  pub snd_parts : {m : Meaning} {e e' : Term} → Contracts m rule.Snd e e'
      → drop at ns ≡ onto e rest → upto ≡ at + taken e → (mid : ℕ) → EndsAt ns (at + 2) mid
      → (mid ≤ upto) × (take (upto - mid) (drop mid ns) ≡ flat e')
  snd_parts (second {a} {b} v w) d u mid f =
      let x = node_at ns at (node Snd 0) (onto (PA a b) rest) d in
      let y = two (node_at ns (at + 1) (node Pair 0) (onto a (onto b rest)) x.on).on in
      let g = f a (onto b rest) y in
      let z = at_place (at + 2 + size a) mid (sym g) (term_at ns (at + 2) a (onto b rest) y).on in
      (omega arith, copied ns mid upto b rest z (omega arith))

  pub case_inl_parts : {m : Meaning} {e e' : Term} → Contracts m rule.CaseInl e e'
      → drop at ns ≡ onto e rest → upto ≡ at + taken e
      → substituted (take (upto - (at + 2)) (drop (at + 2) ns)) (0 ∷ []) (take (length ns - upto) (drop upto ns)) ≡ flat e'
  case_inl_parts (case_inl {t} {e = v} {a} {b} h) d u =
      let x = node_at ns at (node Case 0) (onto (IL t v) (onto a (onto b rest))) d in
      let y = two (node_at ns (at + 1) (node Inl t) (onto v (onto a (onto b rest))) x.on).on in
      let z = term_at ns (at + 2) v (onto a (onto b rest)) y in
      let w = at_place (at + 2 + size v) upto (omega arith) z.on in
      filled ns upto (at + 2) upto a v (onto b rest) (onto a (onto b rest)) w y (omega arith)

  pub case_inr_parts : {m : Meaning} {e e' : Term} → Contracts m rule.CaseInr e e'
      → drop at ns ≡ onto e rest → upto ≡ at + taken e → (right : ℕ) → EndsAt ns upto right
      → substituted (take (upto - (at + 2)) (drop (at + 2) ns)) (0 ∷ []) (take (length ns - right) (drop right ns)) ≡ flat e'
  case_inr_parts (case_inr {t} {e = v} {a} {b} h) d u right f =
      let x = node_at ns at (node Case 0) (onto (IR t v) (onto a (onto b rest))) d in
      let y = two (node_at ns (at + 1) (node Inr t) (onto v (onto a (onto b rest))) x.on).on in
      let z = term_at ns (at + 2) v (onto a (onto b rest)) y in
      let w = at_place (at + 2 + size v) upto (omega arith) z.on in
      let g = f a (onto b rest) w in
      let r = at_place (upto + size a) right (sym g) (term_at ns upto a (onto b rest) w).on in
      filled ns right (at + 2) upto b v rest (onto a (onto b rest)) r y (omega arith)
