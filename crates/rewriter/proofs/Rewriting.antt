-- From the three parts that are written to the next term.
--   standing     the redex of a site stands there, and contracts under each lawful meaning
--   within       where the second part ends
--   too_long     a second part that does not fit makes the next term longer than the table
--   rewritten    what the three parts leave
use Rattle.std.proofs.Common.{◌≡◌, ℕ, ◌+◌, ◌-◌, ◌≤◌, List, [], ◌++◌, length, take, drop, Some, None, Option, sym, ap, ◌∙◌, subst, arith}
use borrow.Rule.Slice.PartMut.{put_mid}
use Rattle.std.proofs.lemmas.List.{take_at, drop_at, drop-drop, take_rest}
use Rattle.calculus.specs.declared.node.Node.{Node}
use Rattle.calculus.specs.Meanings.{Meaning, LawfulUnder}
use Rattle.calculus.specs.Steps.{Step}
use Rattle.calculus.specs.Syntax.{Term, onto, flat, size}
use Rattle.calculus.proofs.Reading.{read_once, length_flat, drop_onto}
use Rattle.rewriter.specs.declared.site.Site.{Site}
use Rattle.rewriter.specs.Contexts.{plug}
use Rattle.rewriter.specs.Redexes.{RedexAt}
use Rattle.rewriter.specs.Rewrites.{StandsAt, Replaces, Rewritten}
use Rattle.rewriter.specs.Writes.{Wrote}
use Rattle.rewriter.proofs.Flats.{onto_flat}
use Rattle.rewriter.proofs.Plugs.{before, behind, flat_plug, before_length, steps_at}
use Rattle.rewriter.proofs.Decisions.{contracts_step}
use Rattle.rewriter.proofs.Writings.{wrote_seq, wrote_none, wrote_part, wrote_whole, length_put, length_rest}

module _ {profile : ℕ} {ns : List Node} {site : Site} (x : RedexAt profile ns site) (m : Meaning) (l : LawfulUnder profile m) where
  split : (e : Term) → flat (plug x.context e) ≡ before x.context [] ++ onto e (behind x.context [])
  split e = flat_plug x.context e

  long : length (before x.context []) ≡ site.at
  long = before_length x.context ∙ sym x.begins

  there : drop site.at ns ≡ onto x.redex (behind x.context [])
  there = ap (drop site.at) (sym x.whole ∙ split x.redex) ∙ drop_at (before x.context []) _ site.at long

  first_part : take site.at ns ≡ before x.context []
  first_part = ap (take site.at) (sym x.whole ∙ split x.redex) ∙ take_at (before x.context []) _ site.at long

  last_part : drop site.end ns ≡ behind x.context []
  last_part =
      ap (λ j. drop j ns) x.ends ∙ sym (drop-drop (size x.redex) site.at ns) ∙ ap (drop (size x.redex)) there
      ∙ drop_onto x.redex (behind x.context [])

  pub standing : StandsAt m ns site
  standing = record {
    redex = x.redex;
    new = (x.contracts m l).0;
    rest = behind x.context [];
    there = there;
    values_end = x.values_end;
    ends = x.ends;
    contracts = (x.contracts m l).1;
  }

  -- what the redex becomes, and the next term
  abbrev new : Term
  new = (x.contracts m l).0

  abbrev next : Term
  next = plug x.context new

  next_flat : flat next ≡ take site.at ns ++ (flat new ++ drop site.end ns)
  next_flat =
      split new ∙ ap (λ z. z ++ onto new (behind x.context [])) (sym first_part)
      ∙ ap (λ z. take site.at ns ++ z) (onto_flat new (behind x.context []) ∙ ap (λ z. flat new ++ z) (sym last_part))

  next_step : (t : Term) → flat t ≡ ns → Step m t next
  next_step t is =
      let q : plug x.context x.redex ≡ t = (read_once (plug x.context x.redex) t [] [] (x.whole ∙ sym is)).0 in
      subst (λ z. Step m z next) q (steps_at m x.context (contracts_step (x.contracts m l).1))

  by_wrote : (was now : List Node) (r : Option ℕ) → Wrote was 0 (flat next) now r
      → (t : Term) → flat t ≡ ns → Rewritten m t was now r
  by_wrote was now None w t is = (next, next_step t is, omega (arith, length_flat next))
  by_wrote was now (Some n) w t is =
      (next, next_step t is, omega (arith, length_flat next), w.1, wrote_whole was now (flat next) n w)

  -- the table before, with the first part, with what is written to its rest, and after
  module _ (was one part : List Node) (h : ℕ) (same : length one ≡ length was)
      (kept : length part ≡ length (take (length one - h) (drop h one)))
      (front : Wrote was 0 (take site.at ns) one (Some h))
    where
      fits : h ≤ length one
      fits = omega arith

      -- what was written to the rest fits there
      pub within : (k : ℕ) → Replaces m ns site (take (length one - h) (drop h one)) part (Some k) → h + k ≤ length was
      within k w =
          let v = w x.redex new _ there (x.contracts m l).1 in omega (arith, v.1, length_rest one h)

      pub too_long : Replaces m ns site (take (length one - h) (drop h one)) part None
          → (t : Term) → flat t ≡ ns → Rewritten m t was one None
      too_long w =
          by_wrote was one None
          (subst (λ z. Wrote was 0 z one None) (sym next_flat)
          (wrote_seq was one one (take site.at ns) _ 0 h None same front
          (wrote_none one one (flat new) (drop site.end ns) h
          (wrote_part one part (flat new) h None fits kept (w x.redex new _ there (x.contracts m l).1)))))

      pub rewritten : (now : List Node) (k : ℕ) (r : Option ℕ)
          → Replaces m ns site (take (length one - h) (drop h one)) part (Some k)
          → Wrote (put_mid h (length one - h) one part) (h + k) (take (length ns - site.end) (drop site.end ns)) now r
          → (t : Term) → flat t ≡ ns → Rewritten m t was now r
      rewritten now k r w v =
          by_wrote was now r
          (subst (λ z. Wrote was 0 z now r) (sym next_flat)
          (wrote_seq was one now (take site.at ns) _ 0 h r same front
          (wrote_seq one (put_mid h (length one - h) one part) now (flat new) (drop site.end ns) h (h + k) r
          (length_put one part h fits kept)
          (wrote_part one part (flat new) h (Some k) fits kept (w x.redex new _ there (x.contracts m l).1))
          (subst (λ z. Wrote (put_mid h (length one - h) one part) (h + k) z now r) (take_rest ns site.end) v))))
