-- A listing of at most most_versions versions is lawful.
--   listed_four     a listing has the questions 0 to 3
--   listed_lawful   its laws, by those of the empty listing: the same profile, and answers of the same shapes
-- Assumes nothing.
use Rattle.std.specs.Prelude.{◌≡◌, ℕ, zero, suc, ◌<◌, ◌≤◌, Bool, true, false, cond, ◌⊎◌, ◌↔◌, List, length, Some, None, Option, nat_eq, nat_le, refl}
use Rattle.std.proofs.Common.{sym, ap, subst, ◌∙◌, arith, lit≤}
use Rattle.std.proofs.lemmas.Bool.{ne_eqb}
use Rattle.std.specs.List.{slice_get}
use Rattle.std.specs.Option.{option_map}
use Rattle.calculus.specs.declared.answer.Answer.{Answer}
use Rattle.calculus.specs.declared.answer.Shape.TheVariants as shape
use Rattle.calculus.specs.Meanings.{Lawful, largest_number, largest_asked, question_shape, answer_shape, Bounded}
use Rattle.calculus.specs.Examples.{empty_answers, empty_listing}
use Rattle.calculus.proofs.EmptyListing.{empty_lawful}
use Rattle.calculus.proofs.Options.{some_injective, cond_some, mapped_some}
use Rattle.hosts.specs.declared.version.Version.{Version}
use Rattle.hosts.specs.Listed.{listed, listed_answers, most_versions, version_age, version_gone, version_name}

age_shape : (today : ℕ) (v : Option Version) → answer_shape (version_age today v) ≡ shape.Maybe
age_shape today None = refl
age_shape today (Some v) = refl

age_bounded : (today : ℕ) (v : Option Version) → Bounded (version_age today v)
age_bounded today None = tt
age_bounded today (Some v) = omega arith

gone_shape : (today : ℕ) (v : Option Version) → answer_shape (version_gone today v) ≡ shape.Flag
gone_shape today None = refl
gone_shape today (Some v) = refl

gone_bounded : (today : ℕ) (v : Option Version) → Bounded (version_gone today v)
gone_bounded today None = tt
gone_bounded today (Some v) = tt

name_shape : (v : Option Version) → answer_shape (version_name v) ≡ shape.Pair
name_shape None = refl
name_shape (Some v) = refl

name_bounded : (v : Option Version) → Bounded (version_name v)
name_bounded None = (lit≤ tt, lit≤ tt)
name_bounded (Some v) = (v.line_fits, v.patch_fits)

none_alike : (o o' : Option Answer) → option_map answer_shape o ≡ option_map answer_shape o' → o ≡ None → o' ≡ None
none_alike o None e p = refl
none_alike o (Some r) e p = cc (sym (ap (option_map answer_shape) p) ∙ e)

pub listed_four : (vs : List Version) (today q n : ℕ) → listed_answers vs today (suc (suc (suc (suc q)))) n ≡ None
listed_four vs today q n =
    let e0 : nat_eq (suc (suc (suc (suc q)))) 0 ≡ false = ne_eqb _ 0 (λ e. omega arith) in
    let e1 : nat_eq (suc (suc (suc (suc q)))) 1 ≡ false = ne_eqb _ 1 (λ e. omega arith) in
    let e2 : nat_eq (suc (suc (suc (suc q)))) 2 ≡ false = ne_eqb _ 2 (λ e. omega arith) in
    let e3 : nat_eq (suc (suc (suc (suc q)))) 3 ≡ false = ne_eqb _ 3 (λ e. omega arith) in
    simp (e0, e1, e2, e3)

module _ (vs : List Version) (today : ℕ) (few : length vs ≤ most_versions) where
  same_shapes : (q n : ℕ) → option_map answer_shape (listed_answers vs today q n) ≡ option_map answer_shape (empty_answers q)
  same_shapes zero n = refl
  same_shapes (suc zero) n = ap Some (age_shape today (slice_get vs n))
  same_shapes (suc (suc zero)) n = ap Some (gone_shape today (slice_get vs n))
  same_shapes (suc (suc (suc zero))) n = ap Some (name_shape (slice_get vs n))
  same_shapes (suc (suc (suc (suc q)))) n = ap (option_map answer_shape) (listed_four vs today q n)

  within : (b : Bool) (o o' : Option Answer) → option_map answer_shape o ≡ option_map answer_shape o'
      → option_map answer_shape (cond b o None) ≡ option_map answer_shape (cond b o' None)
  within true o o' e = e
  within false o o' e = refl

  alike : (q n : ℕ) → option_map answer_shape ((listed vs today).answer q n) ≡ option_map answer_shape (empty_listing.answer q n)
  alike q n = within (nat_le n largest_asked) (listed_answers vs today q n) (empty_answers q) (same_shapes q n)

  missing : (q n : ℕ) → ((listed vs today).answer q n ≡ None) ↔ ((question_shape 0x4231 q ≡ None) ⊎ (largest_asked < n))
  missing q n = (
    λ p. (empty_lawful.missing q n).0 (none_alike ((listed vs today).answer q n) (empty_listing.answer q n) (alike q n) p),
    λ p. none_alike (empty_listing.answer q n) ((listed vs today).answer q n) (sym (alike q n)) ((empty_lawful.missing q n).1 p),
  )

  shaped : (q n : ℕ) (r : Answer) → (listed vs today).answer q n ≡ Some r → question_shape 0x4231 q ≡ Some (answer_shape r)
  shaped q n r p =
      let s = mapped_some answer_shape (empty_listing.answer q n) (sym (alike q n) ∙ ap (option_map answer_shape) p) in
      empty_lawful.shaped q n s.0 s.1 ∙ ap Some s.2

  answers_bounded : (q n : ℕ) (r : Answer) → listed_answers vs today q n ≡ Some r → Bounded r
  answers_bounded zero n r p = let few' : length vs ≤ largest_number = omega arith in subst Bounded (some_injective p) few'
  answers_bounded (suc zero) n r p = subst Bounded (some_injective p) (age_bounded today (slice_get vs n))
  answers_bounded (suc (suc zero)) n r p = subst Bounded (some_injective p) (gone_bounded today (slice_get vs n))
  answers_bounded (suc (suc (suc zero))) n r p = subst Bounded (some_injective p) (name_bounded (slice_get vs n))
  answers_bounded (suc (suc (suc (suc q)))) n r p = cc (sym (listed_four vs today q n) ∙ p)

  pub listed_lawful : Lawful (listed vs today)
  listed_lawful = record {
    profile_fits = empty_lawful.profile_fits;
    digits_low = empty_lawful.digits_low;
    missing = missing;
    shaped = shaped;
    bounded = λ q n r p. answers_bounded q n r (cond_some (nat_le n largest_asked) (listed_answers vs today q n) p).1;
  }
