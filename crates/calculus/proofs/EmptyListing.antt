-- The meaning of a listing without versions is lawful.
use Rattle.std.proofs.Common.{◌≡◌, ℕ, zero, suc, ◌<◌, ◌≤◌, Bool, true, false, cond, leb, ◌⊎◌, ◌↔◌, Some, None, refl, ap, subst, inl, inr, ⊎_elim, arith, lit<, lit≤, le-ltb, leb-false}
use borrow.Author.Tests.{lt-leb}
use Rattle.calculus.specs.declared.answer.Answer.{Answer}
use Rattle.calculus.specs.Meanings.{Lawful, largest_asked, digit, digit_shape, question_shape, answer_shape, Bounded}
use Rattle.calculus.specs.Examples.{empty_answers, empty_listing}
use Rattle.calculus.proofs.Options.{some_injective, cond_some}

digits_low : (k : ℕ) → k < 8 → digit 0x4231 k ≤ 4
digits_low zero h = lit≤ tt
digits_low (suc zero) h = lit≤ tt
digits_low (suc (suc zero)) h = lit≤ tt
digits_low (suc (suc (suc zero))) h = lit≤ tt
digits_low (suc (suc (suc (suc zero)))) h = lit≤ tt
digits_low (suc (suc (suc (suc (suc zero))))) h = lit≤ tt
digits_low (suc (suc (suc (suc (suc (suc zero)))))) h = lit≤ tt
digits_low (suc (suc (suc (suc (suc (suc (suc zero))))))) h = lit≤ tt
digits_low (suc (suc (suc (suc (suc (suc (suc (suc k)))))))) h = absurd (omega arith)

-- there is no question above 7
pub question_past : (p q : ℕ) → 8 ≤ q → question_shape p q ≡ None
question_past p q h = ap (λ (b : Bool). cond b (digit_shape (digit p q)) None) (le-ltb q 8 h)

unanswered : (q : ℕ) → (empty_answers q ≡ None) ↔ (question_shape 0x4231 q ≡ None)
unanswered zero = (λ p. cc, λ p. cc)
unanswered (suc zero) = (λ p. cc, λ p. cc)
unanswered (suc (suc zero)) = (λ p. cc, λ p. cc)
unanswered (suc (suc (suc zero))) = (λ p. cc, λ p. cc)
unanswered (suc (suc (suc (suc zero)))) = (λ p. refl, λ p. refl)
unanswered (suc (suc (suc (suc (suc zero))))) = (λ p. refl, λ p. refl)
unanswered (suc (suc (suc (suc (suc (suc zero)))))) = (λ p. refl, λ p. refl)
unanswered (suc (suc (suc (suc (suc (suc (suc zero))))))) = (λ p. refl, λ p. refl)
unanswered (suc (suc (suc (suc (suc (suc (suc (suc q)))))))) =
    (λ p. question_past 0x4231 (suc (suc (suc (suc (suc (suc (suc (suc q)))))))) (omega arith), λ p. refl)

missing_by : (q n : ℕ) (b : Bool) → leb n largest_asked ≡ b → cond b (empty_answers q) None ≡ None
    → (question_shape 0x4231 q ≡ None) ⊎ (largest_asked < n)
missing_by q n true e p = inl ((unanswered q).0 p)
missing_by q n false e p = inr (leb-false n largest_asked e)

no_answer : (q : ℕ) (b : Bool) → empty_answers q ≡ None → cond b (empty_answers q) None ≡ None
no_answer q true p = p
no_answer q false p = refl

missing : (q n : ℕ) → (empty_listing.answer q n ≡ None) ↔ ((question_shape 0x4231 q ≡ None) ⊎ (largest_asked < n))
missing q n = (
  missing_by q n (leb n largest_asked) refl,
  ⊎_elim (λ (x : question_shape 0x4231 q ≡ None). no_answer q (leb n largest_asked) ((unanswered q).1 x))
      (λ (x : largest_asked < n). ap (λ (b : Bool). cond b (empty_answers q) None) (lt-leb n largest_asked x)),
)

answers_shaped : (q : ℕ) (r : Answer) → empty_answers q ≡ Some r → question_shape 0x4231 q ≡ Some (answer_shape r)
answers_shaped zero r p = ap (λ x. Some (answer_shape x)) (some_injective p)
answers_shaped (suc zero) r p = ap (λ x. Some (answer_shape x)) (some_injective p)
answers_shaped (suc (suc zero)) r p = ap (λ x. Some (answer_shape x)) (some_injective p)
answers_shaped (suc (suc (suc zero))) r p = ap (λ x. Some (answer_shape x)) (some_injective p)
answers_shaped (suc (suc (suc (suc q)))) r p = cc

answers_bounded : (q : ℕ) (r : Answer) → empty_answers q ≡ Some r → Bounded r
answers_bounded zero r p = subst Bounded (some_injective p) (lit≤ tt)
answers_bounded (suc zero) r p = subst Bounded (some_injective p) tt
answers_bounded (suc (suc zero)) r p = subst Bounded (some_injective p) tt
answers_bounded (suc (suc (suc zero))) r p = subst Bounded (some_injective p) (lit≤ tt, lit≤ tt)
answers_bounded (suc (suc (suc (suc q)))) r p = cc

pub empty_lawful : Lawful empty_listing
empty_lawful = record {
  profile_fits = lit< tt;
  digits_low = digits_low;
  missing = missing;
  shaped = λ q n r p. answers_shaped q r (cond_some (leb n largest_asked) (empty_answers q) p).1;
  bounded = λ q n r p. answers_bounded q r (cond_some (leb n largest_asked) (empty_answers q) p).1;
}
