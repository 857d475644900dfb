-- Digits of a profile, by shifts, and the first that is too high. Assumes nothing.
use Rattle.std.proofs.Common.{◌≡◌, ℕ, zero, suc, ◌+◌, ◌*◌, ◌/◌, ◌%◌, ◌^◌, ◌<◌, ◌≤◌, Some, None, Option, bit_and, sym, refl, ap, add-one, ◌∙◌, arith, MatchOption}
use Rattle.std.proofs.lemmas.Bool.{cond-true, lt-ltb}
use Rattle.std.proofs.lemmas.Nat.{and_mask, pow-add}
use Rattle.calculus.specs.Meanings.{digit}
use Rattle.hosts.specs.Lines.{question_digit}
use Rattle.hosts.specs.Sheets.{DigitsBelow}

pub asked_digit : (p q : ℕ) → q < 8 → question_digit p q ≡ digit p q
asked_digit p q h = cond-true _ _ _ (lt-ltb q 8 h)

-- four bits make a digit
four_bits : (q : ℕ) → 2 ^ (4 * q) ≡ 16 ^ q
four_bits zero = refl
four_bits (suc q) =
    let e : 4 * suc q ≡ 4 * q + 4 = omega arith in
    ap (λ n. 2 ^ n) e ∙ pow-add 2 (4 * q) 4 ∙ ap (λ n. n * 16) (four_bits q) ∙ sym (pow-add 16 q 1) ∙ ap (λ n. 16 ^ n) (add-one q)

-- the digit that a shift brings down
pub shifted_digit : (p q : ℕ) → q < 8 → bit_and (p / 2 ^ (4 * q)) 15 ≡ question_digit p q
shifted_digit p q h =
    and_mask (p / 2 ^ (4 * q)) 4 ∙ ap (λ n. p / n % 16) (four_bits q) ∙ sym (asked_digit p q h)

-- the first high digit of the eight
pub high_first : (p : ℕ) (r : Option ℕ)
    → MatchOption r ((k : ℕ) → 0 ≤ k → k < 8 → question_digit p k ≤ 4)
    (λ i. (0 ≤ i) × (i < 8) × (4 < question_digit p i) × ((k : ℕ) → 0 ≤ k → k < i → question_digit p k ≤ 4))
    → MatchOption r (DigitsBelow p 8) (λ k. (k < 8) × DigitsBelow p k × (4 < digit p k))
high_first p None a = λ k h. rw (asked_digit p k h) at (a k (omega arith) h)
high_first p (Some i) (z, l, f, a) = (
  l,
  (λ k h. let m : k < 8 = omega arith in rw (asked_digit p k m) at (a k (omega arith) h)),
  rw (asked_digit p i l) at f,
)
