-- What a host means, and the laws of its meaning.
--   largest_number   the largest number in an answer
--   largest_asked    the largest number that a question may be put at
--   Meaning          a host's meaning: a profile, and an answer or none to a question at a number
--   digit            a hexadecimal digit of a profile
--   digit_shape      the shape that a digit stands for
--   question_shape   the shape of a question's answers under a profile, or none where the profile has no such question
--   answer_shape     the shape of an answer
--   Bounded          each number in an answer is at most largest_number
--   Lawful           the laws of a meaning
--   LawfulUnder      the lawful meanings of a profile
--   reply            an answer as a term
-- Assumes nothing.
use Rattle.std.specs.Prelude.{◌≡◌, ℕ, ◌/◌, ◌%◌, ◌^◌, ◌<◌, ◌≤◌, true, false, cond, ◌⊎◌, ◌↔◌, Some, None, Option, ◌==◌, nat_lt}
use Rattle.calculus.specs.declared.answer.Answer.{Answer}
use Rattle.calculus.specs.declared.answer.Answer.TheVariants as answer
use Rattle.calculus.specs.declared.answer.Shape.{Shape}
use Rattle.calculus.specs.declared.answer.Shape.TheVariants as shape
use Rattle.calculus.specs.Syntax.{Term, TR, PA, IL, IR, numeral}

abbrev pub largest_number : ℕ
largest_number = 255

abbrev pub largest_asked : ℕ
largest_asked = 4095

pub record Meaning : Type 0 where
  pub profile : ℕ
  pub answer : ℕ → ℕ → Option Answer

-- digit k of a profile; the lowest is digit 0
abbrev pub digit : ℕ → ℕ → ℕ
digit p k = (p / (16 ^ k)) % 16

abbrev pub digit_shape : ℕ → Option Shape
digit_shape d =
    cond (d == 1) (Some shape.Number)
    (cond (d == 2) (Some shape.Flag) (cond (d == 3) (Some shape.Maybe) (cond (d == 4) (Some shape.Pair) None)))

-- The questions are 0 to 7, and digit q of the profile is for question q.
abbrev pub question_shape : ℕ → ℕ → Option Shape
question_shape p q = cond (nat_lt q 8) (digit_shape (digit p q)) None

abbrev pub answer_shape : Answer → Shape
answer_shape (answer.Number n) = shape.Number
answer_shape (answer.Flag b) = shape.Flag
answer_shape (answer.Maybe o) = shape.Maybe
answer_shape (answer.Pair m n) = shape.Pair

abbrev pub Bounded : Answer → Type 0
Bounded (answer.Number n) = n ≤ largest_number
Bounded (answer.Flag b) = Unit {0}
Bounded (answer.Maybe None) = Unit {0}
Bounded (answer.Maybe (Some n)) = n ≤ largest_number
Bounded (answer.Pair m n) = (m ≤ largest_number) × (n ≤ largest_number)

pub record Lawful (m : Meaning) : Type 0 where
  -- the profile is eight hexadecimal digits, each at most 4
  pub profile_fits : m.profile < 2 ^ 32
  pub digits_low : (k : ℕ) → k < 8 → digit m.profile k ≤ 4
  -- an answer is missing exactly where the profile has no such question or the number is above largest_asked
  pub missing : (q n : ℕ) → (m.answer q n ≡ None) ↔ ((question_shape m.profile q ≡ None) ⊎ (largest_asked < n))
  -- an answer has its question's shape
  pub shaped : (q n : ℕ) (r : Answer) → m.answer q n ≡ Some r → question_shape m.profile q ≡ Some (answer_shape r)
  pub bounded : (q n : ℕ) (r : Answer) → m.answer q n ≡ Some r → Bounded r

abbrev pub LawfulUnder : ℕ → Meaning → Type 0
LawfulUnder profile m = Lawful m × (m.profile ≡ profile)

-- no is inl triv and yes is inr triv of unit + unit; absent is inl triv and present is inr of unit + nat. The number of IL
-- and IR is the type of the other side: 0 is nat, 1 is unit.
abbrev pub reply : Answer → Term
reply (answer.Number n) = numeral n
reply (answer.Flag false) = IL 1 TR
reply (answer.Flag true) = IR 1 TR
reply (answer.Maybe None) = IL 0 TR
reply (answer.Maybe (Some n)) = IR 1 (numeral n)
reply (answer.Pair m n) = PA (numeral m) (numeral n)
