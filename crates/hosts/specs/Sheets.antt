-- What a sheet means, which sheets there are, and the first fault of a profile and lines.
--   most_lines       the most lines of a sheet
--   asked            a question at a number
--   asked_of         what a line is for
--   line_answer      the answer of a line, or of 0 and 0 without a line, in a shape or none
--   sheet_answers    what a sheet answers to a question at a number: its line's answer, or that of 0 and 0 without a line
--   sheet            the meaning of a sheet
--   DigitsBelow      the digits of a profile below a place are at most 4
--   LegalBelow       each line below a place is legal, and no line before it is for the same question and number
--   LegalSheet       a profile and lines that a sheet may have
--   LineFault        the first line at fault, by the question that it fails
--   SheetFault       the first question that a profile and lines fail
--   ExactFault       a profile and lines fail one question first, or make a sheet, and not both
-- Assumes nothing.
use Rattle.std.specs.Prelude.{◌≡◌, ℕ, ◌<◌, ◌≤◌, true, false, cond, List, length, Some, None, Option, nat_le}
use Rattle.std.specs.List.{slice_get}
use Rattle.calculus.specs.declared.answer.Answer.{Answer}
use Rattle.refusals.specs.declared.Question.{Question}
use Rattle.refusals.specs.declared.Question.TheVariants.{LineRoom, ProfileDigit, LineLegal, LineNew}
use Rattle.calculus.specs.declared.answer.Shape.{Shape}
use Rattle.calculus.specs.Meanings.{Meaning, digit, question_shape, largest_asked}
use Rattle.types.specs.First.{Before}
use Rattle.hosts.specs.declared.line.Line.{Line}
use Rattle.hosts.specs.declared.line.Asked.{Asked}
use Rattle.hosts.specs.Lines.{line_has, legal_line, answer_in, line_for_lem}

abbrev pub most_lines : ℕ
most_lines = 1024

abbrev pub asked : ℕ → ℕ → Asked
asked q n = record { question = q; number = n }

abbrev pub asked_of : Line → Asked
asked_of l = asked l.question l.number

abbrev pub line_answer : Option Shape → Option Line → Option Answer
line_answer s None = answer_in s 0 0
line_answer s (Some l) = answer_in s l.a l.b

abbrev pub sheet_answers : ℕ → List Line → ℕ → ℕ → Option Answer
sheet_answers p ls q n = line_answer (question_shape p q) (line_for_lem (asked q n) ls)

abbrev pub sheet : ℕ → List Line → Meaning
sheet p ls = record { profile = p; answer = λ q n. cond (nat_le n largest_asked) (sheet_answers p ls q n) None }

abbrev pub DigitsBelow : ℕ → ℕ → Type 0
DigitsBelow p i = (k : ℕ) → k < i → digit p k ≤ 4

abbrev pub LegalBelow : ℕ → List Line → ℕ → Type 0
LegalBelow p ls i =
    (k : ℕ) (l : Line) → k < i → slice_get ls k ≡ Some l → (legal_line p l ≡ true) × Before (line_has (asked_of l)) ls k

pub record LegalSheet (p : ℕ) (ls : List Line) : Type 0 where
  pub few : length ls ≤ most_lines
  pub digits_low : DigitsBelow p 8
  pub lines_legal : LegalBelow p ls (length ls)

pub data LineFault (p : ℕ) (ls : List Line) : Question → Type 0 where
  illegal : {i : ℕ} {l : Line} → LegalBelow p ls i → slice_get ls i ≡ Some l → legal_line p l ≡ false
      → LineFault p ls (LineLegal i)
  again : {i j : ℕ} {l m : Line} → LegalBelow p ls i → slice_get ls i ≡ Some l → legal_line p l ≡ true
      → j < i → slice_get ls j ≡ Some m → line_has (asked_of l) m ≡ true → LineFault p ls (LineNew i)

pub data SheetFault (p : ℕ) (ls : List Line) : Question → Type 0 where
  many_lines : most_lines < length ls → SheetFault p ls LineRoom
  high_digit : {k : ℕ} → length ls ≤ most_lines → k < 8 → DigitsBelow p k → 4 < digit p k
      → SheetFault p ls (ProfileDigit k)
  at_line : {q : Question} → length ls ≤ most_lines → DigitsBelow p 8 → LineFault p ls q → SheetFault p ls q

abbrev pub ExactFault : ℕ → List Line → Type 0
ExactFault p ls =
    ((q r : Question) → SheetFault p ls q → SheetFault p ls r → q ≡ r)
    × ((q : Question) → SheetFault p ls q → LegalSheet p ls → ⊥)
