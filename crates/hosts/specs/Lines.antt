-- Lines of a sheet.
--   question_digit   the digit of a question in a profile, or 0 for a question above 7
--   line_has         whether a line is for a question at a number
--   shape_legal      whether a and b are an answer in a shape
--   legal            the same in a shape or none; in none they are no answer
--   legal_line       whether a line is legal by a profile: its question is there, its number may be asked, its answer is legal
--   shape_answer     the answer that a and b are in a shape
--   answer_in        the same in a shape or none
--   line_for_lem     the first line for a question at a number, or none
-- Assumes nothing.
use Rattle.std.specs.Prelude.{ℕ, Bool, false, cond, ◌&&◌, List, [], ◌∷◌, Some, None, Option, ◌==◌, nat_le, nat_lt}
use Rattle.calculus.specs.declared.answer.Answer.{Answer}
use Rattle.calculus.specs.declared.answer.Answer.TheVariants as answer
use Rattle.calculus.specs.declared.answer.Shape.{Shape}
use Rattle.calculus.specs.declared.answer.Shape.TheVariants as shape
use Rattle.calculus.specs.Meanings.{digit, question_shape, largest_number, largest_asked}
use Rattle.hosts.specs.declared.line.Line.{Line}
use Rattle.hosts.specs.declared.line.Asked.{Asked}

abbrev pub question_digit : ℕ → ℕ → ℕ
question_digit p q = cond (nat_lt q 8) (digit p q) 0

abbrev pub line_has : Asked → Line → Bool
line_has k l = l.question == k.question && l.number == k.number

abbrev pub shape_legal : Shape → ℕ → ℕ → Bool
shape_legal shape.Number a b = nat_le a largest_number && b == 0
shape_legal shape.Flag a b = nat_le a 1 && b == 0
shape_legal shape.Maybe a b = cond (a == 0) (b == 0) (a == 1 && nat_le b largest_number)
shape_legal shape.Pair a b = nat_le a largest_number && nat_le b largest_number

abbrev pub legal : Option Shape → ℕ → ℕ → Bool
legal None a b = false
legal (Some s) a b = shape_legal s a b

abbrev pub legal_line : ℕ → Line → Bool
legal_line p l = nat_le l.number largest_asked && legal (question_shape p l.question) l.a l.b

abbrev pub shape_answer : Shape → ℕ → ℕ → Answer
shape_answer shape.Number a b = answer.Number a
shape_answer shape.Flag a b = answer.Flag (a == 1)
shape_answer shape.Maybe a b = answer.Maybe (cond (a == 0) None (Some b))
shape_answer shape.Pair a b = answer.Pair a b

abbrev pub answer_in : Option Shape → ℕ → ℕ → Option Answer
answer_in None a b = None
answer_in (Some s) a b = Some (shape_answer s a b)

abbrev pub line_for_lem : Asked → List Line → Option Line
line_for_lem k [] = None
line_for_lem k (l ∷ ls) = cond (line_has k l) (Some l) (line_for_lem k ls)
