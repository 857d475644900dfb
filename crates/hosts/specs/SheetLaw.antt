-- A sheet of legal lines is lawful.
--   sheet_lawful   its laws
-- Assumes nothing.
use Rattle.std.specs.Prelude.{◌≡◌, ℕ, zero, suc, ◌^◌, ◌<◌, Bool, true, false, cond, ◌&&◌, ◌⊎◌, ◌↔◌, List, [], ◌∷◌, length, Some, None, Option, ◌==◌, nat_le, refl}
use Rattle.std.proofs.Common.{sym, ap, subst, ◌∙◌, inl, inr, ⊎_elim, arith, lit≤}
use Rattle.std.proofs.Math.Bool.{Bool-set}
use Rattle.std.proofs.Math.Logic.{∥∥₁_elim}
use Rattle.std.proofs.Math.Bridge.{le_prop}
use Rattle.std.specs.List.{slice_get}
use Rattle.std.proofs.lemmas.Bool.{and_parts, cases_Bool, eqb-true, leb-true, leb-false, lt-leb}
use Rattle.calculus.specs.declared.answer.Answer.{Answer}
use Rattle.calculus.specs.declared.answer.Answer.TheVariants as answer
use Rattle.calculus.specs.declared.answer.Shape.{Shape}
use Rattle.calculus.specs.declared.answer.Shape.TheVariants as shape
use Rattle.calculus.specs.Meanings.{Lawful, question_shape, answer_shape, Bounded, largest_number, largest_asked}
use Rattle.calculus.proofs.Options.{some_injective, cond_some}
use Rattle.hosts.specs.declared.line.Line.{Line}
use Rattle.hosts.specs.declared.line.Asked.{Asked}
use Rattle.hosts.specs.Lines.{line_has, shape_legal, legal, legal_line, shape_answer, line_for_lem}
use Rattle.hosts.specs.Sheets.{asked, line_answer, sheet_answers, sheet, LegalSheet}

in_shape : (s : Shape) (a b : ℕ) → answer_shape (shape_answer s a b) ≡ s
in_shape shape.Number a b = refl
in_shape shape.Flag a b = refl
in_shape shape.Maybe a b = refl
in_shape shape.Pair a b = refl

maybe_bounded : (x : Bool) (a b : ℕ) → cond x (b == 0) (a == 1 && nat_le b largest_number) ≡ true
    → Bounded (answer.Maybe (cond x None (Some b)))
maybe_bounded true a b h = tt
maybe_bounded false a b h = leb-true b largest_number (and_parts (a == 1) (nat_le b largest_number) h).1

legal_bounded : (s : Shape) (a b : ℕ) → shape_legal s a b ≡ true → Bounded (shape_answer s a b)
legal_bounded shape.Number a b h = leb-true a largest_number (and_parts (nat_le a largest_number) (b == 0) h).0
legal_bounded shape.Flag a b h = tt
legal_bounded shape.Maybe a b h = maybe_bounded (a == 0) a b h
legal_bounded shape.Pair a b h =
    let both = and_parts (nat_le a largest_number) (nat_le b largest_number) h in
    (leb-true a largest_number both.0, leb-true b largest_number both.1)

zeros_bounded : (s : Shape) → Bounded (shape_answer s 0 0)
zeros_bounded shape.Number = lit≤ tt
zeros_bounded shape.Flag = tt
zeros_bounded shape.Maybe = tt
zeros_bounded shape.Pair = (lit≤ tt, lit≤ tt)

-- an answer in a shape has it, and there is one exactly in a shape
answer_shaped : (s : Option Shape) (l : Option Line) (r : Answer) → line_answer s l ≡ Some r → s ≡ Some (answer_shape r)
answer_shaped None None r p = cc
answer_shaped None (Some l) r p = cc
answer_shaped (Some s) None r p = ap Some (sym (in_shape s 0 0) ∙ ap answer_shape (some_injective p))
answer_shaped (Some s) (Some l) r p = ap Some (sym (in_shape s l.a l.b) ∙ ap answer_shape (some_injective p))

shape_missing : (s : Option Shape) (l : Option Line) → line_answer s l ≡ None → s ≡ None
shape_missing None l p = refl
shape_missing (Some s) None p = cc
shape_missing (Some s) (Some l) p = cc

answer_missing : (s : Option Shape) (l : Option Line) → s ≡ None → line_answer s l ≡ None
answer_missing None None p = refl
answer_missing None (Some l) p = refl
answer_missing (Some s) l p = cc

-- the line for a question and a number is one of the lines, and is for them
line_found : (k : Asked) (ls : List Line) (l : Line) → line_for_lem k ls ≡ Some l
    → ((i : ℕ) × (i < length ls) × (slice_get ls i ≡ Some l)) × (line_has k l ≡ true)
line_found k [] l p = cc
line_found k (m ∷ ls) l p =
    ⊎_elim
    (λ (e : line_has k m ≡ true).
    let f : m ≡ l = some_injective (sym (ap (λ b. cond b (Some m) (line_for_lem k ls)) e) ∙ p) in
    ((zero, omega arith, ap Some f), sym (ap (line_has k) f) ∙ e))
    (λ (e : line_has k m ≡ false).
    let f = line_found k ls l (sym (ap (λ b. cond b (Some m) (line_for_lem k ls)) e) ∙ p) in
    ((suc f.0.0, omega (arith, f.0.1), f.0.2), f.1))
    (cases_Bool (line_has k m))

module _ (p : ℕ) (ls : List Line) (fits : p < 2 ^ 32) (laws : ∥ LegalSheet p ls ∥₁) where
  missing_by : (q n : ℕ) (b : Bool) → nat_le n largest_asked ≡ b → cond b (sheet_answers p ls q n) None ≡ None
      → (question_shape p q ≡ None) ⊎ (largest_asked < n)
  missing_by q n true e h = inl (shape_missing (question_shape p q) (line_for_lem (asked q n) ls) h)
  missing_by q n false e h = inr (leb-false n largest_asked e)

  no_answer : (o : Option Answer) (b : Bool) → o ≡ None → cond b o None ≡ None
  no_answer o true h = h
  no_answer o false h = refl

  missing : (q n : ℕ) → ((sheet p ls).answer q n ≡ None) ↔ ((question_shape p q ≡ None) ⊎ (largest_asked < n))
  missing q n = (
    missing_by q n (nat_le n largest_asked) refl,
    ⊎_elim
        (λ (h : question_shape p q ≡ None).
        no_answer (sheet_answers p ls q n) (nat_le n largest_asked)
        (answer_missing (question_shape p q) (line_for_lem (asked q n) ls) h))
        (λ (h : largest_asked < n). ap (λ b. cond b (sheet_answers p ls q n) None) (lt-leb n largest_asked h)),
  )

  by_line : (s : Option Shape) (l : Option Line) (r : Answer) → line_answer s l ≡ Some r
      → ((m : Line) → l ≡ Some m → legal s m.a m.b ≡ true) → Bounded r
  by_line None None r e h = cc
  by_line None (Some l) r e h = cc
  by_line (Some s) None r e h = subst Bounded (some_injective e) (zeros_bounded s)
  by_line (Some s) (Some l) r e h = subst Bounded (some_injective e) (legal_bounded s l.a l.b (h l refl))

  found_legal : (q n : ℕ) (l : Line) → line_for_lem (asked q n) ls ≡ Some l → legal (question_shape p q) l.a l.b ≡ true
  found_legal q n l e =
      let f = line_found (asked q n) ls l e in
      let at = ∥∥₁_elim laws (Bool-set (legal_line p l) true) λ s. (s.lines_legal f.0.0 l f.0.1 f.0.2).0 in
      let same = eqb-true l.question q (and_parts (l.question == q) (l.number == n) f.1).0 in
      subst (λ x. legal (question_shape p x) l.a l.b ≡ true) same
      (and_parts (nat_le l.number largest_asked) (legal (question_shape p l.question) l.a l.b) at).1

  pub sheet_lawful : Lawful (sheet p ls)
  sheet_lawful = record {
    profile_fits = fits;
    digits_low = λ k h. ∥∥₁_elim laws le_prop λ s. s.digits_low k h;
    missing = missing;
    shaped = λ q n r e.
        answer_shaped (question_shape p q) (line_for_lem (asked q n) ls) r
        (cond_some (nat_le n largest_asked) (sheet_answers p ls q n) e).1;
    bounded = λ q n r e.
        by_line (question_shape p q) (line_for_lem (asked q n) ls) r
        (cond_some (nat_le n largest_asked) (sheet_answers p ls q n) e).1 (found_legal q n);
  }
