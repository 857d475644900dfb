-- A profile and lines fail one question first, or make a sheet, and not both. Assumes nothing.
use Rattle.std.proofs.Common.{◌≡◌, ℕ, ◌<◌, ◌≤◌, cond, List, length, Some, sym, refl, ap, ◌∙◌, ⊎_elim, arith}
use Rattle.std.specs.List.{slice_get}
use Rattle.std.proofs.lemmas.Option.{slice_get_past}
use Rattle.std.proofs.lemmas.Bool.{both_ways, cases_lt, cases_order}
use Rattle.refusals.specs.declared.Question.{Question}
use Rattle.refusals.specs.declared.Question.TheVariants.{ProfileDigit, LineLegal, LineNew}
use Rattle.calculus.proofs.Options.{same_value}
use Rattle.hosts.specs.declared.line.Line.{Line}
use Rattle.hosts.specs.Lines.{legal_line}
use Rattle.hosts.specs.Sheets.{LegalBelow, LegalSheet, LineFault, illegal, again, SheetFault, many_lines, high_digit, at_line, ExactFault}

module _ (p : ℕ) (ls : List Line) where
  within : (i : ℕ) (l : Line) → slice_get ls i ≡ Some l → i < length ls
  within i l e =
      ⊎_elim (λ (h : i < length ls). h) (λ (h : length ls ≤ i). cc (sym (slice_get_past ls i h) ∙ e)) (cases_lt i (length ls))

  -- a line at fault: its place, and the question by its own test
  record At (q : Question) : Type 0 where
    place : ℕ
    line : Line
    there : slice_get ls place ≡ Some line
    question : q ≡ cond (legal_line p line) (LineNew place) (LineLegal place)
    before : LegalBelow p ls place
    not_past : (j : ℕ) → place < j → LegalBelow p ls j → ⊥

  fault_at : (q : Question) → LineFault p ls q → At q
  fault_at _ (illegal {i} {l} b e f) = record {
    place = i;
    line = l;
    there = e;
    question = ap (λ x. cond x (LineNew i) (LineLegal i)) (sym f);
    before = b;
    not_past = λ j h legal. both_ways (legal_line p l) f (legal i l h e).0;
  }
  fault_at _ (again {i} {j = k} {l} {m} b e t h e' same) = record {
    place = i;
    line = l;
    there = e;
    question = ap (λ x. cond x (LineNew i) (LineLegal i)) (sym t);
    before = b;
    not_past = λ j lt legal. both_ways _ ((legal i l lt e).1 k m h e') same;
  }

  same_place : {q r : Question} (x : At q) (y : At r) → x.place ≡ y.place
  same_place x y =
      ⊎_elim (λ (e : x.place ≡ y.place). e)
      (⊎_elim (λ (h : x.place < y.place). absurd (x.not_past y.place h y.before))
      (λ (h : y.place < x.place). absurd (y.not_past x.place h x.before)))
      (cases_order x.place y.place)

  one_line : (q r : Question) → LineFault p ls q → LineFault p ls r → q ≡ r
  one_line q r f g =
      let x = fault_at q f in
      let y = fault_at r g in
      let i = same_place x y in
      let l = same_value x.there (ap (slice_get ls) i ∙ y.there) in
      x.question ∙ ap (λ k. cond (legal_line p x.line) (LineNew k) (LineLegal k)) i
      ∙ ap (λ m. cond (legal_line p m) (LineNew y.place) (LineLegal y.place)) l ∙ sym y.question

  one_fault : (q r : Question) → SheetFault p ls q → SheetFault p ls r → q ≡ r
  one_fault _ _ (many_lines h) (many_lines h') = refl
  one_fault _ _ (many_lines h) (high_digit few k b d) = absurd (omega arith)
  one_fault _ _ (many_lines h) (at_line few low f) = absurd (omega arith)
  one_fault _ _ (high_digit few k b d) (many_lines h) = absurd (omega arith)
  one_fault _ _ (high_digit {k} few h b d) (high_digit {k = k'} few' h' b' d') =
      ⊎_elim (λ (e : k ≡ k'). ap ProfileDigit e)
      (⊎_elim (λ (lt : k < k'). absurd (omega (arith, b' k lt))) (λ (lt : k' < k). absurd (omega (arith, b k' lt))))
      (cases_order k k')
  one_fault _ _ (high_digit {k} few h b d) (at_line few' low f) = absurd (omega (arith, low k h))
  one_fault _ _ (at_line few low f) (many_lines h) = absurd (omega arith)
  one_fault _ _ (at_line few low f) (high_digit {k} few' h b d) = absurd (omega (arith, low k h))
  one_fault q r (at_line few low f) (at_line few' low' g) = one_line q r f g

  no_fault : (q : Question) → SheetFault p ls q → LegalSheet p ls → ⊥
  no_fault _ (many_lines h) s = omega (arith, s.few)
  no_fault _ (high_digit {k} few h b d) s = omega (arith, s.digits_low k h)
  no_fault q (at_line few low f) s =
      let x = fault_at q f in x.not_past (length ls) (within x.place x.line x.there) s.lines_legal

  pub exact_fault : ExactFault p ls
  exact_fault = (one_fault, no_fault)
