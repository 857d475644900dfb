-- The first line for a question and a number; one legal and new line more. Assumes nothing.
use Rattle.std.proofs.Common.{◌≡◌, ℕ, zero, suc, ◌+◌, ◌%◌, ◌^◌, ◌<◌, ◌≤◌, Bool, true, false, cond, List, [], ◌∷◌, length, get_or, take, is_some, Some, None, Option, sym, refl, ap, ◌∙◌, subst, ⊎_elim, arith, lit≤, MatchOption, MatchResult, Result, Ok, Err}
use Rattle.std.specs.Option.{IsSomeAnd}
use Rattle.std.specs.Result.{is_ok}
use native.Mathlib.Nat.{zero-div}
use Rattle.std.specs.List.{slice_get}
use Rattle.std.proofs.lemmas.List.{length-take-le}
use Rattle.std.proofs.lemmas.Option.{slice_get-get_or}
use Rattle.std.proofs.lemmas.Bool.{cases_eq}
use Rattle.refusals.specs.declared.Question.{Question}
use Rattle.refusals.specs.declared.Question.TheVariants.{LineLegal, LineNew}
use Rattle.calculus.proofs.Options.{same_value}
use Rattle.types.specs.First.{Before, First}
use Rattle.hosts.specs.declared.line.Line.{Line}
use Rattle.hosts.specs.declared.line.Asked.{Asked}
use Rattle.hosts.specs.Lines.{line_has, legal_line, line_for_lem}
use Rattle.hosts.specs.Sheets.{most_lines, asked_of, DigitsBelow, LegalBelow, LegalSheet, LineFault, illegal, again, SheetFault, at_line}

later : (p : Line → Bool) (l : Line) (ls : List Line) (i : ℕ) → Before p (l ∷ ls) (suc i) → Before p ls i
later p l ls i b k x h e = b (suc k) x (omega arith) e

passed : (k : Asked) (l : Line) (ls : List Line) → line_has k l ≡ false → line_for_lem k (l ∷ ls) ≡ line_for_lem k ls
passed k l ls e = ap (λ b. cond b (Some l) (line_for_lem k ls)) e

pub line_none : (k : Asked) (ls : List Line) → Before (line_has k) ls (length ls) → None ≡ line_for_lem k ls
line_none k [] b = refl
line_none k (l ∷ ls) b =
    line_none k ls (later (line_has k) l ls (length ls) b) ∙ sym (passed k l ls (b zero l (omega arith) refl))

line_at : (k : Asked) (ls : List Line) (i : ℕ) (l : Line) → slice_get ls i ≡ Some l → line_has k l ≡ true
    → Before (line_has k) ls i → Some l ≡ line_for_lem k ls
line_at k [] i l e t b = cc
line_at k (m ∷ ls) zero l e t b =
    let f : m ≡ l = cc in sym (ap (λ x. cond x (Some m) (line_for_lem k ls)) (ap (line_has k) f ∙ t) ∙ e)
line_at k (m ∷ ls) (suc i) l e t b =
    line_at k ls i l e t (later (line_has k) m ls i b) ∙ sym (passed k m ls (b zero m (omega arith) refl))

pub line_first : (k : Asked) (ls : List Line) (i : ℕ) (d : Line) → First (line_has k) ls (Some i)
    → Some (get_or ls i d) ≡ line_for_lem k ls
line_first k ls i d f = sym (slice_get-get_or ls i d f.0) ∙ f.1.1 ∙ line_at k ls i f.1.0 f.1.1 f.1.2 f.2

-- the line at the place that the search finds, read in a `map`
pub line_mapped : (k : Asked) (ls : List Line) (r : Option ℕ) (o : Option Line) (Reads : ℕ → Line → Type 0)
    → ((i : ℕ) (l : Line) → i < length ls → Reads i l → l ≡ get_or ls i l) → First (line_has k) ls r
    → MatchOption r (o ≡ None) (λ i. IsSomeAnd o (λ l. Reads i l)) → o ≡ line_for_lem k ls
line_mapped k ls None o Reads h f m = m ∙ line_none k ls f
line_mapped k ls (Some i) (Some l) Reads h f m = ap Some (h i l f.0 m) ∙ line_first k ls i l f
line_mapped k ls (Some i) None Reads h f m = absurd m

nth_take : (ls : List Line) (i k : ℕ) → k < i → slice_get (take i ls) k ≡ slice_get ls k
nth_take [] zero k h = refl
nth_take [] (suc i) k h = refl
nth_take (l ∷ ls) zero k h = absurd (omega arith)
nth_take (l ∷ ls) (suc i) zero h = refl
nth_take (l ∷ ls) (suc i) (suc k) h = nth_take ls i k (omega arith)

module _ (p : ℕ) (ls : List Line) (i : ℕ) (d : Line) (lt : i < length ls) (below : LegalBelow p ls i) where
  here : slice_get ls i ≡ Some (get_or ls i d)
  here = slice_get-get_or ls i d lt

  long : length (take i ls) ≡ i
  long = length-take-le i ls (omega arith)

  -- the search for the line's own key
  abbrev Earlier : Asked → Option ℕ → Type 0
  Earlier k r = (k ≡ asked_of (get_or ls i d)) × First (line_has k) (take i ls) r

  part : (k : Asked) (r : Option ℕ) → Earlier k r → First (line_has (asked_of (get_or ls i d))) (take i ls) r
  part k r (e, f) = subst (λ a. First (line_has a) (take i ls) r) e f

  pub line_illegal : legal_line p (get_or ls i d) ≡ false → LineFault p ls (LineLegal i)
  line_illegal e = illegal below here e

  pub line_again : (k : Asked) (r : Option ℕ) → legal_line p (get_or ls i d) ≡ true → Earlier k r → is_some r ≡ true
      → LineFault p ls (LineNew i)
  line_again k None t f e = cc
  line_again k (Some j) t f' e =
      let f = part k (Some j) f' in
      let h : j < i = subst (λ n. j < n) long f.0 in
      again below here t h (sym (nth_take ls i j h) ∙ f.1.1) f.1.2

  abbrev Fine : ℕ → Line → Type 0
  Fine k l = (legal_line p l ≡ true) × Before (line_has (asked_of l)) ls k

  none_earlier : (r : Option ℕ) → First (line_has (asked_of (get_or ls i d))) (take i ls) r → is_some r ≡ false
      → Before (line_has (asked_of (get_or ls i d))) ls i
  none_earlier (Some j) f e = cc
  none_earlier None f e = λ k x h at. f k x (subst (λ n. k < n) (sym long) h) (nth_take ls i k h ∙ at)

  pub legal_more : (key : Asked) (r : Option ℕ) → legal_line p (get_or ls i d) ≡ true → Earlier key r → is_some r ≡ false
      → LegalBelow p ls (i + 1)
  legal_more key r t f n k l h e =
      ⊎_elim
      (λ (q : k ≡ i).
      let at : Fine i l = subst (Fine i) (same_value here (sym (ap (slice_get ls) q) ∙ e)) (t, none_earlier r (part key r f) n) in
      subst (λ j. Fine j l) (sym q) at)
      (λ (ne : k ≡ i → ⊥). below k l (omega arith) e) (cases_eq k i)

-- the questions of a sheet, after the first two
pub then_lines : (p : ℕ) (ls : List Line) (r : Result (Unit {0}) Question) → length ls ≤ most_lines → DigitsBelow p 8
    → MatchResult r (λ _. LegalBelow p ls (length ls)) (λ q. LineFault p ls q)
    → MatchResult r (λ _. LegalSheet p ls) (λ q. SheetFault p ls q)
then_lines p ls (Ok _) few low legal = record { few = few; digits_low = low; lines_legal = legal }
then_lines p ls (Err q) few low fault = at_line few low fault

pub legal_made : (p : ℕ) (ls : List Line) (r : Result (Unit {0}) Question) → is_ok r ≡ true
    → MatchResult r (λ _. LegalSheet p ls) (λ q. SheetFault p ls q) → LegalSheet p ls
legal_made p ls (Ok _) e legal = legal
legal_made p ls (Err q) e fault = cc

pub empty_legal : LegalSheet 0 []
empty_legal = record {
  few = lit≤ tt;
  digits_low = λ k h. subst (λ n. n % 16 ≤ 4) (sym (zero-div (16 ^ k))) (lit≤ tt);
  lines_legal = λ k l h e. cc;
}
