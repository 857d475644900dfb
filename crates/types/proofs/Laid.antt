-- When entries are equal, when one occurs in a list, and when entries are laid down. Assumes nothing.
use Rattle.std.proofs.Common.{◌≡◌, ℕ, zero, suc, ◌<◌, ◌≤◌, Bool, true, false, List, [], ◌∷◌, ◌++◌, length, get_or, take, is_some, Some, None, Decides, Option, sym, refl, ap, ◌∙◌, ⊎_elim, zero-add, MatchOption, arith}
use Rattle.std.specs.List.{ContainsAt as Has, AllWithin, HoldsAt, enumerate_from}
use Rattle.std.proofs.Math.Seq.{take-suc}
use Rattle.std.proofs.lemmas.List.FromFn.{get_or-enumerate_from, length-enumerate_from}
use Rattle.std.proofs.lemmas.List.{get_or_append_left, get_or_default, get_or_push, get_or-take, length-append, length_push, length-take-le, take_all}
use Rattle.std.proofs.lemmas.Option.{slice_get-get_or}
use Rattle.std.proofs.lemmas.Bool.{both_ways, cases_Bool, cases_lt, cond-false, cond-true, le-ltb, lt-ltb}
use Rattle.std.proofs.lemmas.Bool.Decides.{Decides-and, Decides-at, Decides-by_or, Decides-eqb, Decides-like, Decides-ltb, Decides-not, not_from_Decides}
use Rattle.calculus.specs.declared.entry.Entry.{Entry}
use Rattle.calculus.specs.declared.form.Form.{Form}
use Rattle.calculus.specs.declared.form.Form.TheVariants as form
use Rattle.calculus.specs.Forms.{form_number, joins, entry, empty}
use Rattle.types.specs.First.{First}
use Rattle.calculus.specs.Tables.{given_entries, same_entry, occurs, laid, LaidDown, TableJudged}

-- Forms with one number are equal.

abbrev forms : List Form
forms =
    form.Blank ∷ (form.Nat ∷ (form.Unit ∷ (form.Void ∷ (form.Function ∷ (form.Product ∷ (form.Sum ∷ []))))))

form_at : (f : Form) → get_or forms (form_number f) form.Blank ≡ f
form_at form.Blank = refl
form_at form.Nat = refl
form_at form.Unit = refl
form_at form.Void = refl
form_at form.Function = refl
form_at form.Product = refl
form_at form.Sum = refl

same_form : (f g : Form) → form_number f ≡ form_number g → f ≡ g
same_form f g e = sym (form_at f) ∙ ap (λ n. get_or forms n form.Blank) e ∙ form_at g

-- Equal entries.

same_parts : {f g : Form} {l m r s : ℕ} → f ≡ g → l ≡ m → r ≡ s → entry f l r ≡ entry g m s
same_parts p q t = λ i. entry (p i) (q i) (t i)

pub same_decides : (k e : Entry) → Decides (same_entry k e) (k ≡ e)
same_decides k e =
    Decides-like (same_entry k e)
    (λ h. same_parts (same_form k.form e.form (sym h.0)) (sym h.1.0) (sym h.1.1))
    (λ q. (ap (λ x. form_number x.form) (sym q), (ap (λ x. x.left) (sym q), ap (λ x. x.right) (sym q))))
    (Decides-and _ _ (Decides-eqb _ _) (Decides-and _ _ (Decides-eqb _ _) (Decides-eqb _ _)))

pub same_entry_is : (k e : Entry) → same_entry k e ≡ true → k ≡ e
same_entry_is k e = (same_decides k e).0

-- Entries that occur in a list.

pub occurs_decides : (k : Entry) (es : List Entry) → Decides (occurs k es) (Has es k)
occurs_decides k es =
    Decides-by_or (same_entry k) (λ e. e ≡ k) (occurs k)
    (λ e. Decides-like (same_entry k e) sym sym (same_decides k e)) refl (λ _ _. refl) es

pub occurs_none : (k : Entry) (es : List Entry) → occurs k es ≡ false
    → (i : ℕ) → i < length es → get_or es i empty ≡ k → ⊥
occurs_none k es o i h q =
    not_from_Decides (occurs k es) (occurs_decides k es) o (i, h, λ d. get_or_default es i d empty h ∙ q)

pub occurs_absent : (k : Entry) (es : List Entry)
    → ((i : ℕ) → i < length es → get_or es i empty ≡ k → ⊥) → occurs k es ≡ false
occurs_absent k es a =
    ⊎_elim (λ (o : occurs k es ≡ true). let (i, h, q) = (occurs_decides k es).0 o in absurd (a i h (q empty)))
    (λ (o : occurs k es ≡ false). o) (cases_Bool (occurs k es))

pub occurs_first : (k : Entry) (es : List Entry) (r : Option ℕ) → First (same_entry k) es r → occurs k es ≡ is_some r
occurs_first k es None b =
    occurs_absent k es
    (λ i h q. both_ways (same_entry k (get_or es i empty)) (b i _ h (slice_get-get_or es i empty h)) ((same_decides k _).1 (sym q)))
occurs_first k es (Some i) (h, (e, n, s), b) =
    (occurs_decides k es).1 (i, h, λ d. let p = same_entry_is k e s in let q = slice_get-get_or es i d h in cc)

-- The given six.

-- each differs from those before it
new_given : (i : ℕ) → i < 6 → occurs (get_or given_entries i empty) (take i given_entries) ≡ false
new_given zero h = refl
new_given (suc zero) h = refl
new_given (suc (suc zero)) h = refl
new_given (suc (suc (suc zero))) h = refl
new_given (suc (suc (suc (suc zero)))) h = refl
new_given (suc (suc (suc (suc (suc zero))))) h = refl
new_given (suc (suc (suc (suc (suc (suc i)))))) h = absurd (omega arith)

given_apart : (i j : ℕ) → i < j → j < 6 → get_or given_entries i empty ≡ get_or given_entries j empty → ⊥
given_apart i j h l q =
    let n = length-take-le j given_entries (omega arith) in
    occurs_none _ (take j given_entries) (new_given j l) i (omega arith) (get_or-take j given_entries i empty h ∙ q)

pub laid_given : LaidDown given_entries
laid_given = record {
  begins = λ i h l. refl;
  joined = λ i h l. absurd (omega arith);
  apart = given_apart;
}

-- Fewer entries, and one more.

pub laid_front : (es fs : List Entry) → LaidDown (es ++ fs) → LaidDown es
laid_front es fs d = record {
  begins = λ i h l. sym (at i l) ∙ d.begins i h (within i l);
  joined = λ i h l. rw (at i l) at (d.joined i h (within i l));
  apart = λ i j h l q. d.apart i j h (within j l) (at i (omega arith) ∙ q ∙ sym (at j l));
}
  where
    at : (i : ℕ) → i < length es → get_or (es ++ fs) i empty ≡ get_or es i empty
    at = get_or_append_left es fs empty

    within : (i : ℕ) → i < length es → i < length (es ++ fs)
    within i l = omega (arith, length-append es fs)

-- what `laid` answers at a given place
laid_is : (es : List Entry) (e : Entry) → length es < 6
    → laid es e ≡ same_entry (get_or given_entries (length es) empty) e
laid_is es e h = cond-true _ _ _ (lt-ltb (length es) 6 h)

-- what `laid` decides at a given place, and at a later one
laid_low : (es : List Entry) (e : Entry) → length es < 6
    → Decides (laid es e) (get_or given_entries (length es) empty ≡ e)
laid_low es e h = Decides-at (laid es e) _ (laid_is es e h) (same_decides _ e)

laid_high : (es : List Entry) (e : Entry) → 6 ≤ length es
    → Decides (laid es e)
    ((joins e.form ≡ true) × (((e.left < length es) × (e.right < length es)) × (Has es e → ⊥)))
laid_high es e h =
    Decides-at (laid es e) _ (cond-false _ _ _ (le-ltb (length es) 6 h))
    (Decides-and _ _ (λ j. j, λ j. j)
    (Decides-and _ _ (Decides-and _ _ (Decides-ltb _ _) (Decides-ltb _ _)) (Decides-not _ (occurs_decides e es))))

pub laid_last : (es : List Entry) (e : Entry) → LaidDown (es ++ (e ∷ [])) → laid es e ≡ true
laid_last es e d =
    ⊎_elim (λ (h : length es < 6). (laid_low es e h).1 (sym (d.begins (length es) h in') ∙ last))
    (λ (h : 6 ≤ length es). let j = rw last at (d.joined (length es) h in') in
    (laid_high es e h).1 (j.0, ((j.1, j.2), new))) (cases_lt (length es) 6)
  where
    last : get_or (es ++ (e ∷ [])) (length es) empty ≡ e
    last = get_or_push es e empty (length es) refl

    in' : length es < length (es ++ (e ∷ []))
    in' = omega (arith, length_push es e)

    new : Has es e → ⊥
    new (i, h, q) = d.apart i (length es) h in' (get_or_append_left es _ empty i h ∙ q empty ∙ sym last)

-- an entry that may stand there equals none before it
laid_new : (es : List Entry) (e : Entry) → LaidDown es → laid es e ≡ true
    → (i : ℕ) → i < length es → get_or es i empty ≡ e → ⊥
laid_new es e d t i l q =
    ⊎_elim (λ (h : length es < 6). given_apart i (length es) l h
    (sym (d.begins i (omega arith) l) ∙ q ∙ sym ((laid_low es e h).0 t)))
    (λ (h : 6 ≤ length es). ((laid_high es e h).0 t).1.1 (i, l, λ x. get_or_default es i x empty l ∙ q))
    (cases_lt (length es) 6)

-- what holds of each entry and of one more holds of each with it
push_each : (P : ℕ → Entry → Type 0) (es : List Entry) (e : Entry)
    → ((i : ℕ) → i < length es → P i (get_or es i empty)) → P (length es) e
    → (i : ℕ) → i < length (es ++ (e ∷ [])) → P i (get_or (es ++ (e ∷ [])) i empty)
push_each P es e a b i l =
    ⊎_elim (λ (h : i < length es). rw (get_or_append_left es (e ∷ []) empty i h) (a i h))
    (λ (h : length es ≤ i). let q : i ≡ length es = omega (arith, length_push es e) in
    rw (q, get_or_push es e empty (length es) refl) b) (cases_lt i (length es))

pub laid_more : (es : List Entry) (e : Entry) → LaidDown es → laid es e ≡ true → LaidDown (es ++ (e ∷ []))
laid_more es e d t = record {
  begins = λ i h l. push_each (λ k x. k < 6 → x ≡ get_or given_entries k empty) es e
      (λ k m n. d.begins k n m) (λ n. sym ((laid_low es e n).0 t)) i l h;
  joined = λ i h l. push_each (λ k x. 6 ≤ k → (joins x.form ≡ true) × (x.left < k) × (x.right < k)) es e
      (λ k m n. d.joined k n m) (λ n. let r = (laid_high es e n).0 t in (r.0, r.1.0.0, r.1.0.1)) i l h;
  apart = λ i j h l q. push_each (λ k x. i < k → get_or es i empty ≡ x → ⊥) es e
      (λ k m n. d.apart i k n m) (laid_new es e d t i) j l h
      (sym (get_or_append_left es (e ∷ []) empty i (omega (arith, length_push es e))) ∙ q);
}

-- The search for the first entry at fault, over the entries with their places.

abbrev pub Laid : List Entry → Bool → ℕ × Entry → Type 0
Laid es b p = laid (take p.0 es) p.1 ≡ b

placed : (es : List Entry) (k : ℕ) → k < length es → get_or (enumerate_from 0 es) k (0, empty) ≡ (k, get_or es k empty)
placed es k h = get_or-enumerate_from 0 es k (0, empty) h ∙ ap (λ n. (n, get_or es k empty)) (zero-add k)

laid_below : (es : List Entry) (n : ℕ) → n ≤ length es → AllWithin (Laid es true) (enumerate_from 0 es) 0 n → LaidDown (take n es)
laid_below es zero h a = laid_front [] given_entries laid_given
laid_below es (suc n) h a =
    let l : n < length es = omega arith in
    rw (take-suc es n empty l)
    (laid_more (take n es) (get_or es n empty) (laid_below es n (omega arith) (λ k d z m. a k d z (omega arith)))
    (rw (placed es n l) at (a n (0, empty) (omega arith) (omega arith))))

pub laid_judged : (es : List Entry) (r : Option ℕ)
    → MatchOption r (AllWithin (Laid es true) (enumerate_from 0 es) 0 (length (enumerate_from 0 es)))
    (λ i. (i < length (enumerate_from 0 es)) × HoldsAt (Laid es false) (enumerate_from 0 es) i × AllWithin (Laid es true) (enumerate_from 0 es) 0 i)
    → TableJudged es r
laid_judged es None a =
    let n = length-enumerate_from 0 es in
    rw (take_all (length es) es (omega arith)) at (laid_below es (length es) (omega arith) (λ k d z m. a k d z (omega arith)))
laid_judged es (Some i) (l, f, a) =
    let n = length-enumerate_from 0 es in
    let h : i < length es = omega arith in
    let m : LaidDown (take (suc i) es) → laid (take i es) (get_or es i empty) ≡ true =
    λ d. laid_last (take i es) (get_or es i empty) (rw (take-suc es i empty h) at d) in
    (h, laid_below es i (omega arith) a, λ d. both_ways _ (rw (placed es i h) at (f (0, empty))) (m d))
