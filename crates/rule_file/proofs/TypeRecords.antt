-- What the questions on type records mean for type tables. Assumes nothing.
use Rattle.std.proofs.Common.{◌≡◌, ℕ, zero, suc, ◌+◌, ◌<◌, ◌≤◌, Bool, true, false, cond, not, ◌&&◌, ltb, ◌⊎◌, List, [], ◌∷◌, ◌++◌, map, length, get_or, take, Some, None, Option, sym, refl, ap, ◌∙◌, subst, inl, inr, add-zero, arith, length-append}
use Rattle.std.specs.List.{flat_map}
use Rattle.std.proofs.lemmas.List.{append_assoc, append-nil}
use Rattle.std.proofs.lemmas.Bool.{true≢false, and_parts, and_from, ltb-true, le-ltb}
use Rattle.calculus.specs.declared.entry.Entry.{Entry}
use Rattle.refusals.specs.declared.Question.{Question}
use Rattle.refusals.specs.declared.Question.TheVariants.{SectionMark, NumberRange, TypeNew}
use Rattle.calculus.specs.Forms.{joins, empty}
use Rattle.calculus.specs.Tables.{given_entries, same_entry, occurs, laid, LaidDown}
use Rattle.types.proofs.Laid.{laid_more, laid_last, laid_front}
use Rattle.rule_file.specs.Files.{entry_bytes}
use Rattle.rule_file.specs.Records.{sort_by_mark, is_type, first_number_lem, second_number_lem, entry_of}
use Rattle.rule_file.specs.Loading.{type_question, type_questions}
use Rattle.rule_file.proofs.Decode.{type_back, type_joins, joins_type, entry_forth}
use Rattle.rule_file.proofs.Pieces.{itself, Sixes}
use Rattle.rule_file.proofs.Questions.{no_question, or_else_none, or_else_some, or_else_parts, or_else_both}

-- The three tests of a type record, and the test of a table on its entry.

abbrev asked : ℕ → Bool → Bool → Bool → Option Question
asked place t b o = cond t (cond b (cond o (Some (TypeNew place)) None) (Some (NumberRange place))) (Some (SectionMark place))

passed : (place : ℕ) (t b o : Bool) → asked place t b o ≡ None → (t ≡ true) × (b ≡ true) × (o ≡ false)
passed place true true true e = no_question e
passed place true true false e = (refl, refl, refl)
passed place true false o e = no_question e
passed place false b o e = no_question e

laid_is : (earlier : List Entry) (e : Entry) → 6 ≤ length earlier
    → laid earlier e ≡ (joins e.form && ((ltb e.left (length earlier) && ltb e.right (length earlier)) && not (occurs e earlier)))
laid_is earlier e six =
    ap (λ b. cond b (same_entry (get_or given_entries (length earlier) empty) e)
    (joins e.form && ((ltb e.left (length earlier) && ltb e.right (length earlier)) && not (occurs e earlier))))
    (le-ltb (length earlier) 6 six)

laid_parts : (earlier : List Entry) (e : Entry) → 6 ≤ length earlier → laid earlier e ≡ true
    → (joins e.form ≡ true) × (e.left < length earlier) × (e.right < length earlier)
laid_parts earlier e h l =
    let p = and_parts (joins e.form) _ (sym (laid_is earlier e h) ∙ l) in
    let b = and_parts (ltb e.left (length earlier)) (ltb e.right (length earlier)) (and_parts _ _ p.1).0 in
    (p.0, ltb-true _ _ b.0, ltb-true _ _ b.1)

-- a type record that passes says an entry that may stand there
pub question_laid : (place : ℕ) (earlier : List Entry) (six : List ℕ) → 6 ≤ length earlier → type_question place earlier six ≡ None
    → (is_type (sort_by_mark six) ≡ true) × (laid earlier (entry_of six) ≡ true)
question_laid place earlier six h e =
    let p = passed place (is_type (sort_by_mark six)) (ltb (first_number_lem six) (length earlier) && ltb (second_number_lem six) (length earlier))
    (occurs (entry_of six) earlier) e in (
      p.0,
      laid_is earlier (entry_of six) h
          ∙ and_from _ _ (type_joins six p.0) (and_from _ _ p.1 (ap not p.2)),
    )

-- and one whose entry may stand there passes
laid_question : (place : ℕ) (earlier : List Entry) (six : List ℕ) → 6 ≤ length earlier → laid earlier (entry_of six) ≡ true
    → type_question place earlier six ≡ None
laid_question place earlier six h e =
    let p = and_parts _ _ (sym (laid_is earlier (entry_of six) h) ∙ e) in
    let q = and_parts _ _ p.1 in
    let t = joins_type six p.0 in
    yes_all (is_type (sort_by_mark six)) (ltb (first_number_lem six) (length earlier) && ltb (second_number_lem six) (length earlier))
    (occurs (entry_of six) earlier) t q.0 q.1
  where
    yes_all : (t b o : Bool) → t ≡ true → b ≡ true → not o ≡ true → asked place t b o ≡ None
    yes_all true true true p q r = absurd (true≢false (sym r))
    yes_all true true false p q r = refl
    yes_all true false o p q r = absurd (true≢false (sym q))
    yes_all false b o p q r = absurd (true≢false (sym p))

-- A list of type records.

longer : (earlier : List Entry) (e : Entry) → 6 ≤ length earlier → 6 ≤ length (earlier ++ (e ∷ []))
longer earlier e h = simp length-append (omega arith)

one_more : (earlier : List Entry) (e : Entry) (more : List Entry) → (earlier ++ (e ∷ [])) ++ more ≡ earlier ++ (e ∷ more)
one_more earlier e more = append_assoc earlier (e ∷ []) more

-- records that all pass say the rest of a table, and are what its entries are written to
pub types_accepted : (place : ℕ) (earlier : List Entry) (rs : List (List ℕ)) → LaidDown earlier → 6 ≤ length earlier → Sixes rs
    → type_questions place earlier rs ≡ None
    → LaidDown (earlier ++ map entry_of rs) × (flat_map entry_bytes (map entry_of rs) ≡ flat_map itself rs)
types_accepted place earlier [] d h s e = (subst LaidDown (sym (append-nil earlier)) d, refl)
types_accepted place earlier (six ∷ rs) d h s e =
    let p = or_else_parts (type_question place earlier six) _ e in
    let l = question_laid place earlier six h p.0 in
    let r = types_accepted (place + 1) (earlier ++ (entry_of six ∷ [])) rs (laid_more earlier (entry_of six) d l.1)
    (longer earlier (entry_of six) h) s.2 p.1 in (
      subst LaidDown (one_more earlier (entry_of six) (map entry_of rs)) r.0,
      ap (λ x. x ++ flat_map entry_bytes (map entry_of rs)) (type_back six s.0 s.1 l.0) ∙ ap (λ x. six ++ x) r.1,
    )

-- a question on a type record at a place
abbrev pub OnType : Question → ℕ → Type 0
OnType q p = (q ≡ SectionMark p) ⊎ ((q ≡ NumberRange p) ⊎ (q ≡ TypeNew p))

on_type : (place : ℕ) (t b o : Bool) (q : Question) → asked place t b o ≡ Some q → OnType q place
on_type place true true true q e = inr (inr (cc))
on_type place true true false q e = no_question (sym e)
on_type place true false o q e = inr (inl (cc))
on_type place false b o q e = inl (cc)

-- the first record that does not pass: the entries before it are laid down, and with its entry they are not
abbrev TypeStop : ℕ → List Entry → List (List ℕ) → Question → Type 0
TypeStop place earlier rs q =
    (i : ℕ) × (i < length rs) × OnType q (place + i) × LaidDown (earlier ++ map entry_of (take i rs))
    × (LaidDown (earlier ++ map entry_of (take (suc i) rs)) → ⊥)

type_stops : (place : ℕ) (earlier : List Entry) (six : List ℕ) (rs : List (List ℕ)) (q : Question) → LaidDown earlier → 6 ≤ length earlier
    → (type_questions (place + 1) (earlier ++ (entry_of six ∷ [])) rs ≡ Some q → LaidDown (earlier ++ (entry_of six ∷ []))
    → TypeStop (place + 1) (earlier ++ (entry_of six ∷ [])) rs q)
    → (o : Option Question) → type_question place earlier six ≡ o → type_questions place earlier (six ∷ rs) ≡ Some q
    → TypeStop place earlier (six ∷ rs) q
type_stops place earlier six rs q d h ih None o e =
    let l = question_laid place earlier six h o in
    let r = ih (sym (or_else_none (type_question place earlier six) _ o) ∙ e) (laid_more earlier (entry_of six) d l.1) in
    let n : place + 1 + r.0 ≡ place + suc r.0 = omega arith in (
      suc r.0,
      omega arith,
      subst (OnType q) n r.2,
      subst LaidDown (one_more earlier (entry_of six) (map entry_of (take r.0 rs))) r.3,
      λ w. r.4 (subst LaidDown (sym (one_more earlier (entry_of six) (map entry_of (take (suc r.0) rs)))) w),
    )
type_stops place earlier six rs q d h ih (Some p) o e =
    let same : type_question place earlier six ≡ Some q = o ∙ sym (or_else_some (type_question place earlier six) _ p o) ∙ e in (
      zero,
      omega arith,
      subst (OnType q) (sym (add-zero place)) (on_type place (is_type (sort_by_mark six)) (ltb (first_number_lem six) (length earlier) && ltb (second_number_lem six) (length earlier)) (occurs (entry_of six) earlier) q same),
      subst LaidDown (sym (append-nil earlier)) d,
      λ w. no_question (sym same ∙ laid_question place earlier six h (laid_last earlier (entry_of six) w)),
    )

pub types_refused : (place : ℕ) (earlier : List Entry) (rs : List (List ℕ)) (q : Question) → LaidDown earlier → 6 ≤ length earlier
    → type_questions place earlier rs ≡ Some q → TypeStop place earlier rs q
types_refused place earlier [] q d h e = no_question (sym e)
types_refused place earlier (six ∷ rs) q d h e =
    type_stops place earlier six rs q d h
    (λ f w. types_refused (place + 1) (earlier ++ (entry_of six ∷ [])) rs q w (longer earlier (entry_of six) h) f)
    (type_question place earlier six) refl e

-- the records of a table pass, and say its entries
pub types_forth : (place : ℕ) (earlier xs : List Entry) → LaidDown (earlier ++ xs) → 6 ≤ length earlier → length earlier + length xs ≤ 65536
    → (type_questions place earlier (map entry_bytes xs) ≡ None) × (map entry_of (map entry_bytes xs) ≡ xs)
types_forth place earlier [] d h few = (refl, refl)
types_forth place earlier (x ∷ xs) d h few =
    let d' = subst LaidDown (sym (one_more earlier x xs)) d in
    let l = laid_last earlier x (laid_front (earlier ++ (x ∷ [])) xs d') in
    let p = laid_parts earlier x h l in
    let f = entry_forth x.form x.left x.right p.0 (omega arith) (omega arith) in
    let r = types_forth (place + 1) (earlier ++ (x ∷ [])) xs d' (longer earlier x h) (simp length-append (omega arith)) in (
      or_else_both (type_question place earlier (entry_bytes x)) _
          (laid_question place earlier (entry_bytes x) h (ap (laid earlier) f.1 ∙ l))
          (ap (λ y. type_questions (place + 1) (earlier ++ (y ∷ [])) (map entry_bytes xs)) f.1 ∙ r.0),
      ap (λ y. y ∷ map entry_of (map entry_bytes xs)) f.1 ∙ ap (λ l. x ∷ l) r.1,
    )
