-- One record more that passes, the first that does not, and the end. Assumes nothing.
use Rattle.std.proofs.Common.{◌≡◌, ℕ, ◌+◌, ◌-◌, ◌<◌, List, [], ◌∷◌, ◌++◌, map, length, get_or, take, drop, Some, None, Option, Result, Ok, Err, sym, refl, ap, ◌∙◌, add_assoc}
use Rattle.std.proofs.lemmas.List.{at_drop_more, map_more, append_assoc}
use Rattle.calculus.specs.declared.entry.Entry.{Entry}
use Rattle.refusals.specs.declared.Question.{Question}
use Rattle.calculus.specs.Kinds.{arity}
use Rattle.calculus.specs.Tables.{given_entries}
use Rattle.rule_file.specs.Records.{kind_in, entry_of}
use Rattle.rule_file.specs.Loading.{or_else, type_question, type_questions, node_question, node_questions, reading}

pub or_else_none : {A : Type 0} (o later : Option A) → o ≡ None → or_else o later ≡ later
or_else_none None later e = refl
or_else_none (Some x) later e = absurd (cc)

pub or_else_some : {A : Type 0} (o later : Option A) (x : A) → o ≡ Some x → or_else o later ≡ Some x
or_else_some None later x e = absurd (cc)
or_else_some (Some y) later x e = e

pub or_else_parts : {A : Type 0} (o later : Option A) → or_else o later ≡ None → (o ≡ None) × (later ≡ None)
or_else_parts None later e = (refl, e)
or_else_parts (Some x) later e = absurd (cc)

pub or_else_both : {A : Type 0} (o later : Option A) → o ≡ None → later ≡ None → or_else o later ≡ None
or_else_both o later p q = or_else_none o later p ∙ q

pub no_question : {q : Question} {A : Type 0} → Some q ≡ None → A
no_question e = absurd (cc)

pub same_question : {a b : Question} → Some a ≡ Some b → b ≡ a
same_question e = cc

-- what the outcome of a reading says of its question
pub reading_ok : {A : Type 0} (o : Option Question) (x y : A) → reading o x ≡ Ok y → (o ≡ None) × (y ≡ x)
reading_ok None x y e = (refl, cc)
reading_ok (Some q) x y e = absurd (cc)

pub reading_err : {A : Type 0} (o : Option Question) (x : A) (q : Question) → reading o x ≡ Err q → o ≡ Some q
reading_err None x q e = absurd (cc)
reading_err (Some p) x q e = cc

module _ (first types i pending : ℕ) (rs : List (List ℕ))
    (inv : node_questions first types 1 rs ≡ node_questions (first + i) types pending (drop i rs)) where
  pub node_more : (d : List ℕ) (children : ℕ) → i < length rs
      → node_question (first + i) types pending (get_or rs i d) ≡ None → children ≡ arity (kind_in (get_or rs i d))
      → node_questions first types 1 rs ≡ node_questions (first + (i + 1)) types (pending - 1 + children) (drop (i + 1) rs)
  node_more d children lt none e =
      inv ∙ at_drop_more (node_questions (first + i) types pending) rs i d lt
      ∙ or_else_none (node_question (first + i) types pending (get_or rs i d)) _ none
      ∙ ap (λ p. node_questions p types (pending - 1 + arity (kind_in (get_or rs i d))) (drop (i + 1) rs)) (add_assoc first i 1)
      ∙ ap (λ k. node_questions (first + (i + 1)) types (pending - 1 + k) (drop (i + 1) rs)) (sym e)

  pub node_here : (d : List ℕ) (q : Question) → i < length rs
      → node_question (first + i) types pending (get_or rs i d) ≡ Some q → node_questions first types 1 rs ≡ Some q
  node_here d q lt e =
      inv ∙ at_drop_more (node_questions (first + i) types pending) rs i d lt
      ∙ or_else_some (node_question (first + i) types pending (get_or rs i d)) _ q e

-- an exit with the question that a reading answered no
pub err_read : {A : Type 0} (o : Option Question) (x : A) (r : Result A Question) (p q : Question) → r ≡ Err p → p ≡ q
    → o ≡ Some q → r ≡ reading o x
err_read o x r p q is same asked = is ∙ ap Err same ∙ sym (ap (λ a. reading a x) asked)

pub entries_more : (rs : List (List ℕ)) (es : List Entry) (i : ℕ) (d : List ℕ) (e : Entry) → i < length rs
    → e ≡ entry_of (get_or rs i d) → es ≡ given_entries ++ map entry_of (take i rs)
    → es ++ (e ∷ []) ≡ given_entries ++ map entry_of (take (i + 1) rs)
entries_more rs es i d e lt is inv =
    ap (λ l. l ++ (e ∷ [])) inv ∙ append_assoc given_entries (map entry_of (take i rs)) (e ∷ [])
    ∙ ap (λ l. given_entries ++ l) (ap (λ x. map entry_of (take i rs) ++ (x ∷ [])) is ∙ sym (map_more entry_of rs i d lt))

module _ (rs : List (List ℕ)) (es : List Entry) (i : ℕ)
    (inv : type_questions 1 given_entries rs ≡ type_questions (1 + i) es (drop i rs)) where
  pub type_more : (d : List ℕ) (e : Entry) → i < length rs → e ≡ entry_of (get_or rs i d)
      → type_question (1 + i) es (get_or rs i d) ≡ None
      → type_questions 1 given_entries rs ≡ type_questions (1 + (i + 1)) (es ++ (e ∷ [])) (drop (i + 1) rs)
  type_more d e lt is none =
      inv ∙ at_drop_more (type_questions (1 + i) es) rs i d lt
      ∙ or_else_none (type_question (1 + i) es (get_or rs i d)) _ none
      ∙ ap (λ p. type_questions p (es ++ (entry_of (get_or rs i d) ∷ [])) (drop (i + 1) rs)) (add_assoc 1 i 1)
      ∙ ap (λ x. type_questions (1 + (i + 1)) (es ++ (x ∷ [])) (drop (i + 1) rs)) (sym is)

  pub type_here : (d : List ℕ) (q : Question) → i < length rs
      → type_question (1 + i) es (get_or rs i d) ≡ Some q → type_questions 1 given_entries rs ≡ Some q
  type_here d q lt e =
      inv ∙ at_drop_more (type_questions (1 + i) es) rs i d lt
      ∙ or_else_some (type_question (1 + i) es (get_or rs i d)) _ q e
