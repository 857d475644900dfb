-- What the questions on node records mean for terms. Assumes nothing.
use Rattle.std.proofs.Common.{◌≡◌, ℕ, zero, suc, ◌+◌, ◌-◌, ◌≤◌, Bool, true, false, cond, ◌&&◌, eqb, ◌⊎◌, List, [], ◌∷◌, ◌++◌, map, length, get_or, take, Some, None, Option, sym, refl, ap, ◌∙◌, subst, inl, inr, add-zero, arith}
use Rattle.std.specs.List.{flat_map}
use Rattle.std.proofs.lemmas.Bool.{true≢false, and_parts, eqb-true, cases_Bool}
use Rattle.std.proofs.lemmas.Bool.Decides.{nat_tests}
use Rattle.calculus.specs.declared.node.Node.{Node}
use Rattle.refusals.specs.declared.Question.{Question}
use Rattle.refusals.specs.declared.Question.TheVariants.{TermUnended, SectionMark, NumberRange, TermEnded}
use Rattle.calculus.specs.Kinds.{arity}
use Rattle.terms.specs.Ranges.{in_range}
use Rattle.terms.specs.Scan.{fault, further}
use Rattle.terms.proofs.Places.{some_none, further_none}
use Rattle.rule_file.specs.Files.{node_bytes}
use Rattle.rule_file.specs.Records.{sort_by_mark, is_node, second_number_lem, kind_in, node_of}
use Rattle.rule_file.specs.Loading.{node_question, node_questions}
use Rattle.rule_file.proofs.Decode.{node_back, present_node, node_forth, in_range_fits, in_range_present}
use Rattle.rule_file.proofs.Pieces.{itself, Sixes}
use Rattle.rule_file.proofs.Questions.{no_question, same_question, or_else_none, or_else_some, or_else_parts, or_else_both}

-- The tests of a node record.

abbrev asked : ℕ → Bool → Bool → Bool → Option Question
asked place z t g = cond z (Some (TermUnended place)) (cond t (cond g None (Some (NumberRange place))) (Some (SectionMark place)))

passed : (place : ℕ) (z t g : Bool) → asked place z t g ≡ None → (z ≡ false) × (t ≡ true) × (g ≡ true)
passed place true t g e = no_question e
passed place false true true e = (refl, refl, refl)
passed place false true false e = no_question e
passed place false false g e = no_question e

abbrev Good : ℕ → List ℕ → Type 0
Good types six = (is_node (sort_by_mark six) ≡ true) × (in_range types (node_of six) ≡ true) × (second_number_lem six ≡ 0)

question_good : (place types p : ℕ) (six : List ℕ) → node_question place types p six ≡ None → (eqb p 0 ≡ false) × Good types six
question_good place types p six e =
    let a = passed place (eqb p 0) (is_node (sort_by_mark six)) (in_range types (node_of six) && eqb (second_number_lem six) 0) e in
    let b = and_parts (in_range types (node_of six)) (eqb (second_number_lem six) 0) a.2 in
    (a.0, (a.1, b.0, eqb-true _ _ b.1))

-- one node of those still to come, and its children
pending_is : (p k : ℕ) → suc p - 1 + k ≡ k + p
pending_is p k = omega arith

not_zero : (p : ℕ) → eqb (suc p) 0 ≡ false
not_zero p = grind (arith, nat_tests)

unended : (place types p : ℕ) → node_questions place types (suc p) [] ≡ Some (TermEnded place)
unended place types p = ap (λ b. cond b None (Some (TermEnded place))) (not_zero p)

-- records that all pass say one term, and are what its nodes are written to
pub nodes_accepted : (place types p : ℕ) (rs : List (List ℕ)) → Sixes rs → node_questions place types p rs ≡ None
    → (fault types p (map node_of rs) ≡ None) × (flat_map node_bytes (map node_of rs) ≡ flat_map itself rs)
nodes_accepted place types zero [] s e = (refl, refl)
nodes_accepted place types (suc p) [] s e = no_question (sym (unended place types p) ∙ e)
nodes_accepted place types zero (six ∷ rs) s e = no_question e
nodes_accepted place types (suc p) (six ∷ rs) s e =
    let a = or_else_parts (node_question place types (suc p) six) _ e in
    let g = (question_good place types (suc p) six a.0).1 in
    let r = nodes_accepted (place + 1) types (arity (kind_in six) + p) rs s.2
    (ap (λ n. node_questions (place + 1) types n rs) (sym (pending_is p (arity (kind_in six)))) ∙ a.1) in (
      ap (λ b. cond b (further (fault types (arity (kind_in six) + p) (map node_of rs))) (Some 0)) g.1 ∙ ap further r.0,
      ap (λ x. x ++ flat_map node_bytes (map node_of rs)) (node_back six s.0 s.1 g.0 g.2) ∙ ap (λ x. six ++ x) r.1,
    )

all_yes : (place : ℕ) (z t g s : Bool) → z ≡ false → t ≡ true → g ≡ true → s ≡ true → asked place z t (g && s) ≡ None
all_yes place true t g s p q r u = absurd (true≢false p)
all_yes place false true true true p q r u = refl
all_yes place false true true false p q r u = absurd (true≢false (sym u))
all_yes place false true false s p q r u = absurd (true≢false (sym r))
all_yes place false false g s p q r u = absurd (true≢false (sym q))

fault_further : (types p : ℕ) (six : List ℕ) (ns : List Node) → in_range types (node_of six) ≡ true
    → fault types (suc p) (node_of six ∷ ns) ≡ further (fault types (arity (kind_in six) + p) ns)
fault_further types p six ns y = ap (λ b. cond b (further (fault types (arity (kind_in six) + p) ns)) (Some 0)) y

-- the nodes of a term pass, and are read back
pub nodes_forth : (place types p : ℕ) (ns : List Node) → types ≤ 65536 → fault types p ns ≡ None
    → (node_questions place types p (map node_bytes ns) ≡ None) × (map node_of (map node_bytes ns) ≡ ns)
nodes_forth place types zero [] few e = (refl, refl)
nodes_forth place types (suc p) [] few e = absurd (some_none 0 e)
nodes_forth place types zero (n ∷ ns) few e = absurd (some_none 0 e)
nodes_forth place types (suc p) (n ∷ ns) few e = forth_step place types p n ns few (nodes_forth (place + 1) types (arity n.kind + p) ns few) (in_range types n) refl e
  where
    forth_step : (place types p : ℕ) (n : Node) (ns : List Node) → types ≤ 65536
        → (fault types (arity n.kind + p) ns ≡ None
        → (node_questions (place + 1) types (arity n.kind + p) (map node_bytes ns) ≡ None) × (map node_of (map node_bytes ns) ≡ ns))
        → (b : Bool) → in_range types n ≡ b
        → cond b (further (fault types (arity n.kind + p) ns)) (Some 0) ≡ None
        → (node_questions place types (suc p) (map node_bytes (n ∷ ns)) ≡ None) × (map node_of (map node_bytes (n ∷ ns)) ≡ n ∷ ns)
    forth_step place types p n ns few ih false b e = absurd (some_none 0 e)
    forth_step place types p n ns few ih true b e =
        let r = ih (further_none _ e) in
        let f = node_forth n.kind n.number (in_range_present types n.kind n.number b) (in_range_fits types n.kind n.number few b) in (
          or_else_both (node_question place types (suc p) (node_bytes n)) _
              (all_yes place (eqb (suc p) 0) (is_node (sort_by_mark (node_bytes n))) (in_range types (node_of (node_bytes n))) (eqb (second_number_lem (node_bytes n)) 0)
              (not_zero p) f.0 (ap (in_range types) f.1 ∙ b) (ap (λ m. eqb m 0) f.2))
              (ap (λ k. node_questions (place + 1) types (suc p - 1 + arity k) (map node_bytes ns)) (ap (λ m. m.kind) f.1)
              ∙ ap (λ m. node_questions (place + 1) types m (map node_bytes ns)) (pending_is p (arity n.kind)) ∙ r.0),
          ap (λ m. m ∷ map node_of (map node_bytes ns)) f.1 ∙ ap (λ l. n ∷ l) r.1,
        )

-- A question on a node record, or after the last.
abbrev pub OnNode : Question → ℕ → Type 0 → Type 0
OnNode q p last = (q ≡ TermUnended p) ⊎ ((q ≡ SectionMark p) ⊎ ((q ≡ NumberRange p) ⊎ ((q ≡ TermEnded p) × last)))

on_node : (place : ℕ) (last : Type 0) (z t g : Bool) (q : Question) → asked place z t g ≡ Some q → OnNode q place last
on_node place last true t g q e = inl (cc)
on_node place last false true true q e = no_question (sym e)
on_node place last false true false q e = inr (inr (inl (cc)))
on_node place last false false g q e = inr (inl (cc))

-- the first record that does not pass: the nodes before it have no fault but their end, and the node there is at fault, or
-- the record's second number is
abbrev NodeStop : ℕ → ℕ → ℕ → List (List ℕ) → Question → Type 0
NodeStop place types p rs q =
    (k : ℕ) × (k ≤ length rs) × OnNode q (place + k) (k ≡ length rs)
    × ((fault types p (take k (map node_of rs)) ≡ None) ⊎ (fault types p (take k (map node_of rs)) ≡ Some k))
    × ((fault types p (map node_of rs) ≡ Some k) ⊎ (second_number_lem (get_or rs k []) ≡ 0 → ⊥))

-- the end of a list is the only fault of no nodes
ends : (types p : ℕ) → (fault types p [] ≡ None) ⊎ (fault types p [] ≡ Some 0)
ends types zero = inl refl
ends types (suc p) = inr refl

-- a node at fault, or a second number
faulty : (place types p : ℕ) (six : List ℕ) (rs : List (List ℕ)) (q : Question) → node_question place types p six ≡ Some q
    → (fault types p (node_of six ∷ map node_of rs) ≡ Some 0) ⊎ (second_number_lem six ≡ 0 → ⊥)
faulty place types zero six rs q e = inl refl
faulty place types (suc p) six rs q e =
    elim (cases_Bool (in_range types (node_of six))) [ inl y ↦ inr (λ z. no_question (sym e ∙ all_yes place (eqb (suc p) 0) (is_node (sort_by_mark six)) (in_range types (node_of six)) (eqb (second_number_lem six) 0) (not_zero p) (present_node six (in_range_present types _ _ y)) y (ap (λ m. eqb m 0) z))) | inr n ↦ inl (ap (λ b. cond b (further (fault types (arity (kind_in six) + p) (map node_of rs))) (Some 0)) n) ]

stop_more : (types p k : ℕ) (six : List ℕ) (ns : List Node) → in_range types (node_of six) ≡ true
    → (fault types (arity (kind_in six) + p) ns ≡ None) ⊎ (fault types (arity (kind_in six) + p) ns ≡ Some k)
    → (fault types (suc p) (node_of six ∷ ns) ≡ None) ⊎ (fault types (suc p) (node_of six ∷ ns) ≡ Some (suc k))
stop_more types p k six ns y (inl n) = inl (fault_further types p six ns y ∙ ap further n)
stop_more types p k six ns y (inr s) = inr (fault_further types p six ns y ∙ ap further s)

further_fault : (types p k : ℕ) (six : List ℕ) (rs : List (List ℕ)) → in_range types (node_of six) ≡ true
    → (fault types (arity (kind_in six) + p) (map node_of rs) ≡ Some k) ⊎ (second_number_lem (get_or rs k []) ≡ 0 → ⊥)
    → (fault types (suc p) (node_of six ∷ map node_of rs) ≡ Some (suc k)) ⊎ (second_number_lem (get_or (six ∷ rs) (suc k) []) ≡ 0 → ⊥)
further_fault types p k six rs y (inl s) = inl (fault_further types p six (map node_of rs) y ∙ ap further s)
further_fault types p k six rs y (inr n) = inr n

on_further : (q : Question) {a b k m : ℕ} → a ≡ b → OnNode q a (k ≡ m) → OnNode q b (suc k ≡ suc m)
on_further q e (inl h) = inl (h ∙ ap TermUnended e)
on_further q e (inr (inl h)) = inr (inl (h ∙ ap SectionMark e))
on_further q e (inr (inr (inl h))) = inr (inr (inl (h ∙ ap NumberRange e)))
on_further q e (inr (inr (inr h))) = inr (inr (inr (h.0 ∙ ap TermEnded e, ap suc h.1)))

on_node_at : (place types p : ℕ) (six : List ℕ) (rs : List (List ℕ)) (q : Question) → node_question place types p six ≡ Some q
    → OnNode q (place + zero) (zero ≡ suc (length rs))
on_node_at place types p six rs q e =
    subst (λ m. OnNode q m (zero ≡ suc (length rs))) (sym (add-zero place))
    (on_node place (zero ≡ suc (length rs)) (eqb p 0) (is_node (sort_by_mark six)) (in_range types (node_of six) && eqb (second_number_lem six) 0) q e)

node_stops : (place types p : ℕ) (six : List ℕ) (rs : List (List ℕ)) (q : Question)
    → (node_questions (place + 1) types (p - 1 + arity (kind_in six)) rs ≡ Some q → NodeStop (place + 1) types (p - 1 + arity (kind_in six)) rs q)
    → (o : Option Question) → node_question place types p six ≡ o → node_questions place types p (six ∷ rs) ≡ Some q
    → NodeStop place types p (six ∷ rs) q
node_stops place types zero six rs q ih None o e = no_question o
node_stops place types (suc p) six rs q ih None o e =
    let g = (question_good place types (suc p) six o).1 in
    let r = ih (sym (or_else_none (node_question place types (suc p) six) _ o) ∙ e) in
    let n : place + 1 + r.0 ≡ place + suc r.0 = omega arith in
    let c = pending_is p (arity (kind_in six)) in (
      suc r.0,
      omega arith,
      on_further q n r.2,
      stop_more types p r.0 six (take r.0 (map node_of rs)) g.1
          (subst (λ m. (fault types m (take r.0 (map node_of rs)) ≡ None) ⊎ (fault types m (take r.0 (map node_of rs)) ≡ Some r.0)) c r.3),
      further_fault types p r.0 six rs g.1
          (subst (λ m. (fault types m (map node_of rs) ≡ Some r.0) ⊎ (second_number_lem (get_or rs r.0 []) ≡ 0 → ⊥)) c r.4),
    )
node_stops place types p six rs q ih (Some w) o e =
    let same : node_question place types p six ≡ Some q = o ∙ sym (or_else_some (node_question place types p six) _ w o) ∙ e in (
      zero,
      omega arith,
      on_node_at place types p six rs q same,
      ends types p,
      faulty place types p six rs q same,
    )

pub nodes_refused : (place types p : ℕ) (rs : List (List ℕ)) (q : Question) → node_questions place types p rs ≡ Some q
    → NodeStop place types p rs q
nodes_refused place types zero [] q e = no_question (sym e)
nodes_refused place types (suc p) [] q e =
    let w : q ≡ TermEnded place = same_question (sym (unended place types p) ∙ e) in
    (zero, omega arith, inr (inr (inr (w ∙ ap TermEnded (sym (add-zero place)), refl))), inr refl, inl refl)
nodes_refused place types p (six ∷ rs) q e =
    node_stops place types p six rs q (nodes_refused (place + 1) types (p - 1 + arity (kind_in six)) rs q) (node_question place types p six) refl e
