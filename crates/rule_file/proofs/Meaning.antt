-- What load and write answer, in terms of rules. Assumes nothing.
use Rattle.std.proofs.Common.{◌≡◌, ℕ, zero, suc, ◌+◌, ◌*◌, ◌%◌, ◌<◌, ◌≤◌, Bool, true, false, cond, ◌&&◌, eqb, ltb, leb, ◌⊎◌, List, [], ◌∷◌, ◌++◌, map, length, take, drop, Some, None, Ok, Err, Option, Result, sym, refl, ap, ◌∙◌, subst, inl, inr, arith, length-append, take-append-drop}
use lib.ListN.{length-map}
use lib.Seq.{take-append-add}
use Rattle.std.proofs.lemmas.List.{take_at, take-take, append-nil, length-take-le}
use Rattle.calculus.specs.declared.entry.Entry.{Entry}
use Rattle.calculus.specs.declared.node.Node.{Node}
use Rattle.refusals.specs.declared.Question.{Question}
use Rattle.refusals.specs.declared.Question.TheVariants.{TableRoom}
use Rattle.refusals.specs.declared.Refusal.{Refusal}
use Rattle.calculus.specs.Kinds.{blank}
use Rattle.calculus.specs.Forms.{empty}
use Rattle.terms.specs.Ranges.{AllInRange}
use Rattle.terms.specs.Scan.{fault}
use Rattle.terms.specs.Whole.{Begins, FirstFault}
use Rattle.terms.specs.Whole
use Rattle.terms.proofs.Fault.{judged}
use Rattle.calculus.specs.Tables.{given_entries, LaidDown}
use Rattle.types.proofs.Laid.{laid_given, laid_front}
use Rattle.rule_file.specs.declared.load.Loaded.{Loaded}
use Rattle.rule_file.specs.Files.{Rule, file_of, Bytes}
use Rattle.rule_file.specs.Records.{sort_by_mark, is_head, entry_of}
use Rattle.rule_file.specs.Loading.{or_else, type_count, node_count, type_records, node_records, head_fits_lem, head_question, room_question, type_questions, node_questions, body_question, load_question, entries_in, nodes_in, in_file, answer_of, filled, LoadCall}
use Rattle.types.specs.Counts.{CountsFit}
use Rattle.rule_file.specs.Writing.{file_length, Unwritable, counts_unfit, entry_at_fault, node_at_fault, too_long, WriteCall}
use Rattle.rule_file.specs.Accepted.{Holds, LoadedRule, TypePlace, NodePlace, Placed, whole_length, whole_head, whole_records, whole_room, at_unended, at_mark, at_number, at_new, at_end, RefusedAt, WritesBack, LoadsBack}
use Rattle.rule_file.proofs.Questions.{no_question, same_question, or_else_none, or_else_some}
use Rattle.rule_file.proofs.TypeRecords.{OnType, types_refused}
use Rattle.rule_file.proofs.NodeRecords.{OnNode, nodes_refused}
use Rattle.rule_file.proofs.Rules.{head_asked, Headed, headed, length_types, length_nodes, types_counted, nodes_counted, file_long, entries_back, nodes_back, rule_passes, some_node, passed_rule, passed_room, passed_file, entries_many, nodes_many}

-- Answers.

ok_answer : (x l : Loaded) (o : Option Question) → answer_of x o ≡ Ok l → (o ≡ None) × (x ≡ l)
ok_answer x l None e = (refl, cc)
ok_answer x l (Some q) e = absurd (cc)

err_answer : (x : Loaded) (r : Refusal) (o : Option Question) → answer_of x o ≡ Err r → (q : Question) × (o ≡ Some q) × (r ≡ in_file q)
err_answer x r None e = absurd (cc)
err_answer x r (Some q) e = (q, refl, cc)

abbrev counted : List ℕ → Loaded
counted file = record { nodes = node_count file; count = 6 + type_count file }

same_counts : {a b c d : ℕ} → a ≡ b → c ≡ d → ◌≡◌ {A = Loaded} (record { nodes = a; count = c }) (record { nodes = b; count = d })
same_counts p q = λ i. record { nodes = p i; count = q i }

-- Load.

pub loaded_rule : (file : List ℕ) (nodes : List Node) (types : List Entry) (r : Result Loaded Refusal) (nodes' : List Node) (types' : List Entry)
    → Bytes file → LoadCall file nodes types r nodes' types' → LoadedRule file (length nodes) (length types) r nodes' types'
loaded_rule file nodes types (Ok l) nodes' types' bytes call =
    let a = ok_answer (counted file) l (load_question file (length nodes) (length types)) (sym call.answer) in (
      entries_in file,
      nodes_in file,
      passed_rule file bytes _ _ a.0,
      passed_file file bytes _ _ a.0,
      passed_room file bytes _ _ a.0,
      record {
        counts = sym a.1 ∙ same_counts (sym (nodes_many file bytes _ _ a.0)) (sym (entries_many file bytes _ _ a.0));
        nodes_after = call.nodes_after;
        types_after = call.types_after;
      },
    )
loaded_rule file nodes types (Err r) nodes' types' bytes call = λ es ns rule is room.
    let a = err_answer (counted file) r (load_question file (length nodes) (length types)) (sym call.answer) in
    no_question (sym a.1 ∙ ap (λ f. load_question f (length nodes) (length types)) is ∙ rule_passes es ns rule _ _ room)

-- The places of refusals.

head_placed : (file : List ℕ) (a b c : Bool) (q : Question) → head_asked a b c ≡ Some q → Placed file q
head_placed file true true true q e = no_question (sym e)
head_placed file true true false q e = subst (Placed file) (sym (same_question e)) whole_records
head_placed file true false c q e = subst (Placed file) (sym (same_question e)) whole_head
head_placed file false b c q e = subst (Placed file) (sym (same_question e)) whole_length

room_placed : (file : List ℕ) (b : Bool) (q : Question) → cond b None (Some TableRoom) ≡ Some q → Placed file q
room_placed file true q e = no_question (sym e)
room_placed file false q e = subst (Placed file) (sym (same_question e)) whole_room

map_take : {X Y : Type 0} (f : X → Y) (k : ℕ) (xs : List X) → map f (take k xs) ≡ take k (map f xs)
map_take f zero xs = refl
map_take f (suc k) [] = refl
map_take f (suc k) (x ∷ xs) = ap (λ l. f x ∷ l) (map_take f k xs)

-- the first entries, of the given six and then of the file
first_entries : (file : List ℕ) (i : ℕ) → given_entries ++ map entry_of (take i (type_records file)) ≡ take (6 + i) (entries_in file)
first_entries file i =
    ap (λ l. given_entries ++ l) (map_take entry_of i (type_records file))
    ∙ sym (take-append-add given_entries (map entry_of (type_records file)) i)

on_type_placed : (file : List ℕ) (q : Question) (p : ℕ) → TypePlace file p → OnType q p → Placed file q
on_type_placed file q p t (inl e) = subst (Placed file) (sym e) (at_mark (inl t))
on_type_placed file q p t (inr (inl e)) = subst (Placed file) (sym e) (at_number (inl t))
on_type_placed file q p t (inr (inr e)) = subst (Placed file) (sym e) (at_new t)

type_placed : (file : List ℕ) (q : Question) → Headed file → type_questions 1 given_entries (type_records file) ≡ Some q → Placed file q
type_placed file q h e =
    let s = types_refused 1 given_entries (type_records file) q laid_given (omega arith) e in
    let few : s.0 < type_count file = rw (length_types file h) at s.1 in
    let long : length (entries_in file) ≡ 6 + type_count file =
    length-append given_entries (map entry_of (type_records file))
    ∙ ap (λ n. 6 + n) (length-map (type_records file) entry_of ∙ length_types file h) in
    let n : 6 + suc s.0 ≡ suc (6 + s.0) = omega arith in
    on_type_placed file q (1 + s.0) (
      s.0,
      few,
      refl,
      (
        rw long (omega arith),
        subst LaidDown (first_entries file s.0) s.3,
        λ d. s.4 (subst LaidDown (ap (λ k. take k (entries_in file)) (sym n) ∙ sym (first_entries file (suc s.0))) d),
      ),
    )
    s.2

on_node_placed : (file : List ℕ) (q : Question) (p : ℕ) (last : Type 0) → NodePlace file p → (last → p ≡ 1 + type_count file + node_count file)
    → OnNode q p last → Placed file q
on_node_placed file q p last t end (inl e) = subst (Placed file) (sym e) (at_unended t)
on_node_placed file q p last t end (inr (inl e)) = subst (Placed file) (sym e) (at_mark (inr t))
on_node_placed file q p last t end (inr (inr (inl e))) = subst (Placed file) (sym e) (at_number (inr t))
on_node_placed file q p last t end (inr (inr (inr e))) = subst (Placed file) (sym e.0) (at_end t (end e.1))

-- nodes with no fault but their end begin some term
begun : (types k : ℕ) (ns : List Node) → (fault types 1 (take k ns) ≡ None) ⊎ (fault types 1 (take k ns) ≡ Some k) → Begins types (take k ns)
begun types k ns (inl e) =
    let t = judged types (take k ns) None (sym e) in
    (t.0, [], t.1 ∙ sym (append-nil (take k ns)), subst (AllInRange types) (sym (append-nil (take k ns))) t.2)
begun types k ns (inr e) =
    let t = judged types (take k ns) (Some k) (sym e) in
    let n : k ≤ k = omega arith in
    subst (Begins types) (take-take k k ns n) t.1

node_placed : (file : List ℕ) (q : Question) → Headed file
    → node_questions (1 + type_count file) (6 + type_count file) 1 (node_records file) ≡ Some q → Placed file q
node_placed file q h e =
    let s = nodes_refused (1 + type_count file) (6 + type_count file) 1 (node_records file) q e in
    let few : s.0 ≤ node_count file = rw (length_nodes file h) at s.1 in
    on_node_placed file q (1 + type_count file + s.0) (s.0 ≡ length (node_records file)) (
      s.0,
      few,
      refl,
      begun (6 + type_count file) s.0 (nodes_in file) s.3,
      first_or s.4,
    )
    (λ l. ap (λ k. 1 + type_count file + k) (l ∙ length_nodes file h))
    s.2
  where
    first_or : {k : ℕ} {B : Type 0} → (fault (6 + type_count file) 1 (nodes_in file) ≡ Some k) ⊎ B
        → FirstFault (6 + type_count file) (nodes_in file) k ⊎ B
    first_or {k} (inl f) = inl (judged (6 + type_count file) (nodes_in file) (Some k) (sym f))
    first_or (inr b) = inr b

-- each question of load in turn
load_placed : (file : List ℕ) (node_room type_room : ℕ) (q : Question) → load_question file node_room type_room ≡ Some q → Placed file q
load_placed file node_room type_room q e = at_head (head_question file) refl
  where
    at_body : Headed file → (o : Option Question) → type_questions 1 given_entries (type_records file) ≡ o → body_question file ≡ Some q → Placed file q
    at_body h None o f = node_placed file q h (sym (or_else_none (type_questions 1 given_entries (type_records file)) _ o) ∙ f)
    at_body h (Some w) o f = type_placed file q h (o ∙ sym (or_else_some (type_questions 1 given_entries (type_records file)) _ w o) ∙ f)

    at_room : Headed file → (o : Option Question) → room_question (type_count file) (node_count file) node_room type_room ≡ o
        → or_else (room_question (type_count file) (node_count file) node_room type_room) (body_question file) ≡ Some q → Placed file q
    at_room h None o f = at_body h (type_questions 1 given_entries (type_records file)) refl (sym (or_else_none (room_question (type_count file) (node_count file) node_room type_room) _ o) ∙ f)
    at_room h (Some w) o f =
        room_placed file (leb (node_count file) node_room && leb (6 + type_count file + node_count file) type_room) q
        (o ∙ sym (or_else_some (room_question (type_count file) (node_count file) node_room type_room) _ w o) ∙ f)

    at_head : (o : Option Question) → head_question file ≡ o → Placed file q
    at_head None o =
        at_room (headed file o) (room_question (type_count file) (node_count file) node_room type_room) refl
        (sym (or_else_none (head_question file) _ o) ∙ e)
    at_head (Some w) o =
        head_placed file (ltb 0 (length file) && eqb (length file % 6) 0)
        (is_head (sort_by_mark (take 6 file)) && head_fits_lem (type_count file) (node_count file))
        (eqb (length file) (6 * (1 + type_count file + node_count file))) q
        (o ∙ sym (or_else_some (head_question file) _ w o) ∙ e)

pub refused_at : (file : List ℕ) (nodes : List Node) (types : List Entry) (r : Result Loaded Refusal) (nodes' : List Node) (types' : List Entry)
    → LoadCall file nodes types r nodes' types' → RefusedAt file r
refused_at file nodes types (Ok l) nodes' types' call = tt
refused_at file nodes types (Err r) nodes' types' call =
    let a = err_answer (counted file) r (load_question file (length nodes) (length types)) (sym call.answer) in
    subst (λ x. Placed file x.question) (sym a.2) (load_placed file (length nodes) (length types) a.0 a.1)

-- Round trips.

taken : {X : Type 0} (xs : List X) (unused : X) (room k : ℕ) → k ≡ length xs → take k (filled xs unused room) ≡ xs
taken xs unused room k e = take_at xs _ k (sym e)

-- no question of write is answered no for the tables of a rule
module _ (es : List Entry) (ns : List Node) (rule : Rule es ns) (types : List Entry) (count room : ℕ) (is : take count types ≡ es)
    (many : count ≡ length es) (within : count ≤ length types) (fits : file_length count (length ns) ≤ room) where
  fit : CountsFit (length ns) (length types) count
  fit = record {
    some_nodes = some_node _ ns rule.term;
    few_nodes = rule.short;
    given = omega (arith, many, rule.given);
    few_types = omega (arith, many, rule.few);
    within = within;
  }

  writable_term : Whole.OneTerm count ns
  writable_term = subst (λ c. Whole.OneTerm c ns) (sym many) rule.term

  writes : {q : Question} → Unwritable ns types count room q → ⊥
  writes (counts_unfit u) = u fit
  writes (entry_at_fault {k = k} _ t) =
      t.2 (laid_front (take (suc k) (take count types)) (drop (suc k) (take count types))
      (subst LaidDown (sym is ∙ sym (take-append-drop (suc k) (take count types))) rule.table))
  writes (node_at_fault _ _ f) = f.3 writable_term
  writes (too_long _ _ _ n) = omega arith

written_back : (es : List Entry) (ns : List Node) → Rule es ns → (types : List Entry) (count : ℕ) (bytes bytes' : List ℕ) (r : Result ℕ Refusal)
    → take count types ≡ es → count ≡ length es → count ≤ length types → length (file_of es ns) ≤ length bytes
    → WriteCall ns types count bytes r bytes'
    → (r ≡ Ok (length (file_of es ns))) × (bytes' ≡ file_of es ns ++ drop (length (file_of es ns)) bytes)
written_back es ns rule types count bytes bytes' (Ok n) is many within room call =
    let long : n ≡ length (file_of es ns) = call.1 ∙ ap (λ c. file_length c (length ns)) many ∙ sym (file_long es ns rule) in (
      ap Ok long,
      call.2 ∙ ap (λ l. file_of l ns ++ drop n bytes) is ∙ ap (λ k. file_of es ns ++ drop k bytes) long,
    )
written_back es ns rule types count bytes bytes' (Err x) is many within room call =
    let long : file_length count (length ns) ≤ length bytes =
    rw many (rw (file_long es ns rule) at room) in
    absurd (writes es ns rule types count (length bytes) is many within long call.0.2)

filled_long : {X : Type 0} (xs : List X) (unused : X) (room : ℕ) → length xs ≤ length (filled xs unused room)
filled_long xs unused room = simp length-append (omega arith)

writes_back_lem : (file : List ℕ) (node_room type_room : ℕ) (r : Result Loaded Refusal) (nodes' : List Node) (types' : List Entry)
    → LoadedRule file node_room type_room r nodes' types' → WritesBack file r nodes' types'
writes_back_lem file node_room type_room (Err x) nodes' types' loaded = tt
writes_back_lem file node_room type_room (Ok l) nodes' types' loaded = λ bytes bytes' r room call.
    let es = loaded.0 in
    let ns = loaded.1 in
    let rule = loaded.2 in
    let holds = loaded.5 in
    let n : l.nodes ≡ length ns = ap (λ x. x.nodes) holds.counts in
    let c : l.count ≡ length es = ap (λ x. x.count) holds.counts in
    let nodes_is : take l.nodes nodes' ≡ ns = ap (take l.nodes) holds.nodes_after ∙ taken ns blank node_room l.nodes n in
    let types_is : take l.count types' ≡ es = ap (take l.count) holds.types_after ∙ taken es empty type_room l.count c in
    let within : l.count ≤ length types' = rw (c, holds.types_after) (filled_long es empty type_room) in
    let back = written_back es ns rule types' l.count bytes bytes' r types_is c within (rw loaded.3 at room)
    (subst (λ x. WriteCall x types' l.count bytes r bytes') nodes_is call) in (
      back.0 ∙ ap (λ f. Ok (length f)) (sym loaded.3),
      back.1 ∙ ap (λ f. f ++ drop (length f) bytes) (sym loaded.3),
    )

pub loaded_writes_back : (file : List ℕ) (nodes : List Node) (types : List Entry) (r : Result Loaded Refusal) (nodes' : List Node)
    (types' : List Entry) → Bytes file → LoadCall file nodes types r nodes' types' → WritesBack file r nodes' types'
loaded_writes_back file nodes types r nodes' types' bytes call =
    writes_back_lem file _ _ r nodes' types' (loaded_rule file nodes types r nodes' types' bytes call)

pub loads_back_lem : (nodes : List Node) (types : List Entry) (count : ℕ) (bytes : List ℕ) (r : Result ℕ Refusal) (bytes' : List ℕ)
    → WriteCall nodes types count bytes r bytes' → LoadsBack nodes types count r bytes'
loads_back_lem nodes types count bytes (Err x) bytes' call = tt
loads_back_lem nodes types count bytes (Ok n) bytes' call = λ nodes₁ nodes₂ types₁ types₂ r room load.
    let es : List Entry = take count types in
    let fits = call.0.counts in
    let many : length es ≡ count = length-take-le count types fits.within in
    let rule : Rule es nodes = record {
      table = call.0.table;
      given = rw many fits.given;
      few = rw many fits.few_types;
      term = rw many call.0.term;
      short = fits.few_nodes;
    } in
    let long : length (file_of es nodes) ≡ n = file_long es nodes rule ∙ ap (λ c. file_length c (length nodes)) many ∙ sym call.1 in
    let file : take n bytes' ≡ file_of es nodes = ap (take n) call.2 ∙ take_at (file_of es nodes) _ n long in
    let load' = subst (λ f. LoadCall f nodes₁ types₁ r nodes₂ types₂) file load in
    let ok : r ≡ Ok (counted (file_of es nodes)) =
    load'.answer ∙ ap (answer_of (counted (file_of es nodes))) (rule_passes es nodes rule _ _ room) in
    loaded_back es nodes rule nodes₁ types₁ r nodes₂ types₂ ok load'
  where
    loaded_back : (es : List Entry) (ns : List Node) (rule : Rule es ns) (nodes₁ : List Node) (types₁ : List Entry) (r : Result Loaded Refusal)
        (nodes₂ : List Node) (types₂ : List Entry) → r ≡ Ok (counted (file_of es ns)) → LoadCall (file_of es ns) nodes₁ types₁ r nodes₂ types₂
        → (loaded : Loaded) × (r ≡ Ok loaded) × Holds es ns loaded (length nodes₁) (length types₁) nodes₂ types₂
    loaded_back es ns rule nodes₁ types₁ (Err x) nodes₂ types₂ ok load = absurd (cc)
    loaded_back es ns rule nodes₁ types₁ (Ok l) nodes₂ types₂ ok load =
        let six : 6 ≤ length es = rule.given in
        let t : 6 + type_count (file_of es ns) ≡ length es = omega (arith, types_counted es ns rule) in (
          counted (file_of es ns),
          ok,
          record {
            counts = same_counts (nodes_counted es ns rule) t;
            nodes_after = load.nodes_after ∙ ap (λ x. filled x blank (length nodes₁)) (nodes_back es ns rule);
            types_after = load.types_after ∙ ap (λ x. filled x empty (length types₁)) (entries_back es ns rule);
          },
        )
