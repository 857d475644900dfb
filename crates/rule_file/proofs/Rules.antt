-- A file is loaded exactly where it is the file of a rule. Assumes nothing.
use Rattle.std.proofs.Common.{◌≡◌, ℕ, suc, ◌+◌, ◌-◌, ◌*◌, ◌/◌, ◌%◌, ◌≤◌, Bool, true, false, cond, ◌&&◌, eqb, ltb, leb, List, [], ◌∷◌, ◌++◌, map, length, take, drop, Some, None, Option, sym, refl, ap, ◌∙◌, subst, arith, length-append, take-append-drop}
use native.Mathlib.Nat.{mul-div_right}
use lib.ListN.{length-map}
use Rattle.std.specs.List.{flat_map}
use Rattle.std.specs.Simd.{first_chunks}
use Rattle.std.proofs.lemmas.List.{append-nil, length-take-le, length-drop, take_at, take_all, drop_at, get_or-take}
use Rattle.std.proofs.lemmas.List.Concat.{flat_map-append}
use Rattle.std.proofs.lemmas.Bool.{true≢false, and_parts, and_from, eqb-true, lt-ltb, leb-true, le-leb, eq-eqb}
use Rattle.calculus.specs.declared.entry.Entry.{Entry}
use Rattle.calculus.specs.declared.node.Node.{Node}
use Rattle.refusals.specs.declared.Question.{Question}
use Rattle.refusals.specs.declared.Question.TheVariants.{FileLength, FileHead, FileRecords, TableRoom}
use Rattle.terms.specs.Scan.{fault}
use Rattle.terms.specs.Whole.{OneTerm}
use Rattle.terms.proofs.Fault.{judged, fault_of_term}
use Rattle.terms.proofs.Places.{some_none}
use Rattle.calculus.specs.Tables.{given_entries, LaidDown}
use Rattle.types.proofs.Laid.{laid_given}
use Rattle.rule_file.specs.Files.{Rule, head_bytes, entry_bytes, node_bytes, file_of, Bytes}
use Rattle.rule_file.specs.Records.{sort_by_mark, is_head, first_number_lem, second_number_lem, entry_of, node_of}
use Rattle.rule_file.specs.Loading.{records, type_count, node_count, type_records, node_records, head_fits_lem, head_question, SectionsOf, room_question, type_questions, node_questions, load_question, entries_in, nodes_in}
use Rattle.rule_file.specs.Accepted.{Roomy}
use Rattle.rule_file.proofs.Marks.{entry_six, node_six}
use Rattle.rule_file.proofs.Decode.{number_low_high, head_back}
use Rattle.rule_file.proofs.Pieces.{itself, Sixes, bytes_take, bytes_drop, length_joined, cut_join, cut_pieces, cut_sixes, sixes_take, sixes_drop, length_chunked}
use Rattle.rule_file.proofs.Questions.{no_question, or_else_parts, or_else_both}
use Rattle.rule_file.proofs.TypeRecords.{types_accepted, types_forth}
use Rattle.rule_file.proofs.NodeRecords.{nodes_accepted, nodes_forth}

-- The head.

abbrev pub head_asked : Bool → Bool → Bool → Option Question
head_asked a b c = cond a (cond b (cond c None (Some FileRecords)) (Some FileHead)) (Some FileLength)

head_passed : (a b c : Bool) → head_asked a b c ≡ None → (a ≡ true) × (b ≡ true) × (c ≡ true)
head_passed true true true e = (refl, refl, refl)
head_passed true true false e = no_question e
head_passed true false c e = no_question e
head_passed false b c e = no_question e

head_yes : (a b c : Bool) → a ≡ true → b ≡ true → c ≡ true → head_asked a b c ≡ None
head_yes true true true p q r = refl
head_yes true true false p q r = absurd (true≢false (sym r))
head_yes true false c p q r = absurd (true≢false (sym q))
head_yes false b c p q r = absurd (true≢false (sym p))

-- what questions 1 to 3 make sure of
pub record Headed (file : List ℕ) : Type 0 where
  pub mark : is_head (sort_by_mark (take 6 file)) ≡ true
  pub few_types : type_count file ≤ 1024
  pub some_nodes : 1 ≤ node_count file
  pub few_nodes : node_count file ≤ 4096
  pub long : length file ≡ 6 * (1 + type_count file + node_count file)

pub headed : (file : List ℕ) → head_question file ≡ None → Headed file
headed file e =
    let p = head_passed (ltb 0 (length file) && eqb (length file % 6) 0)
    (is_head (sort_by_mark (take 6 file)) && head_fits_lem (type_count file) (node_count file))
    (eqb (length file) (6 * (1 + type_count file + node_count file))) e in
    let q = and_parts (is_head (sort_by_mark (take 6 file))) (head_fits_lem (type_count file) (node_count file)) p.1 in
    let t = and_parts (leb (type_count file) 1024) (leb 1 (node_count file) && leb (node_count file) 4096) q.1 in
    let n = and_parts (leb 1 (node_count file)) (leb (node_count file) 4096) t.1 in
    record {
      mark = q.0;
      few_types = leb-true _ _ t.0;
      some_nodes = leb-true _ _ n.0;
      few_nodes = leb-true _ _ n.1;
      long = eqb-true _ _ p.2;
    }

head_none : (file : List ℕ) → Headed file → head_question file ≡ None
head_none file h =
    let m : length file % 6 ≡ 0 = omega (arith, h.long) in
    head_yes (ltb 0 (length file) && eqb (length file % 6) 0)
    (is_head (sort_by_mark (take 6 file)) && head_fits_lem (type_count file) (node_count file))
    (eqb (length file) (6 * (1 + type_count file + node_count file)))
    (and_from _ _ (lt-ltb 0 (length file) (omega (arith, h.long))) (eq-eqb _ _ m))
    (and_from _ _ h.mark (and_from _ _ (le-leb _ _ h.few_types) (and_from _ _ (le-leb _ _ h.some_nodes) (le-leb _ _ h.few_nodes))))
    (eq-eqb _ _ h.long)

-- The sections of a file.

-- the records past the head
abbrev body : List ℕ → List (List ℕ)
body file = first_chunks 6 (type_count file + node_count file) (drop 6 file)

module _ (file : List ℕ) (h : Headed file) where
  many : length file / 6 ≡ suc (type_count file + node_count file)
  many =
      let n : length file ≡ 6 * suc (type_count file + node_count file) = omega (arith, h.long) in
      ap (λ l. l / 6) n ∙ mul-div_right (suc (type_count file + node_count file)) (omega arith)

  records_are : records file ≡ take 6 file ∷ body file
  records_are = ap (λ k. first_chunks 6 k file) many

  length_body : length (body file) ≡ type_count file + node_count file
  length_body = length_chunked (type_count file + node_count file) (drop 6 file)

  types_are : type_records file ≡ take (type_count file) (body file)
  types_are = ap (λ l. take (type_count file) (drop 1 l)) records_are

  nodes_are : node_records file ≡ drop (type_count file) (body file)
  nodes_are =
      let n : 1 + type_count file ≡ suc (type_count file) = omega arith in
      ap (λ l. take (node_count file) (drop (1 + type_count file) l)) records_are
      ∙ ap (λ k. take (node_count file) (drop k (take 6 file ∷ body file))) n
      ∙ take_all (node_count file) (drop (type_count file) (body file)) (simp length-drop (omega (arith, length_body)))

  pub length_types : length (type_records file) ≡ type_count file
  length_types = ap length types_are ∙ length-take-le (type_count file) (body file) (omega (arith, length_body))

  pub length_nodes : length (node_records file) ≡ node_count file
  length_nodes = ap length nodes_are ∙ simp length-drop (omega (arith, length_body))

  body_long : length (drop 6 file) ≡ 6 * (type_count file + node_count file)
  body_long = simp length-drop (omega (arith, h.long))

  -- a file is its head and its two sections
  file_is : file ≡ take 6 file ++ (flat_map itself (type_records file) ++ flat_map itself (node_records file))
  file_is =
      sym (take-append-drop 6 file)
      ∙ ap (λ l. take 6 file ++ l)
      (sym (cut_join (type_count file + node_count file) (drop 6 file) body_long)
      ∙ ap (flat_map itself) (sym (take-append-drop (type_count file) (body file)))
      ∙ flat_map-append itself (take (type_count file) (body file)) (drop (type_count file) (body file))
      ∙ ap (λ l. flat_map itself l ++ flat_map itself (drop (type_count file) (body file))) (sym types_are)
      ∙ ap (λ l. flat_map itself (type_records file) ++ flat_map itself l) (sym nodes_are))

-- the two parts of what lies behind the first record are the sections
pub sections_of : (file : List ℕ) (chunks types nodes : List (List ℕ)) (t : ℕ) → head_question file ≡ None → chunks ≡ records file
    → t ≡ type_count file → types ≡ take t (take (length chunks - 1) (drop 1 chunks))
    → nodes ≡ drop t (take (length chunks - 1) (drop 1 chunks)) → SectionsOf file types nodes
sections_of file chunks types nodes t passed is many_types front back =
    let h = headed file passed in
    let behind : take (length chunks - 1) (drop 1 chunks) ≡ body file =
    take_all (length chunks - 1) (drop 1 chunks) (simp length-drop (omega arith)) ∙ ap (drop 1) (is ∙ records_are file h) in
    let first : types ≡ type_records file = front ∙ ap (take t) behind ∙ ap (λ n. take n (body file)) many_types ∙ sym (types_are file h) in
    let second : nodes ≡ node_records file = back ∙ ap (drop t) behind ∙ ap (λ n. drop n (body file)) many_types ∙ sym (nodes_are file h) in
    let type_total : length types ≡ type_count file = ap length first ∙ length_types file h in
    let node_total : length nodes ≡ node_count file = ap length second ∙ length_nodes file h in
    record {
      head = record {
        yes_so_far = passed;
        types_are = type_total;
        nodes_are = node_total;
        few_types = omega (arith, h.few_types);
        some_nodes = omega (arith, h.some_nodes);
        few_nodes = omega (arith, h.few_nodes);
        length_is = omega (arith, h.long);
      };
      types_are = first;
      nodes_are = second;
    }

-- The files of rules pass every question.

given_front : (es : List Entry) → LaidDown es → 6 ≤ length es → es ≡ given_entries ++ drop 6 es
given_front [] d h = absurd (omega arith)
given_front (a ∷ []) d h = absurd (omega arith)
given_front (a ∷ (b ∷ [])) d h = absurd (omega arith)
given_front (a ∷ (b ∷ (x ∷ []))) d h = absurd (omega arith)
given_front (a ∷ (b ∷ (x ∷ (y ∷ [])))) d h = absurd (omega arith)
given_front (a ∷ (b ∷ (x ∷ (y ∷ (z ∷ []))))) d h = absurd (omega arith)
given_front (a ∷ (b ∷ (x ∷ (y ∷ (z ∷ (w ∷ rest)))))) d h =
    let ea = d.begins 0 (omega arith) (omega arith) in
    let eb = d.begins 1 (omega arith) (omega arith) in
    let ex = d.begins 2 (omega arith) (omega arith) in
    let ey = d.begins 3 (omega arith) (omega arith) in
    let ez = d.begins 4 (omega arith) (omega arith) in
    let ew = d.begins 5 (omega arith) (omega arith) in
    λ i. ea i ∷ (eb i ∷ (ex i ∷ (ey i ∷ (ez i ∷ (ew i ∷ rest)))))

-- a term has a node
pub some_node : (types : ℕ) (ns : List Node) → OneTerm types ns → 1 ≤ length ns
some_node types [] t = absurd (some_none 0 (fault_of_term types [] t))
some_node types (n ∷ ns) t = omega arith

-- question 4 is answered yes
room_none : (b : Bool) (q : Question) → b ≡ true → cond b None (Some q) ≡ None
room_none true q e = refl
room_none false q e = absurd (true≢false (sym e))

head_sort : (rest : List ℕ) (a b c d : ℕ) → is_head (sort_by_mark (take 6 (82 ∷ (85 ∷ (a ∷ (b ∷ (c ∷ (d ∷ rest)))))))) ≡ true
unfolding sort_by_mark
head_sort rest a b c d = refl

module _ (es : List Entry) (ns : List Node) (rule : Rule es ns) where
  abbrev file : List ℕ
  file = file_of es ns

  pub types_counted : type_count file ≡ length es - 6
  types_counted = number_low_high (length es - 6) (omega (arith, rule.few))

  pub nodes_counted : node_count file ≡ length ns
  nodes_counted = number_low_high (length ns) (omega (arith, rule.short))

  later : length (drop 6 es) ≡ length es - 6
  later = length-drop 6 es

  pub file_long : length file ≡ 6 * (1 + (length es - 6) + length ns)
  file_long =
      let a = length-append (flat_map entry_bytes (drop 6 es)) (flat_map node_bytes ns) in
      let b = length_joined entry_bytes entry_six (drop 6 es) in
      let c = length_joined node_bytes node_six ns in
      let d = later in
      omega arith

  pub rule_headed : Headed file
  rule_headed = record {
    mark = head_sort (flat_map entry_bytes (drop 6 es) ++ flat_map node_bytes ns) _ _ _ _;
    few_types = rw types_counted (omega (arith, rule.few));
    some_nodes = rw nodes_counted (some_node _ ns rule.term);
    few_nodes = rw nodes_counted rule.short;
    long = file_long ∙ ap (λ t. 6 * (1 + t + length ns)) (sym types_counted) ∙ ap (λ n. 6 * (1 + type_count file + n)) (sym nodes_counted);
  }

  body_are : body file ≡ map entry_bytes (drop 6 es) ++ map node_bytes ns
  body_are =
      let n : type_count file + node_count file ≡ length (drop 6 es) + (length ns + 0) =
      omega (arith, types_counted, nodes_counted, later) in
      ap (λ k. first_chunks 6 k (flat_map entry_bytes (drop 6 es) ++ flat_map node_bytes ns)) n
      ∙ cut_pieces entry_bytes entry_six (drop 6 es) (length ns + 0) (flat_map node_bytes ns)
      ∙ ap (λ l. map entry_bytes (drop 6 es) ++ l)
      (ap (first_chunks 6 (length ns + 0)) (sym (append-nil (flat_map node_bytes ns)))
      ∙ cut_pieces node_bytes node_six ns 0 [] ∙ append-nil (map node_bytes ns))

  mapped_long : length (map entry_bytes (drop 6 es)) ≡ type_count file
  mapped_long = length-map (drop 6 es) entry_bytes ∙ later ∙ sym types_counted

  type_records_are : type_records file ≡ map entry_bytes (drop 6 es)
  type_records_are = types_are file rule_headed ∙ ap (take (type_count file)) body_are ∙ take_at _ _ _ mapped_long

  node_records_are : node_records file ≡ map node_bytes ns
  node_records_are = nodes_are file rule_headed ∙ ap (drop (type_count file)) body_are ∙ drop_at _ _ _ mapped_long

  whole : LaidDown (given_entries ++ drop 6 es)
  whole = subst LaidDown (given_front es rule.table rule.given) rule.table

  types_pass : (type_questions 1 given_entries (map entry_bytes (drop 6 es)) ≡ None) × (map entry_of (map entry_bytes (drop 6 es)) ≡ drop 6 es)
  types_pass = types_forth 1 given_entries (drop 6 es) whole (omega arith) (omega (arith, later, rule.few))

  nodes_pass : (node_questions (1 + type_count file) (6 + type_count file) 1 (map node_bytes ns) ≡ None) × (map node_of (map node_bytes ns) ≡ ns)
  nodes_pass =
      let n : 6 + type_count file ≡ length es = omega (arith, types_counted, rule.given) in
      nodes_forth (1 + type_count file) (6 + type_count file) 1 ns (omega (arith, n, rule.few))
      (ap (λ t. fault t 1 ns) n ∙ fault_of_term (length es) ns rule.term)

  pub entries_back : entries_in file ≡ es
  entries_back = ap (λ l. given_entries ++ map entry_of l) type_records_are ∙ ap (λ l. given_entries ++ l) types_pass.1
      ∙ sym (given_front es rule.table rule.given)

  pub nodes_back : nodes_in file ≡ ns
  nodes_back = ap (map node_of) node_records_are ∙ nodes_pass.1

  pub rule_passes : (node_room type_room : ℕ) → Roomy es ns node_room type_room → load_question file node_room type_room ≡ None
  rule_passes node_room type_room room =
      or_else_both (head_question file) _ (head_none file rule_headed)
      (or_else_both (room_question (type_count file) (node_count file) node_room type_room) _
      (room_none _ _ (and_from _ _ (le-leb (node_count file) node_room (omega (arith, nodes_counted, room.0)))
      (le-leb (6 + type_count file + node_count file) type_room (omega (arith, types_counted, nodes_counted, rule.given, room.1)))))
      (or_else_both (type_questions 1 given_entries (type_records file)) _
      (ap (type_questions 1 given_entries) type_records_are ∙ types_pass.0)
      (ap (node_questions (1 + type_count file) (6 + type_count file) 1) node_records_are ∙ nodes_pass.0)))

-- A file that passes every question is the file of the rule that it says.

front_numbers : (file : List ℕ) → (first_number_lem (take 6 file) ≡ first_number_lem file) × (second_number_lem (take 6 file) ≡ second_number_lem file)
front_numbers file =
    let a = get_or-take 6 file 2 0 (omega arith) in
    let b = get_or-take 6 file 3 0 (omega arith) in
    let c = get_or-take 6 file 4 0 (omega arith) in
    let d = get_or-take 6 file 5 0 (omega arith) in
    (omega arith, omega arith)

room_parts : (types nodes node_room type_room : ℕ) → room_question types nodes node_room type_room ≡ None
    → (nodes ≤ node_room) × (6 + types + nodes ≤ type_room)
room_parts types nodes node_room type_room e =
    let p = and_parts (leb nodes node_room) (leb (6 + types + nodes) type_room) (yes_room (leb nodes node_room && leb (6 + types + nodes) type_room) e) in
    (leb-true _ _ p.0, leb-true _ _ p.1)
  where
    yes_room : (b : Bool) → cond b None (Some TableRoom) ≡ None → b ≡ true
    yes_room true e = refl
    yes_room false e = no_question e

module _ (file : List ℕ) (bytes : Bytes file) (node_room type_room : ℕ) (e : load_question file node_room type_room ≡ None) where
  answers : (head_question file ≡ None) × ((room_question (type_count file) (node_count file) node_room type_room ≡ None)
      × ((type_questions 1 given_entries (type_records file) ≡ None)
      × (node_questions (1 + type_count file) (6 + type_count file) 1 (node_records file) ≡ None)))
  answers =
      let a = or_else_parts (head_question file) _ e in
      let b = or_else_parts (room_question (type_count file) (node_count file) node_room type_room) _ a.1 in
      let c = or_else_parts (type_questions 1 given_entries (type_records file)) _ b.1 in
      (a.0, (b.0, c))

  pub passed_head : Headed file
  passed_head = headed file answers.0

  all_six : Sixes (body file)
  all_six = cut_sixes (type_count file + node_count file) (drop 6 file) (omega (arith, body_long file passed_head)) (bytes_drop 6 file bytes)

  type_sixes : Sixes (type_records file)
  type_sixes = subst Sixes (sym (types_are file passed_head)) (sixes_take (type_count file) (body file) all_six)

  node_sixes : Sixes (node_records file)
  node_sixes = subst Sixes (sym (nodes_are file passed_head)) (sixes_drop (type_count file) (body file) all_six)

  said_types : LaidDown (entries_in file) × (flat_map entry_bytes (map entry_of (type_records file)) ≡ flat_map itself (type_records file))
  said_types = types_accepted 1 given_entries (type_records file) laid_given (omega arith) type_sixes answers.1.1.0

  said_nodes : (fault (6 + type_count file) 1 (nodes_in file) ≡ None) × (flat_map node_bytes (nodes_in file) ≡ flat_map itself (node_records file))
  said_nodes = nodes_accepted (1 + type_count file) (6 + type_count file) 1 (node_records file) node_sixes answers.1.1.1

  pub entries_many : length (entries_in file) ≡ 6 + type_count file
  entries_many =
      length-append given_entries (map entry_of (type_records file))
      ∙ ap (λ n. 6 + n) (length-map (type_records file) entry_of ∙ length_types file passed_head)

  pub nodes_many : length (nodes_in file) ≡ node_count file
  nodes_many = length-map (node_records file) node_of ∙ length_nodes file passed_head

  pub passed_rule : Rule (entries_in file) (nodes_in file)
  passed_rule = record {
    table = said_types.0;
    given = rw entries_many (omega arith);
    few = rw entries_many (omega (arith, passed_head.few_types));
    term = rw entries_many (judged (6 + type_count file) (nodes_in file) None (sym said_nodes.0));
    short = rw nodes_many passed_head.few_nodes;
  }

  pub passed_room : Roomy (entries_in file) (nodes_in file) node_room type_room
  passed_room =
      let r = room_parts _ _ node_room type_room answers.1.0 in
      (rw nodes_many r.0, rw (entries_many, nodes_many) r.1)

  -- its head, its entries and its nodes are what the file was made of
  pub passed_file : file ≡ file_of (entries_in file) (nodes_in file)
  passed_file =
      let n = front_numbers file in
      let six : length (take 6 file) ≡ 6 = length-take-le 6 file (omega (arith, passed_head.long)) in
      let t : length (entries_in file) - 6 ≡ type_count file = omega (arith, entries_many) in
      let hd : take 6 file ≡ head_bytes (length (entries_in file) - 6) (length (nodes_in file)) =
      sym (head_back (take 6 file) six (bytes_take 6 file bytes) passed_head.mark)
      ∙ ap (λ k. head_bytes k (second_number_lem (take 6 file))) (n.0 ∙ sym t)
      ∙ ap (head_bytes (length (entries_in file) - 6)) (n.1 ∙ sym nodes_many) in
      file_is file passed_head
      ∙ ap (λ l. l ++ (flat_map itself (type_records file) ++ flat_map itself (node_records file))) hd
      ∙ ap (λ l. head_bytes (length (entries_in file) - 6) (length (nodes_in file)) ++ (l ++ flat_map itself (node_records file))) (sym said_types.1)
      ∙ ap (λ l. head_bytes (length (entries_in file) - 6) (length (nodes_in file)) ++ (flat_map entry_bytes (map entry_of (type_records file)) ++ l)) (sym said_nodes.1)
