-- The questions of load, in order, and what load answers and leaves.
--   or_else          the first of two answers
--   reading          what is read, unless a question is answered no
--   records          a file cut into records
--   type_count, node_count   the two counts of the head
--   type_records, node_records   the records of the two sections
--   head_question    questions 1 to 3
--   HeadOf           questions 1 to 3 are answered yes, and the head has these counts
--   SectionsOf       the same, and these are the two sections
--   room_question    question 4
--   SectionsFor      questions 1 to 4 are answered yes, and these are the two sections
--   type_question    questions 6 to 8 of one type record, after the entries before it
--   type_questions   the same of each type record, in order
--   node_question    questions 5 to 7 of one node record, where so many terms are still to come
--   node_questions   the same of each node record, in order, and question 9 after the last
--   body_question    the two after each other
--   load_question    the first question that is answered no
--   RuleOf           it is none, and these are the type table and the records of the nodes
--   load_answer      what load answers
--   entries_in, nodes_in   what the two sections say
--   LoadCall         what load answers and leaves in its two tables
-- What they mean for rules is said in Accepted. Assumes nothing.
use Rattle.std.specs.Prelude.{◌≡◌, ℕ, ◌+◌, ◌-◌, ◌*◌, ◌/◌, ◌%◌, ◌≤◌, Bool, cond, ◌&&◌, List, [], ◌∷◌, ◌++◌, map, length, take, drop, replicate, Some, None, Ok, Err, Option, Result, ◌==◌, nat_le, nat_lt}
use Rattle.std.specs.Simd.{first_chunks}
use Rattle.calculus.specs.declared.entry.Entry.{Entry}
use Rattle.calculus.specs.declared.node.Node.{Node}
use Rattle.refusals.specs.declared.Layer.TheVariants.{File}
use Rattle.refusals.specs.declared.Question.{Question}
use Rattle.refusals.specs.declared.Question.TheVariants.{FileLength, FileHead, FileRecords, TableRoom, TermUnended, SectionMark, NumberRange, TypeNew, TermEnded}
use Rattle.refusals.specs.declared.Refusal.{Refusal}
use Rattle.calculus.specs.Kinds.{arity, blank}
use Rattle.calculus.specs.Forms.{empty}
use Rattle.terms.specs.Ranges.{in_range}
use Rattle.calculus.specs.Tables.{given_entries, occurs}
use Rattle.rule_file.specs.declared.load.Loaded.{Loaded}
use Rattle.rule_file.specs.Records.{sort_by_mark, is_head, is_type, is_node, first_number_lem, second_number_lem, kind_in, entry_of, node_of}

abbrev pub or_else : {A : Type 0} → Option A → Option A → Option A
or_else None later = later
or_else (Some x) later = Some x

abbrev pub reading : {A : Type 0} → Option Question → A → Result A Question
reading None x = Ok x
reading (Some q) x = Err q

abbrev pub records : List ℕ → List (List ℕ)
records file = first_chunks 6 (length file / 6) file

-- the head is the first record
abbrev pub type_count : List ℕ → ℕ
type_count file = first_number_lem file

abbrev pub node_count : List ℕ → ℕ
node_count file = second_number_lem file

abbrev pub type_records : List ℕ → List (List ℕ)
type_records file = take (type_count file) (drop 1 (records file))

abbrev pub node_records : List ℕ → List (List ℕ)
node_records file = take (node_count file) (drop (1 + type_count file) (records file))

abbrev pub head_fits_lem : ℕ → ℕ → Bool
head_fits_lem types nodes = nat_le types 1024 && (nat_le 1 nodes && nat_le nodes 4096)

abbrev pub head_question : List ℕ → Option Question
head_question file =
    cond (nat_lt 0 (length file) && length file % 6 == 0)
    (cond (is_head (sort_by_mark (take 6 file)) && head_fits_lem (type_count file) (node_count file))
    (cond (length file == 6 * (1 + type_count file + node_count file)) None (Some FileRecords))
    (Some FileHead))
    (Some FileLength)

-- questions 1 to 3 are answered yes, and these are the head's counts
pub record HeadOf (file : List ℕ) (types nodes : ℕ) : Type 0 where
  pub yes_so_far : head_question file ≡ None
  pub types_are : types ≡ type_count file
  pub nodes_are : nodes ≡ node_count file
  pub few_types : types ≤ 1024
  pub some_nodes : 1 ≤ nodes
  pub few_nodes : nodes ≤ 4096
  pub length_is : length file ≡ 6 * (1 + types + nodes)

-- questions 1 to 3 are answered yes, and these are the records of the two sections
pub record SectionsOf (file : List ℕ) (types nodes : List (List ℕ)) : Type 0 where
  pub head : HeadOf file (length types) (length nodes)
  pub types_are : types ≡ type_records file
  pub nodes_are : nodes ≡ node_records file

-- the type table has room for as many entries more as there are nodes
abbrev pub room_question : ℕ → ℕ → ℕ → ℕ → Option Question
room_question types nodes node_room type_room =
    cond (nat_le nodes node_room && nat_le (6 + types + nodes) type_room) None (Some TableRoom)

-- questions 1 to 4 are answered yes, and these are the records of the two sections
pub record SectionsFor (file : List ℕ) (node_room type_room : ℕ) (types nodes : List (List ℕ)) : Type 0 where
  pub sections : SectionsOf file types nodes
  pub room : room_question (type_count file) (node_count file) node_room type_room ≡ None

abbrev pub type_question : ℕ → List Entry → List ℕ → Option Question
type_question place earlier six =
    cond (is_type (sort_by_mark six))
    (cond (nat_lt (first_number_lem six) (length earlier) && nat_lt (second_number_lem six) (length earlier))
    (cond (occurs (entry_of six) earlier) (Some (TypeNew place)) None)
    (Some (NumberRange place)))
    (Some (SectionMark place))

abbrev pub type_questions : ℕ → List Entry → List (List ℕ) → Option Question
type_questions place earlier [] = None
type_questions place earlier (six ∷ more) =
    or_else (type_question place earlier six) (type_questions (place + 1) (earlier ++ (entry_of six ∷ [])) more)

abbrev pub node_question : ℕ → ℕ → ℕ → List ℕ → Option Question
node_question place types pending six =
    cond (pending == 0) (Some (TermUnended place))
    (cond (is_node (sort_by_mark six))
    (cond (in_range types (node_of six) && second_number_lem six == 0) None (Some (NumberRange place)))
    (Some (SectionMark place)))

abbrev pub node_questions : ℕ → ℕ → ℕ → List (List ℕ) → Option Question
node_questions place types pending [] = cond (pending == 0) None (Some (TermEnded place))
node_questions place types pending (six ∷ more) =
    or_else (node_question place types pending six)
    (node_questions (place + 1) types (pending - 1 + arity (kind_in six)) more)

abbrev pub body_question : List ℕ → Option Question
body_question file =
    or_else (type_questions 1 given_entries (type_records file))
    (node_questions (1 + type_count file) (6 + type_count file) 1 (node_records file))

abbrev pub load_question : List ℕ → ℕ → ℕ → Option Question
load_question file node_room type_room =
    or_else (head_question file)
    (or_else (room_question (type_count file) (node_count file) node_room type_room) (body_question file))

abbrev pub entries_in : List ℕ → List Entry
entries_in file = given_entries ++ map entry_of (type_records file)

abbrev pub nodes_in : List ℕ → List Node
nodes_in file = map node_of (node_records file)

-- no question is answered no, and these are the type table and the nodes' records, for which there is room
pub record RuleOf (file : List ℕ) (node_room type_room : ℕ) (es : List Entry) (nodes : List (List ℕ)) : Type 0 where
  pub all_yes : load_question file node_room type_room ≡ None
  pub entries_are : es ≡ entries_in file
  pub nodes_are : nodes ≡ node_records file
  pub entry_count : length es ≡ 6 + type_count file
  pub many_nodes : length nodes ≡ node_count file
  pub nodes_fit : length nodes ≤ node_room
  pub entries_fit : length es + length nodes ≤ type_room

abbrev pub in_file : Question → Refusal
in_file q = record { layer = File; question = q }

abbrev pub answer_of : Loaded → Option Question → Result Loaded Refusal
answer_of loaded None = Ok loaded
answer_of loaded (Some q) = Err (in_file q)

abbrev pub load_answer : List ℕ → ℕ → ℕ → Result Loaded Refusal
load_answer file node_room type_room =
    answer_of (record { nodes = node_count file; count = 6 + type_count file }) (load_question file node_room type_room)

-- a table that begins with these, and is blank past them
abbrev pub filled : {A : Type 0} → List A → A → ℕ → List A
filled xs unused room = xs ++ replicate (room - length xs) unused

-- what a table holds after a call: this after a result, and what it held after a refusal
abbrev pub unless_refused : {A B C : Type 0} → Result A B → C → C → C
unless_refused (Ok x) after before = after
unless_refused (Err e) after before = before

pub record LoadCall (file : List ℕ) (nodes : List Node) (types : List Entry) (r : Result Loaded Refusal)
    (nodes' : List Node) (types' : List Entry) : Type 0 where
  pub answer : r ≡ load_answer file (length nodes) (length types)
  pub nodes_after : nodes' ≡ unless_refused r (filled (nodes_in file) blank (length nodes)) nodes
  pub types_after : types' ≡ unless_refused r (filled (entries_in file) empty (length types)) types
