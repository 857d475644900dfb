-- What load's questions mean for rules, and the round trips between files and tables.
--   Roomy         the tables have room for a rule
--   LoadedRule    a file is loaded exactly where it is the file of a rule for which there is room, and then the tables hold that rule
--   TypePlace, NodePlace   where a type record or a node record is at fault: up to there the entries are laid down, or some
--                 term begins so, and with that record they are not, or none does
--   Placed        the place of each refusal
--   WritesBack    what a loaded rule is written to: its file
--   LoadsBack     what a written file is loaded to: its tables
-- Assumes nothing.
use Rattle.std.specs.Prelude.{◌≡◌, ℕ, ◌+◌, ◌<◌, ◌≤◌, ◌⊎◌, List, [], ◌++◌, length, take, drop, Some, Ok, Err, Result, ◌≢◌, slice_index_or}
use Rattle.calculus.specs.declared.entry.Entry.{Entry}
use Rattle.calculus.specs.declared.node.Node.{Node}
use Rattle.refusals.specs.declared.Question.{Question}
use Rattle.refusals.specs.declared.Question.TheVariants.{FileLength, FileHead, FileRecords, TableRoom, TermUnended, SectionMark, NumberRange, TypeNew, TermEnded}
use Rattle.refusals.specs.declared.Refusal.{Refusal}
use Rattle.calculus.specs.Kinds.{blank}
use Rattle.calculus.specs.Forms.{empty}
use Rattle.terms.specs.Whole.{Begins, FirstFault}
use Rattle.calculus.specs.Tables.{TableJudged}
use Rattle.rule_file.specs.declared.load.Loaded.{Loaded}
use Rattle.rule_file.specs.Records.{second_number_lem}
use Rattle.rule_file.specs.Files.{Rule, file_of}
use Rattle.rule_file.specs.Loading.{type_count, node_count, node_records, entries_in, nodes_in, filled, LoadCall}
use Rattle.rule_file.specs.Writing.{WriteCall}

-- as many nodes, and as many entries with one more for each node
abbrev pub Roomy : List Entry → List Node → ℕ → ℕ → Type 0
Roomy es ns node_room type_room = (length ns ≤ node_room) × (length es + length ns ≤ type_room)

-- the tables hold the rule, and then blanks
pub record Holds (es : List Entry) (ns : List Node) (loaded : Loaded) (node_room type_room : ℕ)
    (nodes' : List Node) (types' : List Entry) : Type 0 where
  pub counts : loaded ≡ record { nodes = length ns; count = length es }
  pub nodes_after : nodes' ≡ filled ns blank node_room
  pub types_after : types' ≡ filled es empty type_room

abbrev pub LoadedRule : List ℕ → ℕ → ℕ → Result Loaded Refusal → List Node → List Entry → Type 0
LoadedRule file node_room type_room (Ok loaded) nodes' types' =
    (es : List Entry) × (ns : List Node) × Rule es ns × (file ≡ file_of es ns) × Roomy es ns node_room type_room
    × Holds es ns loaded node_room type_room nodes' types'
LoadedRule file node_room type_room (Err refusal) nodes' types' =
    (es : List Entry) (ns : List Node) → Rule es ns → file ≡ file_of es ns → Roomy es ns node_room type_room → ⊥

-- type record i is entry 6 + i, at the place 1 + i
abbrev pub TypePlace : List ℕ → ℕ → Type 0
TypePlace file p = (i : ℕ) × (i < type_count file) × (p ≡ 1 + i) × TableJudged (entries_in file) (Some (6 + i))

-- node k stands at the place 1 + T + k; its record is at fault by what it says of the term, or by its second number alone
abbrev pub NodePlace : List ℕ → ℕ → Type 0
NodePlace file p =
    (k : ℕ) × (k ≤ node_count file) × (p ≡ 1 + type_count file + k)
    × Begins (6 + type_count file) (take k (nodes_in file))
    × (FirstFault (6 + type_count file) (nodes_in file) k ⊎ (second_number_lem (slice_index_or (node_records file) k []) ≢ 0))

pub data Placed (file : List ℕ) : Question → Type 0 where
  whole_length : Placed file FileLength
  whole_head : Placed file FileHead
  whole_records : Placed file FileRecords
  whole_room : Placed file TableRoom
  at_unended : {p : ℕ} → NodePlace file p → Placed file (TermUnended p)
  at_mark : {p : ℕ} → TypePlace file p ⊎ NodePlace file p → Placed file (SectionMark p)
  at_number : {p : ℕ} → TypePlace file p ⊎ NodePlace file p → Placed file (NumberRange p)
  at_new : {p : ℕ} → TypePlace file p → Placed file (TypeNew p)
  at_end : {p : ℕ} → NodePlace file p → p ≡ 1 + type_count file + node_count file → Placed file (TermEnded p)

abbrev pub RefusedAt : List ℕ → Result Loaded Refusal → Type 0
RefusedAt file (Ok loaded) = Unit {0}
RefusedAt file (Err refusal) = Placed file refusal.question

-- after a load, writing the first nodes and entries as it answered them returns the file, byte for byte
abbrev pub WritesBack : List ℕ → Result Loaded Refusal → List Node → List Entry → Type 0
WritesBack file (Ok loaded) nodes' types' =
    (bytes bytes' : List ℕ) (r : Result ℕ Refusal) → length file ≤ length bytes
    → WriteCall (take loaded.nodes nodes') types' loaded.count bytes r bytes'
    → (r ≡ Ok (length file)) × (bytes' ≡ file ++ drop (length file) bytes)
WritesBack file (Err refusal) nodes' types' = Unit {0}

-- after a write, loading the file into tables long enough returns the nodes and the entries
abbrev pub LoadsBack : List Node → List Entry → ℕ → Result ℕ Refusal → List ℕ → Type 0
LoadsBack nodes types count (Ok n) bytes' =
    (nodes₁ nodes₂ : List Node) (types₁ types₂ : List Entry) (r : Result Loaded Refusal)
    → Roomy (take count types) nodes (length nodes₁) (length types₁)
    → LoadCall (take n bytes') nodes₁ types₁ r nodes₂ types₂
    → (loaded : Loaded) × (r ≡ Ok loaded) × Holds (take count types) nodes loaded (length nodes₁) (length types₁) nodes₂ types₂
LoadsBack nodes types count (Err refusal) bytes' = Unit {0}
