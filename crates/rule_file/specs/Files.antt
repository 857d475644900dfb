-- Files: a head, type records and node records.
--   Rule          the tables of a rule: a type table, and the nodes of one term over its types
--   low_high      a number of 16 bits as two bytes, the low one first
--   entry_bytes, node_bytes, head_bytes   the records
--   file_of       the file of a rule: the head with its two counts, the entries past the given six, the nodes
--   Bytes         every number of a list is a byte
-- Assumes nothing.
use Rattle.std.specs.Prelude.{ℕ, ◌-◌, ◌/◌, ◌%◌, ◌<◌, ◌≤◌, List, [], ◌∷◌, ◌++◌, length, drop, slice_index}
use Rattle.std.specs.List.{flat_map}
use Rattle.calculus.specs.declared.entry.Entry.{Entry}
use Rattle.calculus.specs.declared.node.Node.{Node}
use Rattle.calculus.specs.Kinds.{kind_mark}
use Rattle.calculus.specs.Forms.{form_mark}
use Rattle.terms.specs.Whole.{OneTerm}
use Rattle.calculus.specs.Tables.{LaidDown}

pub record Rule (es : List Entry) (ns : List Node) : Type 0 where
  pub table : LaidDown es
  pub given : 6 ≤ length es
  pub few : length es ≤ 1030
  pub term : OneTerm (length es) ns
  pub short : length ns ≤ 4096

abbrev pub low_high : ℕ → List ℕ
low_high n = n % 256 ∷ (n / 256 % 256 ∷ [])

abbrev pub entry_bytes : Entry → List ℕ
entry_bytes e = form_mark e.form ++ (low_high e.left ++ low_high e.right)

abbrev pub node_bytes : Node → List ℕ
node_bytes n = kind_mark n.kind ++ (low_high n.number ++ low_high 0)

-- RU is 82 85
abbrev pub head_bytes : ℕ → ℕ → List ℕ
head_bytes types nodes = (82 ∷ (85 ∷ [])) ++ (low_high types ++ low_high nodes)

abbrev pub file_of : List Entry → List Node → List ℕ
file_of es ns =
    head_bytes (length es - 6) (length ns) ++ (flat_map entry_bytes (drop 6 es) ++ flat_map node_bytes ns)

abbrev pub Bytes : List ℕ → Type 0
Bytes bs = (i : ℕ) → slice_index bs i < 256
