-- Records of a file: six bytes each, a mark of two letters and two numbers of 16 bits, low byte first.
--   Sort            head, type, node or unreadable
--   sort_of_mark    what a record is by its mark, and sort_by_mark by its six bytes
--   sort_of, bytes_of                 the same of the code's records
--   is_head, is_type, is_node         which of them it is
--   first_number_lem, second_number_lem   the two numbers
--   form_in, kind_in                  the form or kind of the mark
--   entry_of, node_of                 the entry or node that the record says
-- Assumes nothing.
use Rattle.std.specs.Prelude.{ℕ, ◌+◌, ◌*◌, Bool, true, false, cond, List, slice_index}
use Rattle.calculus.specs.declared.entry.Entry.{Entry}
use Rattle.calculus.specs.declared.form.Form.{Form}
use Rattle.calculus.specs.declared.kind.Kind.{Kind}
use Rattle.calculus.specs.declared.kind.Kind.TheVariants.{Blank, Variable, Zero, Successor, Rec, Lambda, Apply, Triv, Pair, Fst, Snd, Abort, Inl, Inr, Case, Query}
use Rattle.calculus.specs.declared.node.Node.{Node}
use Rattle.calculus.specs.Kinds.{is_mark, kind_of_mark, node}
use Rattle.calculus.specs.Forms.{form_of_mark, joins, entry}
use Rattle.rule_file.specs.declared.record.Record.{Record}
use Rattle.rule_file.specs.declared.record.Record.TheVariants as record_case

pub data Sort : Type 0 where
  head : Sort
  type : Sort
  node_record : Sort
  unreadable : Sort

-- whether a kind can stand in a term
abbrev pub present : Kind → Bool
present Blank = false
present Variable = true
present Zero = true
present Successor = true
present Rec = true
present Lambda = true
present Apply = true
present Triv = true
present Pair = true
present Fst = true
present Snd = true
present Abort = true
present Inl = true
present Inr = true
present Case = true
present Query = true

-- RU is the head, TF, TP and TS are types, and the marks of the kinds are nodes
abbrev pub sort_of_mark : ℕ → ℕ → Sort
sort_of_mark a b =
    cond (is_mark 82 85 a b) head
    (cond (joins (form_of_mark a b)) type (cond (present (kind_of_mark a b)) node_record unreadable))

unfoldable pub sort_by_mark : List ℕ → Sort
sort_by_mark six = sort_of_mark (slice_index six 0) (slice_index six 1)

abbrev pub is_type : Sort → Bool
is_type head = false
is_type type = true
is_type node_record = false
is_type unreadable = false

abbrev pub is_node : Sort → Bool
is_node head = false
is_node type = false
is_node node_record = true
is_node unreadable = false

abbrev pub is_head : Sort → Bool
is_head head = true
is_head type = false
is_head node_record = false
is_head unreadable = false

abbrev pub sort_of : Record → Sort
sort_of (record_case.Head six) = head
sort_of (record_case.«Type» six) = type
sort_of (record_case.Node six) = node_record
sort_of (record_case.Unreadable six) = unreadable

abbrev pub bytes_of : Record → List ℕ
bytes_of (record_case.Head six) = six.now
bytes_of (record_case.«Type» six) = six.now
bytes_of (record_case.Node six) = six.now
bytes_of (record_case.Unreadable six) = six.now

abbrev pub first_number_lem : List ℕ → ℕ
first_number_lem six = slice_index six 2 + slice_index six 3 * 256

abbrev pub second_number_lem : List ℕ → ℕ
second_number_lem six = slice_index six 4 + slice_index six 5 * 256

-- the form and the kind of the mark, blank where it is not one of a type or of a node
unfoldable pub form_in : List ℕ → Form
form_in six = form_of_mark (slice_index six 0) (slice_index six 1)

unfoldable pub kind_in : List ℕ → Kind
kind_in six = kind_of_mark (slice_index six 0) (slice_index six 1)

abbrev pub entry_of : List ℕ → Entry
entry_of six = entry (form_in six) (first_number_lem six) (second_number_lem six)

abbrev pub node_of : List ℕ → Node
node_of six = node (kind_in six) (first_number_lem six)
