-- The questions of write, in order, and what write answers and leaves.
--   Writable       questions 10, 12, 13 and 14 are answered yes
--   Unwritable     the first of them that is answered no, with its place
--   file_length    how many bytes the file of so many entries and nodes has
--   WriteCall      what write answers and leaves in the byte list
-- Assumes nothing.
use Rattle.std.specs.Prelude.{◌≡◌, ℕ, ◌+◌, ◌-◌, ◌*◌, ◌<◌, ◌≤◌, List, ◌++◌, length, take, drop, Some, Ok, Err, Result}
use Rattle.calculus.specs.declared.entry.Entry.{Entry}
use Rattle.calculus.specs.declared.node.Node.{Node}
use Rattle.refusals.specs.declared.Question.{Question}
use Rattle.refusals.specs.declared.Question.TheVariants.{Counts, EntryLaid, OneTerm, ByteRoom}
use Rattle.refusals.specs.declared.Refusal.{Refusal}
use Rattle.terms.specs.Whole
use Rattle.calculus.specs.Tables.{LaidDown, TableJudged}
use Rattle.types.specs.Counts.{CountsFit}
use Rattle.rule_file.specs.Files.{file_of}
use Rattle.rule_file.specs.Loading.{in_file}

abbrev pub file_length : ℕ → ℕ → ℕ
file_length count nodes = 6 * (1 + (count - 6) + nodes)

pub record Writable (nodes : List Node) (types : List Entry) (count room : ℕ) : Type 0 where
  pub counts : CountsFit (length nodes) (length types) count
  pub table : LaidDown (take count types)
  pub term : Whole.OneTerm count nodes
  pub fits : file_length count (length nodes) ≤ room

pub data Unwritable (nodes : List Node) (types : List Entry) (count room : ℕ) : Question → Type 0 where
  counts_unfit : (CountsFit (length nodes) (length types) count → ⊥) → Unwritable nodes types count room Counts
  entry_at_fault : {k : ℕ} → CountsFit (length nodes) (length types) count → TableJudged (take count types) (Some k)
      → Unwritable nodes types count room (EntryLaid k)
  node_at_fault : {k : ℕ} → CountsFit (length nodes) (length types) count → LaidDown (take count types)
      → Whole.FirstFault count nodes k → Unwritable nodes types count room (OneTerm k)
  too_long : CountsFit (length nodes) (length types) count → LaidDown (take count types) → Whole.OneTerm count nodes
      → room < file_length count (length nodes) → Unwritable nodes types count room ByteRoom

abbrev pub WriteCall : List Node → List Entry → ℕ → List ℕ → Result ℕ Refusal → List ℕ → Type 0
WriteCall nodes types count bytes (Ok n) bytes' =
    Writable nodes types count (length bytes) × (n ≡ file_length count (length nodes))
    × (bytes' ≡ file_of (take count types) nodes ++ drop n bytes)
WriteCall nodes types count bytes (Err refusal) bytes' =
    ((q : Question) × (refusal ≡ in_file q) × Unwritable nodes types count (length bytes) q) × (bytes' ≡ bytes)
