-- What records stand for.
--   bytes_of_record   a record's six bytes in a file: the mark, then each number, its low byte first
--   StandsForNode     a record is read as this node, or as none where no kind has its mark
--   StandsForEntry    a record is read as this entry, or as none where no form has its mark
-- Assumes nothing.
use Rattle.std.specs.Prelude.{◌≡◌, ◌≢◌, ℕ, List, ◌++◌, Result, MatchResult}
use Rattle.std.specs.Int.{w16, to_le_bytes}
use Rattle.calculus.specs.declared.kind.Kind.{Kind}
use Rattle.calculus.specs.declared.form.Form.{Form}
use Rattle.calculus.specs.declared.node.Node.{Node}
use Rattle.calculus.specs.declared.entry.Entry.{Entry}
use Rattle.calculus.specs.declared.mark.UnknownMark.{UnknownMark}
use Rattle.calculus.specs.Kinds.{kind_mark}
use Rattle.calculus.specs.Forms.{form_mark}
use Rattle.record_text.specs.declared.record.Record.{Record}

abbrev pub bytes_of_record : Record → List ℕ
bytes_of_record r = r.mark ++ to_le_bytes w16 r.first ++ to_le_bytes w16 r.second

abbrev pub StandsForNode : Record → Result Node UnknownMark → Type 0
StandsForNode r result = MatchResult result (λ n. (kind_mark n.kind ≡ r.mark) × (n.number ≡ r.first))
    (λ e. (e.0 ≡ r.mark) × ((k : Kind) → kind_mark k ≢ r.mark))

abbrev pub StandsForEntry : Record → Result Entry UnknownMark → Type 0
StandsForEntry r result =
    MatchResult result (λ e. (form_mark e.form ≡ r.mark) × (e.left ≡ r.first) × (e.right ≡ r.second))
    (λ e. (e.0 ≡ r.mark) × ((f : Form) → form_mark f ≢ r.mark))
