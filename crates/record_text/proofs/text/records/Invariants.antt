use Rattle.std.proofs.Common.{◌≡◌, [], length}
use Rattle.record_text.proofs.text.records.Given as goal

-- what is left of an empty text is empty
abbrev pub invariant-loop-part : goal.invariant-loop-part
invariant-loop-part l =
    l.text ≡ [] → (length l.part-iterator.rest.now ≡ 0) × (l.all.items ≡ [])
