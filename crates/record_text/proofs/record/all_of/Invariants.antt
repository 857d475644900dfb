use Rattle.std.proofs.Common.{take, Ok}
use Rattle.std.specs.List.{AllZip}
use Rattle.record_text.proofs.record.all_of.Given as goal

abbrev pub invariant-loop-record : goal.invariant-loop-record
invariant-loop-record g l =
    AllZip (λ r x. g.T.TryFrom.try_from_gives r (Ok x)) (take l.record-index l.records) l.all.items
