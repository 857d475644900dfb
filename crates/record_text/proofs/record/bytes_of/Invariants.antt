use Rattle.std.proofs.Common.{◌≡◌, take}
use Rattle.std.specs.List.{flat_map}
use Rattle.record_text.specs.Records.{bytes_of_record}
use Rattle.record_text.proofs.record.bytes_of.Given as goal

abbrev pub invariant-loop-record : goal.invariant-loop-record
invariant-loop-record l = l.bytes.items ≡ flat_map bytes_of_record (take l.record-index l.records)
