use Rattle.std.proofs.Common.{◌≡◌, ◌*◌, ◌++◌, length, take, drop}
use Rattle.std.specs.List.{flat_map}
use Rattle.rule_file.proofs.write.put_records.Given as goal

abbrev pub invariant-loop-i : goal.invariant-loop-i
invariant-loop-i g l =
    (length l.bytes ≡ length l.initial.bytes)
    × (l.bytes ≡ flat_map g.R.Encode.encoded (take l.i l.records) ++ drop (6 * l.i) l.initial.bytes)
