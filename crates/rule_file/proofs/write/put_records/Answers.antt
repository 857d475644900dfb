use Rattle.std.proofs.Common.{ap, ◌∙◌, arith, rules}
use borrow.Rule.Slice.PartMut.{put_mid}
use Rattle.std.proofs.lemmas.Slice.{overwrites}
use Rattle.rule_file.proofs.Pieces.{put_piece}
use Rattle.rule_file.proofs.write.put_records.Goals as goal

pub loop-i-preserved : goal.loop-i-preserved
loop-i-preserved g c =
    let wrote = c.copy_from_slice.ensures.after ∙ c.encode-record.ensures in (
      search (rules, overwrites),
      ap (put_mid _ _ c.loop-i.bytes) wrote
          ∙ put_piece g.R.Encode.encoded g.met.R.Encode.six _ _ c.index-records-i.result _ _ _ c.loop-i-test.true
          c.index-records-i.is (omega arith) c.loop-i.invariant.1,
    )
