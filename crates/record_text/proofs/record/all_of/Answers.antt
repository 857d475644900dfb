use Rattle.std.proofs.Common.{rules, [], Ok, subst}
use Rattle.record_text.specs.declared.record.Record.{Record}
use Rattle.record_text.proofs.Zips.{all_zip_step}
use Rattle.record_text.proofs.record.all_of.Goals as goal

-- that the record converted is the one at the index is left to search: the code may come to it in another way
pub loop-record-preserved : goal.loop-record-preserved
loop-record-preserved g c =
    let d : Record = record { mark = []; first = 0; second = 0 } in
    all_zip_step (λ r y. g.T.TryFrom.try_from_gives r (Ok y)) c.args.records.now c.loop-record.all.items
    c.push.new.self.items c.loop-record.record-index d c.in_ok-try_from.field-0 (search rules) c.loop-record.invariant
    (subst (λ r. g.T.TryFrom.try_from_gives r (Ok c.in_ok-try_from.field-0)) (search rules)
    (subst (g.T.TryFrom.try_from_gives _) c.in_ok-try_from.was c.try_from.ensures)) (search rules)
