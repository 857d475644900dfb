use Rattle.std.proofs.Common.{◌≡◌, ◌-◌, length, take, drop, refl, arith, length-drop}
use Rattle.std.proofs.lemmas.List.{take_all}
use Rattle.rule_file.proofs.Writes.{put_three}
use Rattle.rule_file.proofs.write.Tables.put.Goals as goal

pub returns : goal.returns
returns c =
    let es = c.args.self.now.entries.now in
    let added : take (length es - 6) (drop 6 es) ≡ drop 6 es = take_all (length es - 6) (drop 6 es) (simp length-drop (omega arith)) in
    put_three es _ _ _ _ _ _ _ c.args.self.now.given added refl
    c.put_records.ensures.after c.put_records-2.ensures.after c.put_records-3.ensures.after
