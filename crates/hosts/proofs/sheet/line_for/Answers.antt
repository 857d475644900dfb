use Rattle.std.proofs.Common.{rules}
use Rattle.std.proofs.lemmas.List.{get_or_read}
use Rattle.hosts.proofs.FirstLines.{line_mapped}
use Rattle.hosts.proofs.sheet.line_for.Goals as goal

pub returns : goal.returns
returns c = record {
  value = line_mapped c.args.asked.now c.args.lines.now c.first_with_key.result c.map.result _
      (λ i l h m. search (rules, get_or_read)) c.first_with_key.ensures.first c.map.ensures.cases;
}
