use Rattle.std.proofs.Common.{rules}
use Rattle.std.proofs.lemmas.Slice.{overwrites}
use Rattle.evaluator.proofs.tables.blank_rest.Goals as goal

pub returns : goal.returns
returns c = search (rules, overwrites)
