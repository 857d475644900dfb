use Rattle.std.proofs.Common.{sym, ◌∙◌, arith}
use Rattle.std.proofs.lemmas.List.{length-take-le}
use Rattle.types.proofs.Adding.{index_found, index_missing, kept_found, set_missing}
use Rattle.types.proofs.table.add.Goals as goal

pub returns-in-Some : goal.returns-in-Some
returns-in-Some c =
    let f = c.in-Some.ensures.first in
    let k = kept_found _ _ _ _ c.requires.room f in
    record { number = sym (index_found _ _ _ f); count = k.0; after = k.1 }

pub returns : goal.returns
returns c =
    let f = c.in_default.ensures.first in
    let k = set_missing _ _ _ c.requires.room f in
    let long = length-take-le c.args.count c.args.types.now (omega arith) in
    record { number = sym (index_missing _ _ f ∙ long); count = k.0; after = k.1 }
