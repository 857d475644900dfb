use Rattle.std.proofs.lemmas.List.{take_rest}
use Rattle.rewriter.proofs.Finding.{found_value, found_variable, stuck, ready, redex_at}
use Rattle.rewriter.proofs.redex.find_redex.Goals as goal

pub returns-in-None : goal.returns-in-None
returns-in-None c = record {
  found = λ t is. stuck _ _ _ c.in-Eliminator.ensures.value t is _ (rw take_rest at c.in-None.ensures.value);
}

pub returns-in-Value : goal.returns-in-Value
returns-in-Value c = record { found = found_value _ c.in-Value.ensures.value }

pub returns-in-Variable : goal.returns-in-Variable
returns-in-Variable c = record {
  found = λ t is. let r = found_variable _ c.in-Variable.ensures.value t is in (r.0, λ m l. r.1 m);
}

pub returns-in-Some : goal.returns-in-Some
returns-in-Some c =
    let v = rw take_rest at c.in-Some.ensures.value in
    record {
      found = (
        redex_at _ _ _ c.in-Eliminator.ensures.value c.requires.0 c.requires.1 _ _ _ v c.past_eliminator.ensures.end,
        λ t is. ready _ _ _ c.in-Eliminator.ensures.value t is _ _ v,
      );
    }
