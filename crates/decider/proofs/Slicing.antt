-- Slices one after the other are a list of calls under one meaning. Assumes nothing.
use Rattle.std.proofs.Common.{◌≡◌, ℕ, ◌+◌, ◌-◌, ◌≤◌, List, [], ◌∷◌, ◌++◌, Ok, Err, sym, ap, ◌∙◌, subst, arith}
use Rattle.std.proofs.lemmas.List.{append_assoc, append-nil, replicate-append-replicate}
use Rattle.calculus.specs.declared.stop.StopCause.{StopCause}
use Rattle.calculus.specs.declared.stop.StopCause.TheVariants as cause
use Rattle.calculus.specs.Meanings.{Meaning, Lawful}
use Rattle.calculus.specs.Runs.{steps_under, Cause}
use Rattle.evaluator.specs.declared.outcome.Ran.{Ran}
use Rattle.evaluator.specs.OneCall.{State, RunMade}
use Rattle.evaluator.specs.Lists.{Call, run_call, look_call, Calls, none, hosts}
use Rattle.evaluator.proofs.Slices.{calls_more}

-- the steps of one call more
pub hosts_more : (cs : List Call) (m : Meaning) (f : ℕ) (r : Ran) → hosts (cs ++ (run_call m f (Ok r) ∷ [])) ≡ hosts cs ++ steps_under m r.made
hosts_more [] m f r = append-nil (steps_under m r.made)
hosts_more (run_call n g (Ok q) ∷ cs) m f r =
    ap (λ l. steps_under n q.made ++ l) (hosts_more cs m f r) ∙ sym (append_assoc (steps_under n q.made) (hosts cs) (steps_under m r.made))
hosts_more (run_call n g (Err x) ∷ cs) m f r = hosts_more cs m f r
hosts_more (look_call a ∷ cs) m f r = hosts_more cs m f r

-- slices so far: a list of calls from s₀ to s, and how much of the fuel is left
pub record Slicing (m : Meaning) (fuel left : ℕ) (s₀ s : State) : Type 0 where
  pub calls : List Call
  pub lead : Calls s₀ calls s
  pub under : hosts calls ≡ steps_under m (fuel - left)
  pub within : left ≤ fuel

pub slicing_first : (m : Meaning) (fuel : ℕ) (s : State) → Slicing m fuel fuel s s
slicing_first m fuel s =
    record { calls = []; lead = none; under = let z : fuel - fuel ≡ 0 = omega arith in rw z; within = omega arith }

module _ {m : Meaning} {fuel left : ℕ} {s₀ s : State} (so : Slicing m fuel left s₀ s) (lawful : Lawful m) (asked : ℕ) (most : asked ≤ left) where
  made_under : (r : Ran) → hosts (so.calls ++ (run_call m asked (Ok r) ∷ [])) ≡ steps_under m (fuel - left + r.made)
  made_under r =
      hosts_more so.calls m asked r ∙ ap (λ l. l ++ steps_under m r.made) so.under
      ∙ replicate-append-replicate (fuel - left) r.made m

  -- a spent slice made as many steps as it was asked for
  spent_made : {r : Ran} {s' : State} → RunMade m asked s r s' → r.cause ≡ cause.Spent → r.made ≡ asked
  spent_made {r} k e = subst (λ (c : StopCause). Cause m asked k.note.length c r.made k.to) e k.stopped.true_there

  pub slicing_on : {r : Ran} {s' : State} → RunMade m asked s r s' → r.cause ≡ cause.Spent → Slicing m fuel (left - asked) s₀ s'
  slicing_on {r} k e = record {
    calls = so.calls ++ (run_call m asked (Ok r) ∷ []);
    lead = calls_more (run_call m asked (Ok r)) so.lead (lawful, k);
    under =
        made_under r
        ∙ (let z : fuel - left + r.made ≡ fuel - (left - asked) = omega (arith, spent_made k e, so.within) in ap (steps_under m) z);
    within = omega (arith, so.within);
  }
