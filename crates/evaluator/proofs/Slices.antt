-- Lists of calls under one host, as a caller that runs in slices makes them.
--   calls_more   one call more, at the end
--   under_more   it has the same host
--   one_host     every step was made under that host
--   closed_run   what the rule became is closed
use Rattle.std.proofs.Common.{◌≡◌, ℕ, ◌+◌, List, [], ◌∷◌, ◌++◌, length, Ok, Err, Result, sym, refl, ap, ◌∙◌, subst, length-append}
use lib.ListN.{length-replicate}
use Rattle.std.proofs.lemmas.List.{replicate-append-replicate}
use Rattle.std.specs.List.{AllByRecursion}
use Rattle.std.proofs.ByRecursion.{All-push}
use Rattle.calculus.specs.Syntax.{Term}
use Rattle.calculus.specs.Meanings.{Meaning}
use Rattle.calculus.specs.Runs.{Run, steps_under}
use Rattle.refusals.specs.declared.Refusal.{Refusal}
use Rattle.evaluator.specs.declared.outcome.Decided.{Decided}
use Rattle.evaluator.specs.OneCall.{State, CloseCall}
use Rattle.evaluator.specs.Lists
use Rattle.evaluator.specs.Lists.{Call, run_call, look_call, Does, Calls, call, hosts, Under}
use Rattle.evaluator.specs.Safety.{Safe, ClosedRun}

pub calls_more : {s s' s'' : State} {cs : List Call} (c : Call) → Calls s cs s' → Does s' c s'' → Calls s (cs ++ (c ∷ [])) s''
calls_more {s'' = s''} c (Lists.none {s = s}) d = call {s = s} {s' = s''} {s'' = s''} {c = c} d Lists.none
calls_more {s'' = s''} c (call {s = s} {s' = s'} {c = b} x cs) d = call {s = s} {s' = s'} {c = b} x (calls_more c cs d)

pub under_more : (m : Meaning) (c : Call) (cs : List Call) → AllByRecursion (Under m) cs → Under m c → AllByRecursion (Under m) (cs ++ (c ∷ []))
under_more m c cs h u = All-push (Under m) cs c h u

pub one_host : (m : Meaning) (cs : List Call) → AllByRecursion (Under m) cs → hosts cs ≡ steps_under m (length (hosts cs))
one_host m [] h = refl
one_host m (run_call m' fuel (Ok r) ∷ cs) h =
    let k : length (steps_under m' r.made ++ hosts cs) ≡ r.made + length (hosts cs) =
    length-append (steps_under m' r.made) (hosts cs) ∙ ap (λ n. n + length (hosts cs)) (length-replicate r.made m') in
    ap (λ x. steps_under x r.made ++ hosts cs) h.0 ∙ ap (λ l. steps_under m r.made ++ l) (one_host m cs h.1)
    ∙ replicate-append-replicate r.made (length (hosts cs)) m ∙ ap (steps_under m) (sym k)
one_host m (run_call m' fuel (Err x) ∷ cs) h = one_host m cs h.1
one_host m (look_call a ∷ cs) h = one_host m cs h.1

pub closed_run : {rule : Term} {type profile room : ℕ} {cs : List Call} {s : State} (m : Meaning) → Safe rule type profile room cs s
    → AllByRecursion (Under m) cs → (r : Result Decided Refusal) → CloseCall s.run s.front r → ClosedRun rule type m r
closed_run {rule} {cs = cs} m S h r c = (
  length (hosts cs),
  S.held,
  subst (λ ms. Run ms rule S.held) (one_host m cs h) S.becomes,
  S.closes r c,
)
