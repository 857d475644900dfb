-- Every list of calls.
use Rattle.std.proofs.Common.{◌≡◌, ℕ, ◌+◌, ◌≤◌, List, [], ◌∷◌, ◌++◌, length, Ok, Err, sym, refl, ◌∙◌, subst, arith, length-append}
use lib.ListN.{length-replicate}
use Rattle.std.specs.List.{AllByRecursion}
use Rattle.calculus.specs.declared.entry.Entry.{Entry}
use Rattle.calculus.specs.declared.node.Node.{Node}
use Rattle.calculus.specs.Syntax.{Ty, Term}
use Rattle.calculus.specs.Tables.{LaidDown, reading}
use Rattle.calculus.specs.Meanings.{Meaning, Lawful}
use Rattle.calculus.specs.Typing.{TypesBelow, Typed}
use Rattle.calculus.specs.Runs.{Run, done, steps_under}
use Rattle.calculus.specs.Accepted.{Accepted}
use Rattle.calculus.proofs.OneType.{one_type}
use Rattle.calculus.proofs.Runs.{runs_compose}
use Rattle.refusals.specs.declared.Question.{Question}
use Rattle.refusals.specs.declared.Refusal.{Refusal}
use Rattle.rewriter.specs.ClosedTerms.{any_type}
use Rattle.evaluator.specs.declared.outcome.Ran.{Ran}
use Rattle.evaluator.specs.OneCall.{in_run, State, Holding, Started, RunRefused, no_term, no_fuel, no_profile, no_closed, RunMade, LookCall}
use Rattle.evaluator.specs.Lists
use Rattle.evaluator.specs.Lists.{Call, run_call, look_call, Does, Calls, call, hosts}
use Rattle.evaluator.specs.Safety.{Quiet, Follows, ends, runs, overspends, differs, shows, SafeFrom, Agree, Safety}
use Rattle.evaluator.proofs.AlikeSteps.{alike_ends}
use Rattle.evaluator.proofs.Going.{goes, not_stuck}
use Rattle.evaluator.proofs.Once.{holding_at, front_fits, tables_fit, total_bound, only, never_fault, shown, refused_fuel, granted_fuel, its_profile, closes_with, moved, keeps, still, still_narrow, never_stuck}

-- what a list leaves, from a term after n steps on
record After (type profile room n : ℕ) (e : Term) (cs : List Call) (s : State) : Type 0 where
  held : Term
  holding : Holding held (n + length (hosts cs)) type profile room s
  narrow : TypesBelow any_type held
  accepted : Accepted held type profile
  typed : (es : List Entry) (τ : Ty) → LaidDown es → 6 ≤ length es
      → Typed (reading es) profile [] e τ → Typed (reading es) profile [] held τ
  quiet : AllByRecursion Quiet cs
  becomes : Run (hosts cs) e held
  follows : Follows profile room n e cs held

module _ (type profile room : ℕ) (small : room ≤ 4096) where
  -- what the calls after the first leave, from whatever it left
  abbrev Later : State → List Call → State → Type 0
  Later s' cs s'' =
      (n : ℕ) (e : Term) → Holding e n type profile room s' → TypesBelow any_type e → Accepted e type profile
      → After type profile room n e cs s''

  held_still : {s s' : State} {n : ℕ} {e : Term} → s' ≡ s → Holding e n type profile room s → Holding e n type profile room s'
  held_still {n = n} {e = e} p H = subst (λ (x : State). Holding e n type profile room x) (sym p) H

  -- a call that makes no step leaves what the calls after it leave
  idle : {n : ℕ} {e : Term} {cs : List Call} {s : State} (c : Call) → hosts (c ∷ cs) ≡ hosts cs → Quiet c
      → (A : After type profile room n e cs s) → Follows profile room n e (c ∷ cs) A.held → After type profile room n e (c ∷ cs) s
  idle {n = n} {e = e} {s = s} c same q A f = record {
    held = A.held;
    holding = subst (λ (l : List Meaning). Holding A.held (n + length l) type profile room s) (sym same) A.holding;
    narrow = A.narrow;
    accepted = A.accepted;
    typed = A.typed;
    quiet = (q, A.quiet);
    becomes = subst (λ (l : List Meaning). Run l e A.held) (sym same) A.becomes;
    follows = f;
  }

  module _ {s s' s'' : State} {cs : List Call} (later : Later s' cs s'') (n : ℕ) (e : Term)
      (H : Holding e n type profile room s) (narrow : TypesBelow any_type e) (acc : Accepted e type profile) where
    runs_on : (m : Meaning) (fuel : ℕ) (r : Ran) → Lawful m → RunMade m fuel s r s'
        → After type profile room n e (run_call m fuel (Ok r) ∷ cs) s''
    runs_on m fuel r L d =
        let M = moved H d in
        let A = later (n + r.made) M.to M.holding (still_narrow L M narrow) (still L M acc) in
        let count : n + r.made + length (hosts cs) ≡ n + length (steps_under m r.made ++ hosts cs) =
        omega (arith, length-append (steps_under m r.made) (hosts cs), length-replicate r.made m) in
        record {
          held = A.held;
          holding = holding_at count refl refl refl A.holding;
          narrow = A.narrow;
          accepted = A.accepted;
          typed = λ es τ l g t. A.typed es τ l g (keeps L M es τ l g t);
          quiet = (never_stuck L M small acc, A.quiet);
          becomes = runs_compose M.stopped.steps A.becomes;
          follows = runs M.allowed M.profile_same M.stopped M.total M.records A.follows;
        }

    refused_run : (m : Meaning) (fuel : ℕ) (q : Question) → RunRefused m fuel s q → s' ≡ s
        → After type profile room n e (run_call m fuel (Err (in_run q)) ∷ cs) s''
    refused_run m fuel q (no_term f) p = absurd (f H.note (tables_fit H))
    refused_run m fuel q (no_fuel t f) p =
        let A = later n e (held_still p H) narrow acc in
        idle (run_call m fuel (Err (in_run q))) refl (omega arith, omega arith) A (overspends (refused_fuel H t.0.0 fuel f) A.follows)
    refused_run m fuel q (no_profile t f d) p =
        let A = later n e (held_still p H) narrow acc in
        idle (run_call m fuel (Err (in_run q))) refl (omega arith, omega arith) A
        (differs (granted_fuel H t.0.0 fuel f) (λ x. d (x ∙ sym (its_profile H t.0.0))) A.follows)
    refused_run m fuel q (no_closed t f d x) p = absurd (never_fault H small narrow acc t.0.0 x)

    looked : (ns : List Node) → LookCall s.run s.front (Ok ns) → s' ≡ s
        → After type profile room n e (look_call (Ok ns) ∷ cs) s''
    looked ns d p =
        let A = later n e (held_still p H) narrow acc in
        idle (look_call (Ok ns)) refl tt A (shows (d.2 ∙ shown H d.1.0) A.follows)

  extend : {s s' s'' : State} {cs : List Call} (c : Call) → Does s c s' → Later s' cs s'' → Later s (c ∷ cs) s''
  extend (run_call m fuel (Ok r)) d later n e H narrow acc = runs_on later n e H narrow acc m fuel r d.0 d.1
  extend {s'' = s''} {cs = cs} (run_call m fuel (Err x)) d later n e H narrow acc =
      let f = d.1.0 in
      subst (λ (y : Refusal). After type profile room n e (run_call m fuel (Err y) ∷ cs) s'') (sym f.1)
      (refused_run later n e H narrow acc m fuel f.0 f.2 d.1.1)
  extend (look_call (Ok ns)) d later n e H narrow acc = looked later n e H narrow acc ns d.0 d.1
  extend (look_call (Err x)) d later n e H narrow acc = absurd (d.0.1 H.note (front_fits H))

  whole : {s s'' : State} {cs : List Call} → Calls s cs s'' → Later s cs s''
  whole Lists.none n e H narrow acc = record {
    held = e;
    holding = holding_at (omega arith) refl refl refl H;
    narrow = narrow;
    accepted = acc;
    typed = λ es τ l g d. d;
    quiet = tt;
    becomes = done;
    follows = ends;
  }
  whole (call {c = c} d cs) n e H narrow acc = extend c d (whole cs) n e H narrow acc

pub safe : (rule : Term) (type profile room : ℕ) (s₀ : State)
    → Accepted rule type profile → Started rule type profile room s₀ → SafeFrom rule type profile room s₀
safe rule type profile room s₀ acc st s cs calls =
    let A = whole type profile room st.bounded calls 0 rule st.holding st.narrow acc in
    let H : Holding A.held (length (hosts cs)) type profile room s = holding_at (omega arith) refl refl refl A.holding in
    record {
      held = A.held;
      holding = H;
      sole = only H;
      accepted = A.accepted;
      typed = A.typed;
      no_other = λ es τ σ l g d t. one_type (reading es) profile t (A.typed es τ l g d);
      goes = λ m L. goes m A.held (not_stuck m type profile A.held L A.accepted (omega (arith, H.fits, st.bounded)));
      quiet = A.quiet;
      becomes = A.becomes;
      total = total_bound H;
      follows = A.follows;
      closes = closes_with H st.bounded A.narrow A.accepted;
    }

pub agree : Agree
agree rule type profile room type' profile' room' s₀ s t₀ t cs ds acc st calls acc' st' calls' al e e' rest rest' p p' =
    let A = safe rule type profile room s₀ acc st s cs calls in
    let B = safe rule type' profile' room' t₀ acc' st' t ds calls' in
    A.sole e rest p ∙ alike_ends al A.becomes B.becomes ∙ sym (B.sole e' rest' p')

pub safety : Safety
safety = record { safe = safe; agree = agree }
