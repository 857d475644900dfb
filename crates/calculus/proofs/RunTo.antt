-- Every run stops: `run_to` computes where.
use Rattle.std.proofs.Common.{◌≡◌, ℕ, zero, suc, ◌+◌, ◌<◌, ◌≤◌, Bool, true, false, cond, leb, Some, None, Option, sym, refl, ◌∙◌, arith, leb-false, leb-true}
use mathlib.Core.Bool.{false≢true}
use Rattle.calculus.specs.declared.stop.StopCause.{StopCause}
use Rattle.calculus.specs.declared.stop.StopCause.TheVariants as cause
use Rattle.calculus.specs.Syntax.{Term, size}
use Rattle.calculus.specs.Meanings.{Meaning}
use Rattle.calculus.specs.Steps.{Step}
use Rattle.calculus.specs.Infer.{value?}
use Rattle.calculus.specs.Next.{next}
use Rattle.calculus.specs.Runs.{Stopped}
use Rattle.calculus.proofs.Values.{true_value, value_true}
use Rattle.calculus.proofs.Next.{next_step, step_next}
use Rattle.calculus.proofs.Walks.{Walk, stands, walk_more, stopped_value, stopped_stuck, stopped_spent, stopped_full}

-- a cause, the steps made and the term there
abbrev pub Outcome : Type 0
Outcome = StopCause × ℕ × Term

-- by whether the term is a value and by its next term
abbrev pub halt : Bool → Option Term → (Term → Outcome) → ℕ → Term → Outcome
halt true o go k e = (cause.Value, k, e)
halt false None go k e = (cause.Stuck, k, e)
halt false (Some w) go k e = go w

-- where a run stops from a term at which k steps are made and some are left
abbrev pub run_from : Meaning → ℕ → ℕ → ℕ → Term → Outcome
run_from m room zero k e = halt (value? e) (next m e) (λ w. (cause.Spent, k, e)) k e
run_from m room (suc left) k e =
    halt (value? e) (next m e) (λ w. cond (leb (size w) room) (run_from m room left (suc k) w) (cause.Full, k, e)) k e

abbrev pub run_to : Meaning → ℕ → ℕ → Term → Outcome
run_to m fuel room e = run_from m room fuel 0 e

module _ (m : Meaning) (fuel room : ℕ) (start : Term) where
  abbrev StopsAt : Outcome → Type 0
  StopsAt h = Stopped m fuel room h.0 h.1 start h.2

  halt_stops : {k : ℕ} {e : Term} (go : Term → Outcome) → Walk m room k start e → k ≤ fuel → (b : Bool) → value? e ≡ b
      → (o : Option Term) → next m e ≡ o → ((w : Term) → Step m e w → StopsAt (go w)) → StopsAt (halt b o go k e)
  halt_stops {e = e} go x l true p o q f = stopped_value m room x l (true_value e p)
  halt_stops {e = e} go x l false p None q f =
      stopped_stuck m room x l (λ v. false≢true (sym p ∙ value_true v)) (λ w s. cc (sym q ∙ step_next m s))
  halt_stops {e = e} go x l false p (Some w) q f = f w (next_step m e w q)

  room_stops : (k : ℕ) (e w : Term) (rest : Outcome) → Walk m room k start e → k < fuel → Step m e w → (b : Bool) → leb (size w) room ≡ b
      → (Walk m room (suc k) start w → StopsAt rest) → StopsAt (cond b rest (cause.Full, k, e))
  room_stops k e w rest x l s true p f = f (walk_more m room x s (leb-true (size w) room p))
  room_stops k e w rest x l s false p f = stopped_full m room x l s (leb-false (size w) room p)

  run_from_stops : (left k : ℕ) (e : Term) → k + left ≡ fuel → Walk m room k start e → StopsAt (run_from m room left k e)
  run_from_stops zero k e p x =
      halt_stops _ x (omega arith) (value? e) refl (next m e) refl (λ w s. stopped_spent m room x (omega arith) s)
  run_from_stops (suc left) k e p x =
      halt_stops _ x (omega arith) (value? e) refl (next m e) refl
      (λ w s. room_stops k e w (run_from m room left (suc k) w) x (omega arith) s (leb (size w) room) refl
      (λ y. run_from_stops left (suc k) w (omega arith) y))

pub run_to_stops : (m : Meaning) (fuel room : ℕ) (e : Term)
    → Stopped m fuel room (run_to m fuel room e).0 (run_to m fuel room e).1 e (run_to m fuel room e).2
run_to_stops m fuel room e = run_from_stops m fuel room e fuel 0 e (omega arith) stands
