-- Where a run stops: what a walk with room for each new term needs for each of the four causes.
use Rattle.std.proofs.Common.{◌≡◌, ℕ, zero, suc, ◌<◌, ◌≤◌, subst, arith}
use Rattle.calculus.specs.declared.stop.StopCause.{StopCause}
use Rattle.calculus.specs.declared.stop.StopCause.TheVariants as cause
use Rattle.calculus.specs.Syntax.{Term, Value, size}
use Rattle.calculus.specs.Meanings.{Meaning}
use Rattle.calculus.specs.Steps.{Step}
use Rattle.calculus.specs.Runs.{Run, done, onward, steps_under, Cause, cause_order, Stopped}
use Rattle.calculus.proofs.OneNext.{value_rests, one_next}

-- `Walk m room k e e'`: k steps under m lead from e to e', and each new term has room.
pub data Walk (m : Meaning) (room : ℕ) : ℕ → Term → Term → Type 0 where
  stands : {e : Term} → Walk m room zero e e
  walks : {k : ℕ} {e e' e'' : Term} → Step m e e' → size e' ≤ room → Walk m room k e' e'' → Walk m room (suc k) e e''

module _ (m : Meaning) (room : ℕ) where
  pub walk_run : {k : ℕ} {e e' : Term} → Walk m room k e e' → Run (steps_under m k) e e'
  walk_run stands = done
  walk_run (walks s h w) = onward s (walk_run w)

  -- one step more, at the end
  pub walk_more : {k : ℕ} {e e' e'' : Term} → Walk m room k e e' → Step m e' e'' → size e'' ≤ room → Walk m room (suc k) e e''
  walk_more stands s h = walks s h stands
  walk_more (walks t l w) s h = walks t l (walk_more w s h)

  -- each term before the last of a walk has a next term, for which there is room
  walk_before : {k : ℕ} {e e' : Term} → Walk m room k e e' → (j : ℕ) (v : Term) → j < k → Run (steps_under m j) e v
      → (w : Term) × Step m v w × (size w ≤ room)
  walk_before stands j v h x = absurd (omega arith)
  walk_before (walks {e' = w} s l y) zero v h done = (w, s, l)
  walk_before (walks s l y) (suc j) v h (onward t x) =
      walk_before y j v (omega arith) (subst (λ (z : Term). Run (steps_under m j) z v) (one_next m t s) x)

  -- A next term rules out value and stuck; with fuel left it rules out spent too; with room for it, every cause.
  next_early : (fuel k : ℕ) (e w : Term) → Step m e w → (c : StopCause) → cause_order c < 2 → Cause m fuel room c k e → ⊥
  next_early fuel k e w s cause.Value h x = value_rests m x s
  next_early fuel k e w s cause.Stuck h x = x.1 w s
  next_early fuel k e w s cause.Spent h x = omega arith
  next_early fuel k e w s cause.Full h x = omega arith

  fuel_early : (fuel k : ℕ) (e w : Term) → Step m e w → k < fuel → (c : StopCause) → cause_order c < 3 → Cause m fuel room c k e → ⊥
  fuel_early fuel k e w s l cause.Value h x = value_rests m x s
  fuel_early fuel k e w s l cause.Stuck h x = x.1 w s
  fuel_early fuel k e w s l cause.Spent h x = omega arith
  fuel_early fuel k e w s l cause.Full h x = omega arith

  room_early : (fuel k : ℕ) (e w : Term) → Step m e w → k < fuel → size w ≤ room → (c : StopCause) → Cause m fuel room c k e → ⊥
  room_early fuel k e w s l h cause.Value x = value_rests m x s
  room_early fuel k e w s l h cause.Stuck x = x.1 w s
  room_early fuel k e w s l h cause.Spent x = omega arith
  room_early fuel k e w s l h cause.Full x =
      let big : room < size w = subst (λ (z : Term). room < size z) (one_next m x.1 s) x.2 in
      omega arith

  walk_none : {fuel k : ℕ} {e e' : Term} → Walk m room k e e' → k ≤ fuel
      → (j : ℕ) (v : Term) → j < k → Run (steps_under m j) e v → (c : StopCause) → Cause m fuel room c j v → ⊥
  walk_none {fuel} w l j v h x c = let g = walk_before w j v h x in room_early fuel j v g.0 g.1 (omega arith) g.2 c

  value_early : (fuel k : ℕ) (e : Term) → (Value e → ⊥) → (c : StopCause) → cause_order c < 1 → Cause m fuel room c k e → ⊥
  value_early fuel k e n cause.Value h x = n x
  value_early fuel k e n cause.Stuck h x = omega arith
  value_early fuel k e n cause.Spent h x = omega arith
  value_early fuel k e n cause.Full h x = omega arith

  pub stopped_value : {fuel k : ℕ} {e e' : Term} → Walk m room k e e' → k ≤ fuel → Value e'
      → Stopped m fuel room cause.Value k e e'
  stopped_value w l v = record {
    steps = walk_run w;
    within_fuel = l;
    true_there = v;
    first_there = λ c h. absurd (omega arith);
    none_before = walk_none w l;
  }

  pub stopped_stuck : {fuel k : ℕ} {e e' : Term} → Walk m room k e e' → k ≤ fuel → (Value e' → ⊥) → ((w : Term) → Step m e' w → ⊥)
      → Stopped m fuel room cause.Stuck k e e'
  stopped_stuck {fuel} {k} {e' = e'} w l n f = record {
    steps = walk_run w;
    within_fuel = l;
    true_there = (n, f);
    first_there = value_early fuel k e' n;
    none_before = walk_none w l;
  }

  pub stopped_spent : {fuel k : ℕ} {e e' w : Term} → Walk m room k e e' → k ≡ fuel → Step m e' w
      → Stopped m fuel room cause.Spent k e e'
  stopped_spent {fuel} {k} {e' = e'} {w = w} x p s = record {
    steps = walk_run x;
    within_fuel = omega arith;
    true_there = p;
    first_there = next_early fuel k e' w s;
    none_before = walk_none x (omega arith);
  }

  pub stopped_full : {fuel k : ℕ} {e e' w : Term} → Walk m room k e e' → k < fuel → Step m e' w → room < size w
      → Stopped m fuel room cause.Full k e e'
  stopped_full {fuel} {k} {e' = e'} {w = w} x l s big = record {
    steps = walk_run x;
    within_fuel = omega arith;
    true_there = (w, s, big);
    first_there = fuel_early fuel k e' w s l;
    none_before = walk_none x (omega arith);
  }
