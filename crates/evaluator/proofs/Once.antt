-- One call on a run that holds a term.
use Rattle.std.proofs.Common.{◌≡◌, ℕ, zero, suc, ◌+◌, ◌-◌, ◌<◌, ◌≤◌, List, [], length, take, Some, Ok, Err, Result, sym, refl, ap, ◌∙◌, subst, arith}
use mathlib.Core.Logic.{∥∥₁_elim, ∥∥₁_map}
use mathlib.Core.HLevel.{⊥_prop}
use lib.ListN.{length-replicate}
use Rattle.std.specs.List.{AllByRecursion}
use Rattle.calculus.specs.declared.entry.Entry.{Entry}
use Rattle.calculus.specs.declared.node.Node.{Node}
use Rattle.calculus.specs.declared.stop.StopCause.{StopCause}
use Rattle.calculus.specs.declared.stop.StopCause.TheVariants as cause
use Rattle.calculus.specs.Kinds.{blank}
use Rattle.calculus.specs.Syntax.{Ty, Term, Value, size, onto, flat}
use Rattle.calculus.specs.Tables.{LaidDown, reading}
use Rattle.calculus.specs.Meanings.{Meaning, Lawful, LawfulUnder}
use Rattle.calculus.specs.Typing.{TypesBelow, Typed}
use Rattle.calculus.specs.Runs.{steps_under, Cause, Stopped}
use Rattle.calculus.specs.Accepted.{Accepted}
use Rattle.calculus.proofs.Options.{same_value}
use Rattle.calculus.proofs.Reading.{read_once}
use Rattle.calculus.proofs.Readings.{answers_read}
use Rattle.calculus.proofs.Runs.{run_keeps_type}
use Rattle.refusals.specs.declared.Question.{Question}
use Rattle.refusals.specs.declared.Question.TheVariants as question
use Rattle.refusals.specs.declared.Refusal.{Refusal}
use Rattle.rewriter.specs.ClosedTerms.{any_type, FirstClosedFault}
use Rattle.evaluator.specs.declared.held.Held.{Held}
use Rattle.evaluator.specs.declared.outcome.Decided.{Decided}
use Rattle.evaluator.specs.declared.outcome.Ran.{Ran}
use Rattle.evaluator.specs.OneCall.{most_steps, in_run, State, blanks, Holding, FrontFits, TablesFit, FuelLeft, RunMade, CloseRefused, nothing_held, not_closed, not_value, CloseCall}
use Rattle.evaluator.specs.Safety.{ClosesWith}
use Rattle.evaluator.proofs.Flats.{take_onto, length_table}
use Rattle.evaluator.proofs.TypesKept.{run_below}
use Rattle.evaluator.proofs.Runnables.{typed_closed}
use Rattle.evaluator.proofs.Going.{not_stuck}

-- the same, with other names for its numbers
pub holding_at : {e : Term} {n n' t t' p p' r r' : ℕ} {s : State}
    → n ≡ n' → t ≡ t' → p ≡ p' → r ≡ r' → Holding e n t p r s → Holding e n' t' p' r' s
holding_at {e} {n} {n'} {t} {t'} {p} {p'} {r} {r'} {s} a b c d H =
    subst (λ (x : ℕ). Holding e n' t' p' x s) d
    (subst (λ (x : ℕ). Holding e n' t' x r s) c
    (subst (λ (x : ℕ). Holding e n' x p r s) b (subst (λ (x : ℕ). Holding e x t p r s) a H)))

-- what a call that is not refused did, by what the run held
pub record Moved (m : Meaning) (fuel n type profile room : ℕ) (r : Ran) (e : Term) (s' : State) : Type 0 where
  pub to : Term
  pub stopped : Stopped m fuel room r.cause r.made e to
  pub holding : Holding to (n + r.made) type profile room s'
  pub allowed : n + fuel ≤ most_steps
  pub profile_same : m.profile ≡ profile
  pub total : r.total ≡ n + r.made
  pub records : r.records ≡ size to

module _ {e : Term} {n type profile room : ℕ} {s : State} (H : Holding e n type profile room s) where
  noted : {h : Held} → s.run.held ≡ Some h → H.note ≡ h
  noted p = same_value H.run p

  front_long : length s.front ≡ H.note.length
  front_long = ap (λ (l : List Node). length l) H.front ∙ length_table e room H.fits ∙ sym H.length_is

  back_long : length s.back ≡ H.note.length
  back_long = ap (λ (l : List Node). length l) H.back ∙ length-replicate room blank ∙ sym H.length_is

  pub front_fits : FrontFits s.run s.front H.note
  front_fits = (H.run, front_long)

  pub tables_fit : TablesFit s H.note
  tables_fit = (front_fits, back_long)

  begins : take H.note.count s.front ≡ flat e
  begins = ap (λ (k : ℕ). take k s.front) H.count_is ∙ ap (λ (l : List Node). take (size e) l) H.front ∙ take_onto e (blanks (room - size e))

  pub total_bound : n ≤ most_steps
  total_bound = omega (arith, H.note.allowed, H.steps_are)

  pub only : (e' : Term) (rest : List Node) → s.front ≡ onto e' rest → e' ≡ e
  only e' rest p = (read_once e' e rest (blanks (room - size e)) (sym p ∙ H.front)).0

  pub shown : {h : Held} → s.run.held ≡ Some h → take h.count s.front ≡ flat e
  shown p = ap (λ (x : Held). take x.count s.front) (sym (noted p)) ∙ begins

  -- 33 is not answered no
  pub never_fault : room ≤ 4096 → TypesBelow any_type e → Accepted e type profile → {h : Held} {k : ℕ} → s.run.held ≡ Some h
      → FirstClosedFault (take h.count s.front) k → ⊥
  never_fault small narrow acc p f =
      ∥∥₁_elim acc ⊥_prop (λ t.
      f.3 (e, sym (shown p), typed_closed (reading t.0) profile t.1.typed (omega (arith, H.fits)) narrow))

  its_steps : {h : Held} → s.run.held ≡ Some h → h.steps ≡ n
  its_steps p = ap (λ (x : Held). x.steps) (sym (noted p)) ∙ H.steps_are

  pub refused_fuel : {h : Held} → s.run.held ≡ Some h → (fuel : ℕ) → (FuelLeft fuel h → ⊥) → most_steps < n + fuel
  refused_fuel {h} p fuel f =
      let q = its_steps p in
      let g : fuel ≤ most_steps - h.steps → ⊥ = f in
      omega (arith, total_bound)

  pub granted_fuel : {h : Held} → s.run.held ≡ Some h → (fuel : ℕ) → FuelLeft fuel h → n + fuel ≤ most_steps
  granted_fuel {h} p fuel f =
      let q = its_steps p in
      let g : fuel ≤ most_steps - h.steps = f in
      omega (arith, total_bound)

  pub its_profile : {h : Held} → s.run.held ≡ Some h → h.profile ≡ profile
  its_profile p = ap (λ (x : Held). x.profile) (sym (noted p)) ∙ H.profile_is

  pub moved : {m : Meaning} {fuel : ℕ} {r : Ran} {s' : State} → RunMade m fuel s r s' → Moved m fuel n type profile room r e s'
  moved {m} {fuel} {r} {s'} c =
      let h = c.note in
      let p = c.tables.0.0 in
      let k = noted p in
      let long : h.length ≡ room = ap (λ (x : Held). x.length) (sym k) ∙ H.length_is in
      let made : h.steps ≡ n = its_steps p in
      let typ : h.type_number ≡ type = ap (λ (x : Held). x.type_number) (sym k) ∙ H.type_is in
      let prof : h.profile ≡ profile = its_profile p in
      let start : c.from ≡ e = (read_once c.from e [] [] (c.reads.0 ∙ shown p)).0 in
      record {
        to = c.to;
        stopped = subst (λ (x : Term). Stopped m fuel room r.cause r.made x c.to) start
            (subst (λ (x : ℕ). Stopped m fuel x r.cause r.made c.from c.to) long c.stopped);
        holding = holding_at (ap (λ (x : ℕ). x + r.made) made) typ prof long c.holding;
        allowed = granted_fuel p fuel c.fuel_left;
        profile_same = c.profile_is ∙ prof;
        total = c.total ∙ ap (λ (x : ℕ). x + r.made) made;
        records = c.records;
      }

  module _ (small : room ≤ 4096) (narrow : TypesBelow any_type e) (acc : Accepted e type profile) where
    undecided : {q : Question} → CloseRefused s.run s.front q → (Value e → ⊥) × (q ≡ question.ValueHeld)
    undecided (nothing_held f) = absurd (f H.note front_fits)
    undecided (not_closed t f) = absurd (never_fault small narrow acc t.0 f)
    undecided (not_value {e = u} t r f) =
        (λ v. f (subst Value (sym (read_once u e [] [] (r.0 ∙ shown t.0)).0) v), refl)

    pub closes_with : (r : Result Decided Refusal) → CloseCall s.run s.front r → ClosesWith type n e r
    closes_with (Ok d) c =
        let p = c.1.0 in
        let k = noted p in (
          subst Value (read_once c.2 e [] [] (c.3.0 ∙ shown p)).0 c.4,
          c.5 ∙ ap (λ (x : Held). x.count) (sym k) ∙ H.count_is,
          c.6 ∙ its_steps p,
          c.7 ∙ ap (λ (x : Held). x.type_number) (sym k) ∙ H.type_is,
        )
    closes_with (Err x) c = let u = undecided c.2 in (u.0, c.1 ∙ ap in_run u.1)

all_under : (profile : ℕ) (m : Meaning) → LawfulUnder profile m → (k : ℕ) → AllByRecursion (LawfulUnder profile) (steps_under m k)
all_under profile m l zero = tt
all_under profile m l (suc k) = (l, all_under profile m l k)

module _ {m : Meaning} {fuel n type profile room : ℕ} {r : Ran} {e : Term} {s' : State} (L : Lawful m)
    (M : Moved m fuel n type profile room r e s') where
  pub keeps : (es : List Entry) (τ : Ty) → LaidDown es → 6 ≤ length es
      → Typed (reading es) profile [] e τ → Typed (reading es) profile [] M.to τ
  keeps es τ d g t =
      run_keeps_type (reading es) profile (answers_read es d g) (all_under profile m (L, M.profile_same) r.made) t
      M.stopped.steps

  pub still : Accepted e type profile → Accepted M.to type profile
  still acc = ∥∥₁_map acc (λ t.
      let a = t.1 in (
        t.0,
        record {
          table = a.table;
          given = a.given;
          named = run_below (length t.0) (omega (arith, a.given)) a.named M.stopped.steps;
          within = a.within;
          typed = keeps t.0 (reading t.0 type) a.table a.given a.typed;
        },
      ))

  pub still_narrow : TypesBelow any_type e → TypesBelow any_type M.to
  still_narrow b = run_below any_type (omega arith) b M.stopped.steps

  pub never_stuck : room ≤ 4096 → Accepted e type profile → r.cause ≡ cause.Stuck → ⊥
  never_stuck small acc p =
      let c : Cause m fuel room cause.Stuck r.made M.to = subst (λ (x : StopCause). Cause m fuel room x r.made M.to) p M.stopped.true_there in
      not_stuck m type profile M.to (L, M.profile_same) (still acc) (omega (arith, M.holding.fits)) c.0 c.1
