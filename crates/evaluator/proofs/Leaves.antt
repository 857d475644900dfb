-- What the steps of a run call leave in its tables, and with its questions the whole call.
use Rattle.std.proofs.Common.{◌≡◌, ℕ, ◌-◌, List, ◌++◌, length, take, Some, sym, refl, ap, ◌∙◌, subst, arith, length-take-le}
use Rattle.calculus.specs.declared.node.Node.{Node}
use Rattle.calculus.specs.Syntax.{size, flat}
use Rattle.calculus.specs.Meanings.{Meaning}
use Rattle.calculus.specs.Runs.{Stopped}
use Rattle.calculus.proofs.Reading.{length_flat}
use Rattle.evaluator.specs.declared.held.Held.{Held}
use Rattle.evaluator.specs.declared.outcome.Ran.{Ran}
use Rattle.evaluator.specs.OneCall.{State, blanks, RunMade}
use Rattle.evaluator.specs.Evaluating.{Runnable, Halted, Evaluated}
use Rattle.rewriter.proofs.Flats.{onto_flat}

module _ {m : Meaning} {fuel : ℕ} {front front' : List Node} (h : Held) (r : Ran) (E : Halted m fuel h front front' r)
    (room : length front ≡ h.length) (room' : length front' ≡ h.length) where
  -- as many records as the term has nodes
  used_size : r.records ≡ size E.to
  used_size = sym (length-take-le r.records front' (omega (arith, E.within)))
      ∙ ap (λ (l : List Node). length l) (sym E.holds) ∙ length_flat E.to

  pub evaluated : (front'' back'' : List Node) → front'' ≡ take r.records front' ++ blanks (length front' - r.records) → back'' ≡ blanks h.length
      → Evaluated m fuel h front r front'' back''
  evaluated front'' back'' f b = record {
    from = E.from;
    reads = E.reads;
    to = E.to;
    stopped = subst (λ (n : ℕ). Stopped m fuel n r.cause r.made E.from E.to) room E.stopped;
    fits = omega (arith, used_size, E.within);
    front_after = f ∙ ap (λ (l : List Node). l ++ blanks (length front' - r.records)) (sym E.holds)
        ∙ ap (λ (n : ℕ). flat E.to ++ blanks n) (ap (λ (n : ℕ). n - r.records) room' ∙ ap (λ (n : ℕ). h.length - n) used_size)
        ∙ sym (onto_flat E.to (blanks (h.length - size E.to)));
    back_after = b;
    total = E.total;
    records = used_size;
  }

pub run_made : (m m' : Meaning) (fuel : ℕ) (s : State) (h : Held) (r : Ran) (front' back' : List Node) → m' ≡ m → Runnable m fuel s h
    → Evaluated m' fuel h s.front r front' back'
    → (h' : Held) → h'.length ≡ h.length → h'.count ≡ r.records → h'.steps ≡ r.total → h'.type_number ≡ h.type_number
    → h'.profile ≡ h.profile
    → RunMade m fuel s r (record { run = record { held = Some h' }; front = front'; back = back' })
run_made m m' fuel s h r front' back' e R E h' hl hc hs ht hp = record {
  note = h;
  tables = R.tables;
  fuel_left = R.fuel_left;
  profile_is = R.profile_is;
  from = E.from;
  reads = E.reads;
  to = E.to;
  stopped = subst (λ (x : Meaning). Stopped x fuel h.length r.cause r.made E.from E.to) e E.stopped;
  holding = record {
    note = h';
    run = refl;
    length_is = hl;
    count_is = hc ∙ E.records;
    steps_are = hs ∙ E.total;
    type_is = ht;
    profile_is = hp;
    fits = E.fits;
    front = E.front_after;
    back = E.back_after;
  };
  total = E.total;
  records = E.records;
}
