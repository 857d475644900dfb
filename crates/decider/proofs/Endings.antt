-- What became of an accepted rule, from the safety of its run. Assumes nothing.
use Rattle.std.proofs.Common.{◌≡◌, ℕ, ◌+◌, ◌-◌, ◌<◌, ◌≤◌, ◌⊎◌, List, [], ◌∷◌, ◌++◌, length, Some, None, Ok, Err, Option, Result, sym, refl, ap, ◌∙◌, subst, inl, inr, arith, true, false, is_some}
use Rattle.std.specs.List.{AllByRecursion}
use Rattle.std.specs.Option.{option_map}
use Rattle.std.proofs.lemmas.List.{replicate-append-replicate, length-replicate}
use Rattle.std.proofs.lemmas.Bool.{cases_eq, cases_lt}
use Rattle.refusals.specs.declared.Question.{Question}
use Rattle.refusals.specs.declared.Question.TheVariants as question
use Rattle.refusals.specs.declared.Refusal.{Refusal}
use Rattle.calculus.specs.declared.entry.Entry.{Entry}
use Rattle.calculus.specs.declared.node.Node.{Node}
use Rattle.calculus.specs.declared.stop.StopCause.{StopCause}
use Rattle.calculus.specs.declared.stop.StopCause.TheVariants as cause
use Rattle.calculus.specs.Syntax.{Ty, Term, Value, size}
use Rattle.calculus.specs.Tables.{LaidDown, reading}
use Rattle.calculus.specs.Meanings.{Meaning, Lawful}
use Rattle.calculus.specs.Typing.{Typed}
use Rattle.calculus.specs.Steps.{Step}
use Rattle.calculus.specs.Runs.{Run, steps_under, Cause}
use Rattle.evaluator.specs.declared.held.Held.{Held}
use Rattle.evaluator.specs.declared.outcome.Decided.{Decided}
use Rattle.evaluator.specs.declared.outcome.Ran.{Ran}
use Rattle.evaluator.specs.OneCall.{most_steps, in_run, State, blanks, Fits, StartCall, RunRefused, no_term, no_fuel, no_profile, no_closed, CloseCall}
use Rattle.evaluator.specs.Lists.{Call, run_call, hosts}
use Rattle.evaluator.specs.Safety.{Other, Quiet, Safe, SafeFrom}
use Rattle.evaluator.proofs.Slices.{calls_more}
use Rattle.evaluator.proofs.Once.{Moved, moved, refused_fuel, its_profile}
use Rattle.decider.specs.declared.decision.Undecided.TheVariants.{Stopped, Refused}
use Rattle.decider.specs.Slices.{Sliced}
use Rattle.decider.specs.Deciding.{Decision, decision, LeftBy, Ends, decides, leaves, overspends}
use Rattle.decider.proofs.Slicing.{hosts_more}

all_last : {X : Type 0} (P : X → Type 0) (xs : List X) (x : X) → AllByRecursion P (xs ++ (x ∷ [])) → P x
all_last P [] x a = a.0
all_last P (y ∷ xs) x a = all_last P xs x a.1

decided_is : (d : Decided) (records steps type : ℕ) → d.records ≡ records → d.steps ≡ steps → d.type_number ≡ type
    → ◌≡◌ {A = Decided} (record { records = records; steps = steps; type_number = type }) d
decided_is d records steps type p q r =
    let made : ℕ → ℕ → ℕ → Decided = λ x y z. record { records = x; steps = y; type_number = z } in
    ap (λ x. made x steps type) (sym p) ∙ ap (λ y. made d.records y type) (sym q) ∙ ap (λ z. made d.records d.steps z) (sym r)

-- Whether tables fit a rule.

pub fits_or_not : (rule : Term) (front back : List Node) → Fits rule front back ⊎ (Fits rule front back → ⊥)
fits_or_not rule front back =
    elim (cases_eq (length back) (length front)) [
      | inr n ↦ inr (λ f. n f.0)
      | inl e ↦ elim (cases_lt (length front) (size rule)) [
        | inl l ↦ inr (λ f. omega (arith, f.1))
        | inr l ↦ elim (cases_lt 4096 (length front)) [ inl k ↦ inr (λ f. omega (arith, f.2)) | inr k ↦ inl (e, l, k) ]
      ]
    ]

module _ (rule : Term) (type profile : ℕ) (front back : List Node) (s : State) (c : StartCall rule type profile front back s) where
  pub nothing_unfit : s.run.held ≡ None → Fits rule front back → ⊥
  nothing_unfit e f = cc (sym e ∙ (c.fit f).holding.run)

  pub something_fits : (h : Held) → s.run.held ≡ Some h → Fits rule front back
  something_fits h e = elim (fits_or_not rule front back) [
    | inl f ↦ f
    | inr n ↦ cc (sym (ap (λ (x : State). x.run.held) (c.unfit n)) ∙ e)
  ]

module _ (m : Meaning) (fuel : ℕ) (rule : Term) (type profile : ℕ) (front back : List Node) (s₀ : State)
    (safe : SafeFrom rule type profile (length front) s₀) (lawful : Lawful m) (same : profile ≡ m.profile) where
  -- a slice that is refused asked for more fuel than a run may use
  only_fuel : (before : List Call) (middle : State) (made asked : ℕ) → Safe rule type profile (length front) before middle
      → hosts before ≡ steps_under m made → made + asked ≤ fuel
      → {q : Question} → RunRefused m asked middle q → Other (in_run q) → (in_run q ≡ in_run question.FuelLeft) × (most_steps < fuel)
  only_fuel before middle made asked S u few (no_term f) o = absurd (o.0 refl)
  only_fuel before middle made asked S u few (no_fuel t f) o =
      let n : length (hosts before) ≡ made = ap (λ (l : List Meaning). length l) u ∙ length-replicate made m in
      (refl, omega (arith, refused_fuel S.holding t.0.0 asked f))
  only_fuel before middle made asked S u few (no_profile t f p) o = absurd (p (sym same ∙ sym (its_profile S.holding t.0.0)))
  only_fuel before middle made asked S u few (no_closed t f p k) o = absurd (o.1 refl)

  pub ends_refused : (x : Refusal) (s' : State) → Sliced m fuel s₀ (Err x) s' → (front' : List Node) → Ends m fuel rule type front back (Err (Refused x)) front'
  ends_refused x s' sl front' =
      let c = run_call m sl.asked (Err x) in
      let S = safe sl.middle sl.before sl.lead in
      let T = safe s' (sl.before ++ (c ∷ [])) (calls_more c sl.lead (lawful, sl.last)) in
      let other : Other x = all_last Quiet sl.before c T.quiet in
      let e = sl.last.0.1 in
      let o = only_fuel sl.before sl.middle sl.made sl.asked S sl.under sl.few sl.last.0.2 (subst Other e other) in
      subst (λ (y : Refusal). Ends m fuel rule type front back (Err (Refused y)) front') (sym (e ∙ o.0)) (overspends o.1)

  module _ (ran : Ran) (s' : State) (sl : Sliced m fuel s₀ (Ok ran) s') where
    abbrev all : List Call
    all = sl.before ++ (run_call m sl.asked (Ok ran) ∷ [])

    abbrev steps : ℕ
    steps = sl.made + ran.made

    last_safe : Safe rule type profile (length front) all s'
    last_safe = safe s' all (calls_more (run_call m sl.asked (Ok ran)) sl.lead (lawful, sl.last))

    under : hosts all ≡ steps_under m steps
    under =
        hosts_more sl.before m sl.asked ran ∙ ap (λ l. l ++ steps_under m ran.made) sl.under
        ∙ replicate-append-replicate sl.made ran.made m

    many : length (hosts all) ≡ steps
    many = ap (λ (l : List Meaning). length l) under ∙ length-replicate steps m

    before_many : length (hosts sl.before) ≡ sl.made
    before_many = ap (λ (l : List Meaning). length l) sl.under ∙ length-replicate sl.made m

    module _ (S : Safe rule type profile (length front) all s')
        (M : Moved m sl.asked (length (hosts sl.before)) type profile (length front) ran
        (safe sl.middle sl.before sl.lead).held s') where
      becomes : Run (steps_under m steps) rule S.held
      becomes = subst (λ (l : List Meaning). Run l rule S.held) under S.becomes

      few : steps ≤ fuel
      few = omega (arith, M.stopped.within_fuel, sl.few)

      to_held : M.to ≡ S.held
      to_held = S.sole M.to (blanks (length front - size M.to)) M.holding.front

      at_cause : (c : StopCause) → ran.cause ≡ c → Cause m sl.asked (length front) c ran.made M.to
      at_cause c e = subst (λ (d : StopCause). Cause m sl.asked (length front) d ran.made M.to) e M.stopped.true_there

      left_by : (Value S.held → ⊥) → (c : StopCause) → ran.cause ≡ c → LeftBy m fuel (length front) c steps S.held
      left_by no_value cause.Value e = absurd (no_value (subst Value to_held (at_cause cause.Value e)))
      left_by no_value cause.Stuck e = absurd (all_last Quiet sl.before (run_call m sl.asked (Ok ran)) S.quiet e)
      left_by no_value cause.Spent e =
          let n : ran.made ≡ sl.asked = at_cause cause.Spent e in
          let w = sl.whole e in
          omega arith
      left_by no_value cause.Full e =
          let f = at_cause cause.Full e in
          (f.0, subst (λ (t : Term). Step m t f.0) to_held f.1, f.2)

      keeps : (es : List Entry) (τ : Ty) → LaidDown es → 6 ≤ length es → Typed (reading es) m.profile [] rule τ → Typed (reading es) m.profile [] S.held τ
      keeps es τ d g t =
          subst (λ (p : ℕ). Typed (reading es) p [] S.held τ) same
          (S.typed es τ d g (subst (λ (p : ℕ). Typed (reading es) p [] rule τ) (sym same) t))

      ends_closed : (c : Result Decided Refusal) → CloseCall s'.run s'.front c → Ends m fuel rule type front back (decision (Ok ran) c) s'.front
      ends_closed (Ok d) k =
          let w = S.closes (Ok d) k in
          let value : Decided = record { records = size S.held; steps = steps; type_number = type } in
          let e : ◌≡◌ {A = Decision} (Ok value) (Ok d) = ap (λ (x : Decided). Ok x) (decided_is d (size S.held) steps type w.1 (w.2 ∙ many) w.3) in
          subst (λ (d : Decision). Ends m fuel rule type front back d s'.front) e
          (subst (λ (f : List Node). Ends m fuel rule type front back (Ok value) f) (sym S.holding.front)
          (decides S.held w.0 becomes few keeps))
      ends_closed (Err x) k =
          let w = S.closes (Err x) k in
          let e : steps ≡ ran.total = omega (arith, M.total, before_many) in
          subst (λ (n : ℕ). Ends m fuel rule type front back (Err (Stopped ran.cause n)) s'.front) e
          (subst (λ (f : List Node). Ends m fuel rule type front back (Err (Stopped ran.cause steps)) f) (sym S.holding.front)
          (leaves S.held w.0 becomes few (left_by w.0 ran.cause refl)))

    pub ends_ran : (c : Result Decided Refusal) → CloseCall s'.run s'.front c → Ends m fuel rule type front back (decision (Ok ran) c) s'.front
    ends_ran c k = ends_closed last_safe (moved (safe sl.middle sl.before sl.lead).holding sl.last) c k

  pub ends_with : (r : Result Ran Refusal) (s' : State) → Sliced m fuel s₀ r s' → (c : Result Decided Refusal) → CloseCall s'.run s'.front c
      → Ends m fuel rule type front back (decision r c) s'.front
  ends_with (Err x) s' sl c k = ends_refused x s' sl s'.front
  ends_with (Ok ran) s' sl c k = ends_ran ran s' sl c k

-- Whether a run holds a term, by how many records it says.

pub nothing_held : (o : Option Held) → is_some (option_map (λ (h : Held). h.count) o) ≡ false → o ≡ None
nothing_held None e = refl
nothing_held (Some h) e = cc

pub something_held : (o : Option Held) → is_some (option_map (λ (h : Held). h.count) o) ≡ true → (h : Held) × (o ≡ Some h)
something_held None e = cc
something_held (Some h) e = (h, refl)
