-- The loop of steps: what it keeps, and what each way out of it shows.
use Rattle.std.proofs.Common.{◌≡◌, ℕ, ◌+◌, ◌≤◌, List, ◌++◌, length, take, drop, Some, None, sym, refl, ap, ◌∙◌, subst, add-one, arith}
use Rattle.std.proofs.lemmas.List.{take_at}
use Rattle.calculus.specs.declared.node.Node.{Node}
use Rattle.calculus.specs.declared.stop.StopCause.{StopCause}
use Rattle.calculus.specs.declared.stop.StopCause.TheVariants as cause
use Rattle.calculus.specs.Syntax.{Term, Value, flat}
use Rattle.calculus.specs.Meanings.{Meaning, LawfulUnder}
use Rattle.calculus.specs.Steps.{Step}
use Rattle.calculus.specs.Runs.{Stopped}
use Rattle.calculus.proofs.Reading.{length_flat}
use Rattle.calculus.proofs.Walks.{Walk, stands, walk_more, stopped_value, stopped_stuck, stopped_spent, stopped_full}
use Rattle.rewriter.specs.declared.site.Site.{Site}
use Rattle.rewriter.specs.declared.site.Redex.{Redex}
use Rattle.rewriter.specs.declared.site.Redex.TheVariants as found
use Rattle.rewriter.specs.Redexes.{FoundRedex}
use Rattle.rewriter.specs.Rewrites.{Rewritten}
use Rattle.evaluator.specs.declared.held.Held.{Held}
use Rattle.evaluator.specs.OneCall.{Reads}
use Rattle.evaluator.specs.Evaluating.{Halted}

-- a term with a redex, or a stuck one, is no value
pub no_value : (p : ℕ) (ns : List Node) (r : Redex) → FoundRedex p ns r → (r ≡ found.Value → ⊥) → (e : Term) → flat e ≡ ns → Value e → ⊥
no_value p ns found.Value f n e h = absurd (n refl)
no_value p ns found.Stuck f n e h = (f e h).0
no_value p ns (found.Ready s) f n e h = (f.1 e h).0

-- after `made` steps of `fuel`, each to a term for which there was room, front' begins with the term there
pub record Going (m : Meaning) (fuel : ℕ) (h : Held) (front : List Node) (made used : ℕ) (front' : List Node) : Type 0 where
  pub from : Term
  pub reads : Reads (take h.count front) from
  pub to : Term
  pub walk : Walk m (length front) made from to
  pub holds : flat to ≡ take used front'
  pub within : used ≤ length front
  pub fueled : made ≤ fuel

pub going_first : (m : Meaning) (fuel : ℕ) (h : Held) (front : List Node) (e : Term) → Reads (take h.count front) e
    → h.count ≤ length front → Going m fuel h front 0 h.count front
going_first m fuel h front e r l = record {
  from = e;
  reads = r;
  to = e;
  walk = stands;
  holds = r.0;
  within = l;
  fueled = omega arith;
}

module _ {m : Meaning} {fuel : ℕ} {h : Held} {front : List Node} {made used : ℕ} {front' : List Node}
    (G : Going m fuel h front made used front') where
  halted : {k : StopCause} (c : StopCause) → k ≡ c → Stopped m fuel (length front) c made G.from G.to
      → Halted m fuel h front front' (record { cause = k; made = made; total = h.steps + made; records = used })
  halted c e s = record {
    from = G.from;
    reads = G.reads;
    to = G.to;
    stopped = subst (λ (x : StopCause). Stopped m fuel (length front) x made G.from G.to) (sym e) s;
    within = G.within;
    holds = G.holds;
    total = refl;
  }

  pub halted_value : {k : StopCause} → k ≡ cause.Value → (p : ℕ) → FoundRedex p (take used front') found.Value
      → Halted m fuel h front front' (record { cause = k; made = made; total = h.steps + made; records = used })
  halted_value i p f = halted cause.Value i (stopped_value m (length front) G.walk G.fueled (f G.to G.holds))

  pub halted_stuck : {k : StopCause} → k ≡ cause.Stuck → {p : ℕ} → LawfulUnder p m → FoundRedex p (take used front') found.Stuck
      → Halted m fuel h front front' (record { cause = k; made = made; total = h.steps + made; records = used })
  halted_stuck i l f =
      let s = f G.to G.holds in
      halted cause.Stuck i (stopped_stuck m (length front) G.walk G.fueled s.0 (λ w x. s.1 m l (w, x)))

  pub halted_spent : {k : StopCause} → k ≡ cause.Spent → {p : ℕ} → LawfulUnder p m → (site : Site) → FoundRedex p (take used front') (found.Ready site) → made ≡ fuel
      → Halted m fuel h front front' (record { cause = k; made = made; total = h.steps + made; records = used })
  halted_spent i l site f e =
      let n = (f.1 G.to G.holds).1 m l in
      halted cause.Spent i (stopped_spent m (length front) G.walk e n.1)

  -- The next term, from what a rewriting into back says of each term that front' begins with: `was` and `now` are back before
  -- and after. The host's meaning m' there is m.
  pub halted_full : {k : StopCause} → k ≡ cause.Full → (m' : Meaning) → m' ≡ m → (was now : List Node) → length was ≡ length front → (made ≡ fuel → ⊥)
      → ((t : Term) → flat t ≡ take used front' → Rewritten m' t was now None)
      → Halted m fuel h front front' (record { cause = k; made = made; total = h.steps + made; records = used })
  halted_full i m' e was now same unspent f =
      let n = f G.to G.holds in
      halted cause.Full i (stopped_full m (length front) G.walk (omega (arith, G.fueled))
      (subst (λ (x : Meaning). Step x G.to n.0) e n.1) (omega (arith, n.2)))

  pub going_on : (m' : Meaning) → m' ≡ m → (next : ℕ) (was now rest front'' : List Node) → length was ≡ length front
      → (made ≡ fuel → ⊥) → front'' ≡ take next now ++ rest
      → ((t : Term) → flat t ≡ take used front' → Rewritten m' t was now (Some next))
      → Going m fuel h front (made + 1) next front''
  going_on m' e next was now rest front'' same unspent q f =
      let n = f G.to G.holds in
      let new : take next now ≡ flat n.0 =
      ap (λ l. take next l) n.4 ∙ take_at (flat n.0) (drop next was) next (length_flat n.0 ∙ sym n.2) in
      record {
        from = G.from;
        reads = G.reads;
        to = n.0;
        walk = subst (λ (k : ℕ). Walk m (length front) k G.from n.0) (sym (add-one made))
            (walk_more m (length front) G.walk (subst (λ (x : Meaning). Step x G.to n.0) e n.1)
            (omega (arith, n.2, n.3)));
        holds = sym (ap (λ l. take next l) (q ∙ ap (λ l. l ++ rest) new)
            ∙ take_at (flat n.0) rest next (length_flat n.0 ∙ sym n.2));
        within = omega (arith, n.3);
        fueled = omega (arith, G.fueled);
      }
