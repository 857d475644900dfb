-- What keeps the whole's outcome also lets the machine go on, and brings it nearer to its end. Assumes nothing.
use Rattle.std.proofs.Common.{◌≡◌, ℕ, suc, ◌+◌, ◌-◌, ◌*◌, ◌<◌, ◌≤◌, true, List, [], ◌∷◌, length, take, is_some, Some, None, Option, sym, refl, ap, subst, arith, Ok, Err, Result, ◌∙◌}
use Rattle.std.proofs.lemmas.List.{length-take-le}
use Rattle.refusals.specs.declared.Question.{Question}
use Rattle.calculus.specs.declared.entry.Entry.{Entry}
use Rattle.calculus.specs.declared.kind.Kind.{Kind}
use Rattle.calculus.specs.declared.node.Node.{Node}
use Rattle.calculus.specs.Syntax.{Term, flat}
use Rattle.checker.specs.declared.frame.Frame.{Frame}
use Rattle.checker.specs.declared.rules.Finished.{Finished}
use Rattle.checker.specs.declared.machine.Machine.{Machine}
use Rattle.checker.specs.declared.rules.Arrival.{Arrival}
use Rattle.checker.specs.declared.rules.Arrival.TheVariants.{Known, Waits}
use Rattle.checker.specs.declared.rules.Reaction.{Reaction}
use Rattle.checker.specs.declared.rules.Reaction.TheVariants.{Done, Build, Next}
use Rattle.checker.specs.Awaiting.{kept_of}
use Rattle.checker.specs.Contexts.{bind}
use Rattle.checker.specs.Rules.{arrive}
use Rattle.checker.specs.Trees.{Tree, tree, trees_onto}
use Rattle.checker.specs.Judging.{Outcome, judge_term}
use Rattle.checker.specs.Machine.{node_at, Step, go, halt, reach_by, take_by, reaction_of, stepped, state_of, Keeps, Same, ReachReady, TakeReady, ReadyBy, Ready}
use Rattle.checker.proofs.Keeping.{keeps_on}
use Rattle.checker.proofs.Tracks.{Pending, plain, plains, binders, after, Down, Up, Good, headed, good_reached, good_taken}

length_plains : (K : List Pending) → length (plains K) ≡ length K
length_plains [] = refl
length_plains (f ∷ K) = ap suc (length_plains K)

-- a frame has at most one binder
length_binders : (K : List Pending) → length (binders K) ≤ length K
length_binders [] = omega arith
length_binders (f ∷ K) = by f.b (length_binders K)
  where
    by : (b : Option ℕ) → length (binders K) ≤ length K → length (bind b (binders K)) ≤ suc (length K)
    by None h = omega arith
    by (Some t) h = omega arith

some_bound : (b : Option ℕ) (Γ : List ℕ) → is_some b ≡ true → 0 < length (bind b Γ)
some_bound None Γ e = absurd (let z : ◌≡◌ {A = ℕ} 0 1 = cc in omega arith)
some_bound (Some t) Γ e = omega arith

-- the memory of the machine, for a rule with C types at first
pub record Room (m : Machine) (C : ℕ) (ts : List Entry) : Type 0 where
  pub few_nodes : length m.nodes.now ≤ 4096
  pub few_types : C ≤ 1030
  pub types : C + length m.nodes.now ≤ length ts
  pub frames : length m.nodes.now ≤ m.stack.room
  pub binders : length m.nodes.now ≤ m.binders.room

module _ (m : Machine) (C : ℕ) (o : Outcome) (ts : List Entry) (r : Room m C ts) (ct : m.count ≤ length ts) where
  abbrev N : List Node
  N = m.nodes.now

  abbrev state : Option Finished → Step
  state d = go m.at m.stack.frames m.binders.types (take m.count ts) d

  ready_reach : Good m.profile N C o (state None) → ReachReady m
  ready_reach g = ready g.3.0 g.3.1
    where
      K : List Pending
      K = g.0

      ready : (t : Tree) → Down m.profile N C o m.at K (take m.count ts) t → ReachReady m
      ready (tree n us) d =
          let h = headed N m.at n (trees_onto us (after K)) d.ahead in
          let frames = length_plains K in
          let few = length_binders K in
          let deep = ap length g.1 in
          let bound = ap length g.2 in
          record {
            here = h.lt;
            next = omega (arith, h.lt, r.few_nodes);
            room = omega (arith, d.room, d.base.low, h.lt, r.frames);
            slot = omega (arith, d.room, d.base.low, h.lt, r.binders);
          }

  ready_take : (x : Finished) → Good m.profile N C o (state (Some x)) → ReadyBy m ts (Some x)
  ready_take x g f s is same = ready g.0 g.1 g.2 g.3
    where
      T : List Entry
      T = take m.count ts

      ready : (K : List Pending) → plains K ≡ m.stack.frames → binders K ≡ m.binders.types → Up m.profile N C o m.at K T x
          → TakeReady (record m { stack = s }) ts f x
      ready [] e b d = absurd (let z = e ∙ is in let v : ⊥ = cc in v)
      ready (h ∷ K) e b d =
          let z = e ∙ is in
          let frames = length_plains K in
          let few = length_binders (h ∷ K) in
          let dl = ap length z in
          let bl = ap length b in
          let lt = length-take-le m.count ts ct in
          let top : plain h ≡ f = cc in
          let so = d.base.sounds.0 in
          record {
            room = omega (arith, d.room, d.base.low, d.base.inside, r.frames);
            slot = omega (arith, d.room, d.base.low, d.base.inside, r.binders);
            binder = λ q. omega (arith, some_bound h.b (binders K) (subst (λ (u : Frame). u.bound ≡ true) (sym top) q));
            place = subst (λ (u : Frame). u.place < length N) top so.within;
            known = omega (arith, d.known, lt);
            kept = subst (λ (u : Frame). kept_of u.awaits < m.count) top (omega (arith, so.keeps, lt));
            spare = omega (arith, d.room, d.base.inside, r.types, lt);
            few = omega (arith, d.room, d.base.inside, r.few_nodes, r.few_types, lt);
          }

  pub ready : Good m.profile N C o (state_of m (take m.count ts)) → Ready m ts
  ready g = record { counts = ct; by = by m.done g }
    where
      by : (d : Option Finished) → Good m.profile N C o (state d) → ReadyBy m ts d
      by None g = ready_reach g
      by (Some x) g = ready_take x g

-- a turn keeps what the whole comes to
pub good_step : (profile : ℕ) (N : List Node) (C : ℕ) (o : Outcome) (q : ℕ) (F : List Frame) (Γ : List ℕ) (T : List Entry) (d : Option Finished)
    → Good profile N C o (go q F Γ T d) → Good profile N C o (stepped profile N (go q F Γ T d))
good_step profile N C o q F Γ T None g = good_reached profile N C o q F Γ T g
good_step profile N C o q F Γ T (Some x) g = good_taken profile N C o q F Γ T x g

-- what is left to do
abbrev pub left : List Node → Step → ℕ
left N (go q F Γ T None) = 3 * (length N - q) + length F + 1
left N (go q F Γ T (Some x)) = 3 * (length N - q) + length F + 2
left N (halt o) = 0

less_reach : (N : List Node) (q : ℕ) (k : Kind) (F : List Frame) (Γ : List ℕ) (T : List Entry) (v : Result Arrival Question) → q < length N
    → left N (reach_by q k F Γ T v) < 3 * (length N - q) + length F + 1
less_reach N q k F Γ T (Ok (Known ty)) h = omega arith
less_reach N q k F Γ T (Ok (Waits b)) h = omega arith
less_reach N q k F Γ T (Err x) h = omega arith

less_take : (N : List Node) (q : ℕ) (f : Frame) (k : Kind) (F : List Frame) (Γ : List ℕ) (T : List Entry) (v : Result Reaction Question)
    → left N (take_by q f k F Γ T v) < 3 * (length N - q) + suc (length F) + 2
less_take N q f k F Γ T (Ok (Done ty)) = omega arith
less_take N q f k F Γ T (Ok (Build x)) = omega arith
less_take N q f k F Γ T (Ok (Next a b)) = omega arith
less_take N q f k F Γ T (Err x) = omega arith

pub falls : (profile : ℕ) (N : List Node) (C : ℕ) (o : Outcome) (q : ℕ) (F : List Frame) (Γ : List ℕ) (T : List Entry) (d : Option Finished)
    → Good profile N C o (go q F Γ T d) → left N (stepped profile N (go q F Γ T d)) < left N (go q F Γ T d)
falls profile N C o q F Γ T None g = less_reach N q (node_at N q).kind F Γ T (arrive profile (node_at N q).kind (node_at N q).number q Γ) (inside g.3.0 g.3.1)
  where
    inside : (t : Tree) → Down profile N C o q g.0 T t → q < length N
    inside (tree n us) d = (headed N q n (trees_onto us (after g.0)) d.ahead).lt
falls profile N C o q [] Γ T (Some x) g = omega arith
falls profile N C o q (f ∷ F) Γ T (Some x) g = less_take N q f (node_at N f.place).kind F _ T (reaction_of profile N f T x)

-- the code's machine on its way: what it has kept of what it was given, and what the whole comes to
pub record Running (N : List Node) (profile C : ℕ) (ts us : List Entry) (m : Machine) : Type 0 where
  pub nodes : m.nodes.now ≡ N
  pub profile_is : m.profile ≡ profile
  pub frames : length N ≤ m.stack.room
  pub binders : length N ≤ m.binders.room
  pub good : (t : Term) → flat t ≡ N → Good profile N C (judge_term profile t (take C ts)) (state_of m (take m.count us))
  pub keeps : Keeps C m.count ts us

module _ (N : List Node) (profile C : ℕ) (ts us : List Entry) (m : Machine) (r : Running N profile C ts us m) where
  pub running_ready : (t : Term) → flat t ≡ N → length N ≤ 4096 → C ≤ 1030 → C + length N ≤ length us → Ready m us
  running_ready t e n c l =
      let o = judge_term profile t (take C ts) in
      let S = state_of m (take m.count us) in
      let len = ap length r.nodes in
      let room : Room m C us = record {
        few_nodes = omega arith;
        few_types = c;
        types = omega arith;
        frames = omega (arith, r.frames);
        binders = omega (arith, r.binders);
      } in
      ready m C o us room r.keeps.most
      (subst (λ (p : ℕ). Good p m.nodes.now C o S) (sym r.profile_is)
      (subst (λ (M : List Node). Good profile M C o S) (sym r.nodes) (r.good t e)))

  module _ (x : Step) (e : x ≡ stepped m.profile m.nodes.now (state_of m (take m.count us))) where
    turned : x ≡ stepped profile N (state_of m (take m.count us))
    turned =
        e ∙ ap (λ (p : ℕ). stepped p m.nodes.now (state_of m (take m.count us))) r.profile_is
        ∙ ap (λ (M : List Node). stepped profile M (state_of m (take m.count us))) r.nodes

    pub good_turn : (t : Term) → flat t ≡ N → Good profile N C (judge_term profile t (take C ts)) x
    good_turn t is =
        let o = judge_term profile t (take C ts) in
        subst (Good profile N C o) (sym turned) (good_step profile N C o _ _ _ _ m.done (r.good t is))

    pub left_turn : (t : Term) → flat t ≡ N → left N x < left N (state_of m (take m.count us))
    left_turn t is =
        subst (λ (y : Step). left N y < left N (state_of m (take m.count us))) (sym turned)
        (falls profile N C (judge_term profile t (take C ts)) _ _ _ _ m.done (r.good t is))

  pub running_on : (m' : Machine) (vs : List Entry) → Same m m' → Keeps m.count m'.count us vs
      → state_of m' (take m'.count vs) ≡ stepped m.profile m.nodes.now (state_of m (take m.count us)) → Running N profile C ts vs m'
  running_on m' vs s k e = record {
    nodes = s.nodes ∙ r.nodes;
    profile_is = s.profile ∙ r.profile_is;
    frames = omega (arith, s.frames, r.frames);
    binders = omega (arith, s.binders, r.binders);
    good = good_turn (state_of m' (take m'.count vs)) e;
    keeps = keeps_on C m.count m'.count ts us vs r.keeps k;
  }
