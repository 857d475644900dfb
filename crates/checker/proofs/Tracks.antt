-- The machine keeps what `judge` says of the whole tree. Assumes nothing.
use Rattle.std.proofs.Common.{◌≡◌, ℕ, suc, ◌+◌, ◌<◌, ◌≤◌, List, [], ◌∷◌, length, get_or, drop, is_some, Some, None, Option, sym, refl, ap, ◌∙◌, subst, arith, Ok, Err, Result}
use Rattle.std.proofs.lemmas.List.{get_or-drop, drop-drop, length-drop}
use Rattle.refusals.specs.declared.Question.{Question}
use Rattle.calculus.specs.declared.entry.Entry.{Entry}
use Rattle.calculus.specs.declared.kind.Kind.{Kind}
use Rattle.calculus.specs.declared.node.Node.{Node}
use Rattle.calculus.specs.Kinds.{arity, blank}
use Rattle.types.specs.Adding.{index_of, with_entry}
use Rattle.types.proofs.Adding.{with_low, with_most, index_low}
use Rattle.checker.specs.declared.frame.Awaits.{Awaits}
use Rattle.checker.specs.declared.frame.Awaits.TheVariants.{First}
use Rattle.checker.specs.declared.frame.Frame.{Frame}
use Rattle.checker.specs.declared.rules.Finished.{Finished}
use Rattle.checker.specs.declared.rules.Arrival.{Arrival}
use Rattle.checker.specs.declared.rules.Arrival.TheVariants.{Known, Waits}
use Rattle.checker.specs.declared.rules.Reaction.{Reaction}
use Rattle.checker.specs.declared.rules.Reaction.TheVariants.{Done, Build, Next}
use Rattle.checker.specs.Awaiting.{kept_of, frame}
use Rattle.checker.specs.Contexts.{bind}
use Rattle.checker.specs.Rules.{arrive, child_of, react}
use Rattle.checker.specs.Trees.{Tree, tree, Trees, none, more, tree_onto, trees_onto, tree_size, trees_size, many, Whole, Wholes, root}
use Rattle.checker.specs.Judging.{Outcome, typed, refused, on_outcome, on_arrival, on_reaction, settle, judge, children}
use Rattle.checker.specs.Machine.{node_at, Step, go, halt, reach_by, reached, take_by, reaction_of, taken}
use Rattle.checker.proofs.Contexts.{unbound}
use Rattle.checker.proofs.Fits.{BinderIn, AllIn, ArrivalFits, ReactionFits, NumberIn, number_up, binder_up, PartsIn, react_fits, arrive_fits, parts_with}

-- a frame with the children that are still to come
pub record Pending : Type 0 where
  pub n : Node
  pub p : ℕ
  pub a : Awaits
  pub b : Option ℕ
  pub rest : Trees

abbrev pub plain : Pending → Frame
plain f = frame f.p f.a (is_some f.b)

abbrev pub plains : List Pending → List Frame
plains [] = []
plains (f ∷ K) = plain f ∷ plains K

abbrev pub binders : List Pending → List ℕ
binders [] = []
binders (f ∷ K) = bind f.b (binders K)

abbrev pub after : List Pending → List Node
after [] = []
after (f ∷ K) = trees_onto f.rest (after K)

module _ (profile : ℕ) where
  -- what the whole comes to once the tree looked at, whose root is of the kind h and which ends at q, has come to o
  abbrev pub resume : List Pending → ℕ → Kind → Outcome → Outcome
  resume [] q h o = o
  resume (f ∷ K) q h o =
      resume K (q + trees_size f.rest) f.n.kind
      (on_outcome o (λ ty T. settle profile f.n.kind f.n.number f.p f.a T ty h
      (λ a b. children profile f.rest f.n.kind f.n.number f.p a b (binders K) T q)))

  pub resume_refused : (K : List Pending) (q : ℕ) (h : Kind) (x : Question) → resume K q h (refused x) ≡ refused x
  resume_refused [] q h x = refl
  resume_refused (f ∷ K) q h x = resume_refused K (q + trees_size f.rest) f.n.kind x

-- a frame that stands where it says, waits for a child that its node has, and keeps types below C
pub record Sound (N : List Node) (C : ℕ) (f : Pending) : Type 0 where
  pub here : node_at N f.p ≡ f.n
  pub within : f.p < length N
  pub turn : child_of f.a + many f.rest ≡ arity f.n.kind
  pub rests : Wholes f.rest
  pub keeps : kept_of f.a < C
  pub binds : BinderIn f.b C

abbrev pub Sounds : List Node → ℕ → List Pending → Type 0
Sounds N C [] = Unit {0}
Sounds N C (f ∷ K) = Sound N C f × Sounds N C K

sounds_up : (N : List Node) (C D : ℕ) (K : List Pending) → C ≤ D → Sounds N C K → Sounds N D K
sounds_up N C D [] h s = tt
sounds_up N C D (f ∷ K) h s = (
  record {
    here = s.0.here;
    within = s.0.within;
    turn = s.0.turn;
    rests = s.0.rests;
    keeps = omega (arith, s.0.keeps);
    binds = binder_up f.b C D h s.0.binds;
  },
  sounds_up N C D K h s.1,
)

-- the type numbers of nodes are below C
abbrev pub NumbersIn : List Node → ℕ → Type 0
NumbersIn N C = (i : ℕ) → i < length N → NumberIn (node_at N i).kind (node_at N i).number C

pub record Base (N : List Node) (C : ℕ) (q : ℕ) (K : List Pending) (T : List Entry) : Type 0 where
  pub numbers : NumbersIn N C
  pub given : 6 ≤ C
  pub low : C ≤ length T
  pub parts : PartsIn T
  pub sounds : Sounds N (length T) K
  pub inside : q ≤ length N

pub record Down (profile : ℕ) (N : List Node) (C : ℕ) (o : Outcome) (q : ℕ) (K : List Pending) (T : List Entry) (t : Tree) : Type 0 where
  pub base : Base N C q K T
  pub room : length T + length K ≤ C + q
  pub ahead : drop q N ≡ tree_onto t (after K)
  pub whole : Whole t
  pub track : resume profile K (q + tree_size t) (root t).kind (judge profile t (binders K) T q) ≡ o

pub record Up (profile : ℕ) (N : List Node) (C : ℕ) (o : Outcome) (q : ℕ) (K : List Pending) (T : List Entry) (x : Finished) : Type 0 where
  pub base : Base N C q K T
  pub room : length T + length K < C + q
  pub ahead : drop q N ≡ after K
  pub known : x.ty < length T
  pub track : resume profile K q x.kind (typed x.ty T) ≡ o

abbrev pub Good : ℕ → List Node → ℕ → Outcome → Step → Type 0
Good profile N C o (halt r) = r ≡ o
Good profile N C o (go q F Γ T None) =
    (K : List Pending) × (plains K ≡ F) × (binders K ≡ Γ) × ((t : Tree) × Down profile N C o q K T t)
Good profile N C o (go q F Γ T (Some x)) = (K : List Pending) × (plains K ≡ F) × (binders K ≡ Γ) × Up profile N C o q K T x

-- the list from q on begins with n
pub record Head (N : List Node) (q : ℕ) (n : Node) (rest : List Node) : Type 0 where
  pub lt : q < length N
  pub is : node_at N q ≡ n
  pub tail : drop (q + 1) N ≡ rest

pub headed : (N : List Node) (q : ℕ) (n : Node) (rest : List Node) → drop q N ≡ n ∷ rest → Head N q n rest
headed N q n rest e = record { lt = lt; is = is; tail = tail }
  where
    len : length (drop q N) ≡ suc (length rest)
    len = ap length e

    lt : q < length N
    lt = omega (arith, len, length-drop q N)

    is : node_at N q ≡ n
    is =
        let z : q + 0 ≡ q = omega arith in
        sym (ap (node_at N) z) ∙ sym (get_or-drop q N 0 blank) ∙ ap (λ (xs : List Node). get_or xs 0 blank) e

    tail : drop (q + 1) N ≡ rest
    tail = sym (drop-drop 1 q N) ∙ ap (drop 1) e

binders_in : (N : List Node) (C : ℕ) (K : List Pending) → Sounds N C K → AllIn (binders K) C
binders_in N C [] s = tt
binders_in N C (f ∷ K) s = bound f.b (binders K) s.0.binds (binders_in N C K s.1)
  where
    bound : (b : Option ℕ) (Γ : List ℕ) → BinderIn b C → AllIn Γ C → AllIn (bind b Γ) C
    bound None Γ p q = q
    bound (Some t) Γ p q = (p, q)

number_at : (N : List Node) (C D q : ℕ) (n : Node) → C ≤ D → q < length N → node_at N q ≡ n → NumbersIn N C → NumberIn n.kind n.number D
number_at N C D q n h l e s =
    number_up n.kind n.number C D h (subst (λ (m : Node). NumberIn m.kind m.number C) e (s q l))

module _ (profile : ℕ) (N : List Node) (C : ℕ) (o : Outcome) where
  node_fits : (q : ℕ) (K : List Pending) (T : List Entry) (n : Node) (ts : Trees) → Down profile N C o q K T (tree n ts) → q < length N → node_at N q ≡ n
      → ArrivalFits (arrive profile n.kind n.number q (binders K)) (arity n.kind) (length T)
  node_fits q K T n ts d l e =
      arrive_fits profile n.kind n.number q (binders K) (length T) (omega (arith, d.base.given, d.base.low))
      (number_at N C (length T) q n d.base.low l e d.base.numbers) (binders_in N (length T) K d.base.sounds)

  frame_fits : (q : ℕ) (f : Pending) (K : List Pending) (T : List Entry) (x : Finished) → Up profile N C o q (f ∷ K) T x
      → ReactionFits (react profile f.n.kind f.n.number f.p f.a T x.ty x.kind) (arity f.n.kind) (child_of f.a) (length T)
  frame_fits q f K T x d =
      let s = d.base.sounds.0 in
      react_fits profile f.n.kind f.n.number f.p f.a T x.ty x.kind (omega (arith, d.base.given, d.base.low))
      (number_at N C (length T) f.p f.n d.base.low s.within s.here d.base.numbers) d.base.parts s.keeps d.known

  reach_good : (q : ℕ) (K : List Pending) (T : List Entry) (n : Node) (ts : Trees) (v : Result Arrival Question)
      → Base N C q K T → length T + length K ≤ C + q → Head N q n (trees_onto ts (after K)) → arity n.kind ≡ many ts → Wholes ts
      → ArrivalFits v (arity n.kind) (length T)
      → resume profile K (q + suc (trees_size ts)) n.kind
      (on_arrival v T (λ b. children profile ts n.kind n.number q First b (binders K) T (suc q))) ≡ o
      → Good profile N C o (reach_by q n.kind (plains K) (binders K) T v)
  reach_good q K T n none (Ok (Known ty)) b m h ar w fit e = (
    K,
    refl,
    refl,
    record {
      base = record { numbers = b.numbers; given = b.given; low = b.low; parts = b.parts; sounds = b.sounds; inside = omega (arith, h.lt) };
      room = omega arith;
      ahead = h.tail;
      known = fit.1;
      track = e;
    },
  )
  reach_good q K T n (more u ts) (Ok (Known ty)) b m h ar w fit e = absurd (omega (arith, fit.0))
  reach_good q K T n none (Err x) b m h ar w fit e = sym (resume_refused profile K (q + suc (trees_size none)) n.kind x) ∙ e
  reach_good q K T n (more u ts) (Err x) b m h ar w fit e = sym (resume_refused profile K (q + suc (trees_size (more u ts))) n.kind x) ∙ e
  reach_good q K T n none (Ok (Waits v)) b m h ar w fit e = absurd (omega (arith, fit.0))
  reach_good q K T n (more u ts) (Ok (Waits v)) b m h ar w fit e = (
    record { n = n; p = q; a = First; b = v; rest = ts } ∷ K,
    refl,
    refl,
    (
      u,
      record {
        base = record {
          numbers = b.numbers;
          given = b.given;
          low = b.low;
          parts = b.parts;
          sounds = (record { here = h.is; within = h.lt; turn = omega arith; rests = w.1; keeps = omega (arith, b.given, b.low); binds = fit.1 }, b.sounds);
          inside = omega (arith, h.lt);
        };
        room = omega arith;
        ahead = h.tail;
        whole = w.0;
        track =
            let z : q + 1 + tree_size u + trees_size ts ≡ q + suc (tree_size u + trees_size ts) = omega arith in
            let y : q + 1 ≡ suc q = omega arith in
            rw z (rw y e);
      },
    ),
  )

  good_reached_at : (q : ℕ) (K : List Pending) (T : List Entry) (t : Tree) → Down profile N C o q K T t → Good profile N C o (reached profile N q (plains K) (binders K) T)
  good_reached_at q K T (tree n ts) d =
      let h = headed N q n (trees_onto ts (after K)) d.ahead in
      subst (λ (m : Node). Good profile N C o (reach_by q m.kind (plains K) (binders K) T (arrive profile m.kind m.number q (binders K)))) (sym h.is)
      (reach_good q K T n ts (arrive profile n.kind n.number q (binders K)) d.base d.room h d.whole.0 d.whole.1
      (node_fits q K T n ts d h.lt h.is) d.track)

  -- reaching a node keeps what the whole comes to
  pub good_reached : (q : ℕ) (F : List Frame) (Γ : List ℕ) (T : List Entry) → Good profile N C o (go q F Γ T None) → Good profile N C o (reached profile N q F Γ T)
  good_reached q F Γ T g =
      subst (λ (G : List Frame). Good profile N C o (reached profile N q G Γ T)) g.1
      (subst (λ (Δ : List ℕ). Good profile N C o (reached profile N q (plains g.0) Δ T)) g.2 (good_reached_at q g.0 T g.3.0 g.3.1))

  take_good : (q : ℕ) (n : Node) (p : ℕ) (a : Awaits) (w : Option ℕ) (rest : Trees) (K : List Pending) (T : List Entry) (v : Result Reaction Question)
      → Base N C q (record { n = n; p = p; a = a; b = w; rest = rest } ∷ K) T → length T + suc (length K) < C + q
      → drop q N ≡ trees_onto rest (after K)
      → ReactionFits v (arity n.kind) (child_of a) (length T)
      → resume profile K (q + trees_size rest) n.kind
      (on_reaction v T (λ a' b. children profile rest n.kind n.number p a' b (binders K) T q)) ≡ o
      → Good profile N C o (take_by q (frame p a (is_some w)) n.kind (plains K) (binders K) T v)
  take_good q n p a w none K T (Ok (Done ty)) b m h fit e =
      let s = b.sounds.0 in (
        K,
        refl,
        refl,
        record {
          base = record { numbers = b.numbers; given = b.given; low = b.low; parts = b.parts; sounds = b.sounds.1; inside = b.inside };
          room = omega arith;
          ahead = h;
          known = fit.1;
          track = let z : q ≡ q + 0 = omega arith in ap (λ (i : ℕ). resume profile K i n.kind (typed ty T)) z ∙ e;
        },
      )
  take_good q n p a w none K T (Ok (Build y)) b m h fit e =
      let s = b.sounds.0 in
      let low = with_low T y in
      let most = with_most T y in (
        K,
        refl,
        refl,
        record {
          base = record {
            numbers = b.numbers;
            given = b.given;
            low = omega (arith, b.low);
            parts = parts_with T y (omega (arith, b.given, b.low)) b.parts fit.1 fit.2;
            sounds = sounds_up N (length T) (length (with_entry T y)) K low b.sounds.1;
            inside = b.inside;
          };
          room = omega arith;
          ahead = h;
          known = index_low T y;
          track =
              let z : q ≡ q + 0 = omega arith in
              ap (λ (i : ℕ). resume profile K i n.kind (typed (index_of y T) (with_entry T y))) z ∙ e;
        },
      )
  take_good q n p a w none K T (Ok (Next c d)) b m h fit e = absurd (omega (arith, fit.0, b.sounds.0.turn))
  take_good q n p a w none K T (Err x) b m h fit e = sym (resume_refused profile K (q + trees_size none) n.kind x) ∙ e
  take_good q n p a w (more u ts) K T (Ok (Done ty)) b m h fit e = absurd (omega (arith, fit.0, b.sounds.0.turn))
  take_good q n p a w (more u ts) K T (Ok (Build y)) b m h fit e = absurd (omega (arith, fit.0, b.sounds.0.turn))
  take_good q n p a w (more u ts) K T (Ok (Next c d)) b m h fit e =
      let s = b.sounds.0 in (
        record { n = n; p = p; a = c; b = d; rest = ts } ∷ K,
        refl,
        refl,
        (
          u,
          record {
            base = record {
              numbers = b.numbers;
              given = b.given;
              low = b.low;
              parts = b.parts;
              sounds = (record { here = s.here; within = s.within; turn = omega (arith, fit.1, s.turn); rests = s.rests.1; keeps = fit.2; binds = fit.3 }, b.sounds.1);
              inside = b.inside;
            };
            room = omega arith;
            ahead = h;
            whole = s.rests.0;
            track = let z : q + tree_size u + trees_size ts ≡ q + (tree_size u + trees_size ts) = omega arith in rw z e;
          },
        ),
      )
  take_good q n p a w (more u ts) K T (Err x) b m h fit e = sym (resume_refused profile K (q + trees_size (more u ts)) n.kind x) ∙ e

  good_taken_at : (q : ℕ) (K : List Pending) (T : List Entry) (x : Finished) → Up profile N C o q K T x → Good profile N C o (taken profile N q (plains K) (binders K) T x)
  good_taken_at q [] T x d = d.track
  good_taken_at q (f ∷ K) T x d =
      let s = d.base.sounds.0 in
      let h = x.kind in
      subst (λ (Δ : List ℕ). Good profile N C o (take_by q (plain f) (node_at N f.p).kind (plains K) Δ T (reaction_of profile N (plain f) T x))) (sym (unbound f.b (binders K)))
      (subst (λ (m : Node). Good profile N C o (take_by q (plain f) m.kind (plains K) (binders K) T (react profile m.kind m.number f.p f.a T x.ty h))) (sym s.here)
      (take_good q f.n f.p f.a f.b f.rest K T (react profile f.n.kind f.n.number f.p f.a T x.ty h) d.base d.room d.ahead
      (frame_fits q f K T x d) d.track))

  -- finishing a node keeps what the whole comes to
  pub good_taken : (q : ℕ) (F : List Frame) (Γ : List ℕ) (T : List Entry) (x : Finished) → Good profile N C o (go q F Γ T (Some x)) → Good profile N C o (taken profile N q F Γ T x)
  good_taken q F Γ T x g =
      subst (λ (G : List Frame). Good profile N C o (taken profile N q G Γ T x)) g.1
      (subst (λ (Δ : List ℕ). Good profile N C o (taken profile N q (plains g.0) Δ T x)) g.2 (good_taken_at q g.0 T x g.3))

-- the start
pub good_start : (profile : ℕ) (N : List Node) (C : ℕ) (T : List Entry) (t : Tree) → N ≡ tree_onto t [] → Whole t → NumbersIn N C → 6 ≤ C → length T ≡ C → PartsIn T
    → Good profile N C (judge profile t [] T 0) (go 0 [] [] T None)
good_start profile N C T t e w n six l o = (
  [],
  refl,
  refl,
  (
    t,
    record {
      base = record { numbers = n; given = six; low = omega arith; parts = o; sounds = tt; inside = omega arith };
      room = omega arith;
      ahead = e;
      whole = w;
      track = refl;
    },
  ),
)
