-- The checker as a machine on lists of frames, and what its turns need and keep.
--   node_at       a node of a list
--   Step          a state of the machine, or its end
--   finished      a finished node
--   reach_by, reached   what reaching a node comes to
--   take_by, reaction_of, taken   what finishing a node comes to
--   stepped       one turn
--   site_of       a node, as the code's machine sees it
--   waiting       the code's machine once a node waits for a child
--   state_of      the code's machine
--   state_after, step_after   what the code went on to, or its end
--   outcome_of    the outcome that an answer of the code stands for
--   Keeps         a type table with c entries becomes one with d, of which the first c are the same
--   Same          what a turn leaves of the code's machine
--   ReachReady, TakeReady, Ready   what a turn needs
--   Input         what the machine is given: a rule, a table with its count, and so many numbers in the scratch list
-- Assumes nothing.
use Rattle.std.specs.Prelude.{◌≡◌, ℕ, ◌+◌, ◌*◌, ◌^◌, ◌<◌, ◌≤◌, true, List, [], ◌∷◌, length, take, is_some, Some, None, Ok, Err, Option, Result, slice_index_or}
use Rattle.std.specs.declared.ops.ControlFlow.{ControlFlow}
use Rattle.std.specs.declared.ops.ControlFlow.TheVariants.{Continue, Break}
use Rattle.refusals.specs.declared.Question.{Question}
use Rattle.calculus.specs.declared.entry.Entry.{Entry}
use Rattle.calculus.specs.declared.kind.Kind.{Kind}
use Rattle.calculus.specs.declared.node.Node.{Node}
use Rattle.calculus.specs.Kinds.{blank}
use Rattle.calculus.specs.Tables.{LaidDown}
use Rattle.terms.specs.Whole.{OneTerm}
use Rattle.types.specs.Adding.{index_of, with_entry}
use Rattle.checker.specs.declared.frame.Awaits.{Awaits}
use Rattle.checker.specs.declared.frame.Awaits.TheVariants.{First}
use Rattle.checker.specs.declared.frame.Frame.{Frame}
use Rattle.checker.specs.declared.rules.Finished.{Finished}
use Rattle.checker.specs.declared.machine.Machine.{Machine}
use Rattle.checker.specs.declared.rules.Arrival.{Arrival}
use Rattle.checker.specs.declared.rules.Arrival.TheVariants.{Known, Waits}
use Rattle.checker.specs.declared.rules.Reaction.{Reaction}
use Rattle.checker.specs.declared.rules.Reaction.TheVariants.{Done, Build, Next}
use Rattle.checker.specs.declared.rules.Site.{Site}
use Rattle.checker.specs.Awaiting.{kept_of, frame}
use Rattle.checker.specs.Contexts.{bind, unbind}
use Rattle.checker.specs.Frames.{Stacked}
use Rattle.checker.specs.Rules.{arrive, react}
use Rattle.checker.specs.Judging.{Outcome, typed, refused}

abbrev pub node_at : List Node → ℕ → Node
node_at N i = slice_index_or N i blank

-- going on: the place of the next node, the frames, the context, the table, the finished node if any; or the end
pub data Step : Type 0 where
  go : ℕ → List Frame → List ℕ → List Entry → Option Finished → Step
  halt : Outcome → Step

abbrev pub finished : ℕ → Kind → Option Finished
finished ty k = Some (record { ty = ty; kind = k })

-- of the node of the kind k at the place p
abbrev pub reach_by : ℕ → Kind → List Frame → List ℕ → List Entry → Result Arrival Question → Step
reach_by p k F Γ T (Ok (Known ty)) = go (p + 1) F Γ T (finished ty k)
reach_by p k F Γ T (Ok (Waits b)) = go (p + 1) (frame p First (is_some b) ∷ F) (bind b Γ) T None
reach_by p k F Γ T (Err q) = halt (refused q)

abbrev pub reached : ℕ → List Node → ℕ → List Frame → List ℕ → List Entry → Step
reached profile N p F Γ T = reach_by p (node_at N p).kind F Γ T (arrive profile (node_at N p).kind (node_at N p).number p Γ)

-- of the frame f of a node of the kind k; Γ is the context around that node
abbrev pub take_by : ℕ → Frame → Kind → List Frame → List ℕ → List Entry → Result Reaction Question → Step
take_by p f k F Γ T (Ok (Done ty)) = go p F Γ T (finished ty k)
take_by p f k F Γ T (Ok (Build x)) = go p F Γ (with_entry T x) (finished (index_of x T) k)
take_by p f k F Γ T (Ok (Next a b)) = go p (frame f.place a (is_some b) ∷ F) (bind b Γ) T None
take_by p f k F Γ T (Err q) = halt (refused q)

abbrev pub reaction_of : ℕ → List Node → Frame → List Entry → Finished → Result Reaction Question
reaction_of profile N f T x =
    react profile (node_at N f.place).kind (node_at N f.place).number f.place f.awaits T x.ty x.kind

abbrev pub taken : ℕ → List Node → ℕ → List Frame → List ℕ → List Entry → Finished → Step
taken profile N p [] Γ T x = halt (typed x.ty T)
taken profile N p (f ∷ F) Γ T x = take_by p f (node_at N f.place).kind F (unbind f.bound Γ) T (reaction_of profile N f T x)

abbrev pub stepped : ℕ → List Node → Step → Step
stepped profile N (go p F Γ T None) = reached profile N p F Γ T
stepped profile N (go p F Γ T (Some x)) = taken profile N p F Γ T x
stepped profile N (halt o) = halt o

-- a node, as the code's machine sees it
abbrev pub site_of : Machine → ℕ → Site
site_of m p = record { profile = m.profile; node = node_at m.nodes.now p; place = p }

-- the code's machine once the node at p waits for a child under the binder b
abbrev pub waiting : Machine → ℕ → Awaits → Option ℕ → Machine
waiting m p a b = record m {
  stack = record { frames = frame p a (is_some b) ∷ m.stack.frames; room = m.stack.room };
  binders = record { types = bind b m.binders.types; room = m.binders.room };
  done = None;
}

-- the code's machine, with the table by then
abbrev pub state_of : Machine → List Entry → Step
state_of m T = go m.at m.stack.frames m.binders.types T m.done

abbrev pub state_after : Result (Unit {0}) Question → Machine → List Entry → Step
state_after (Ok a) m T = state_of m T
state_after (Err q) m T = halt (refused q)

abbrev pub step_after : Result (ControlFlow ℕ (Unit {0})) Question → Machine → List Entry → Step
step_after (Ok (Continue a)) m T = state_of m T
step_after (Ok (Break ty)) m T = halt (typed ty T)
step_after (Err q) m T = halt (refused q)

abbrev pub outcome_of : Result (ℕ × ℕ) Question → List Entry → Outcome
outcome_of (Ok a) ts = typed a.0 (take a.1 ts)
outcome_of (Err q) ts = refused q

pub record Keeps (c d : ℕ) (ts us : List Entry) : Type 0 where
  pub low : c ≤ d
  pub most : d ≤ length us
  pub front : take c us ≡ take c ts

-- the rule, the profile and the room of a machine stay
pub record Same (m m' : Machine) : Type 0 where
  pub nodes : m'.nodes.now ≡ m.nodes.now
  pub profile : m'.profile ≡ m.profile
  pub frames : m'.stack.room ≡ m.stack.room
  pub binders : m'.binders.room ≡ m.binders.room

pub record ReachReady (m : Machine) : Type 0 where
  pub here : m.at < length m.nodes.now
  pub next : m.at + 1 < 2 ^ 16
  pub room : length m.stack.frames < m.stack.room
  pub slot : length m.binders.types < m.binders.room

-- of the frame f, which was taken off, and the finished child x
pub record TakeReady (m : Machine) (ts : List Entry) (f : Frame) (x : Finished) : Type 0 where
  pub room : length m.stack.frames < m.stack.room
  pub slot : length m.binders.types < m.binders.room
  pub binder : f.bound ≡ true → 0 < length m.binders.types
  pub place : f.place < length m.nodes.now
  pub known : x.ty < m.count
  pub kept : kept_of f.awaits < m.count
  pub spare : m.count < length ts
  pub few : m.count < 2 ^ 16

abbrev pub ReadyBy : Machine → List Entry → Option Finished → Type 0
ReadyBy m ts None = ReachReady m
ReadyBy m ts (Some x) =
    (f : Frame) (s : Stacked) → m.stack.frames ≡ f ∷ s.frames → s.room ≡ m.stack.room → TakeReady (record m { stack = s }) ts f x

pub record Ready (m : Machine) (ts : List Entry) : Type 0 where
  pub counts : m.count ≤ length ts
  pub by : ReadyBy m ts m.done

pub record Input (N : List Node) (ts : List Entry) (C : ℕ) (words : ℕ) : Type 0 where
  pub term : OneTerm C N
  pub table : LaidDown (take C ts)
  pub given : 6 ≤ C
  pub few_nodes : length N ≤ 4096
  pub few_types : C ≤ 1030
  pub types : C + length N ≤ length ts
  pub room : 4 * length N ≤ words
