-- Binders, as a list of nodes is read from the left.
--   child_depths k d   how many binders stand around each child of a node of the kind k that stands under d binders
--   is_variable        whether a kind is that of variables
--   Within b ds        no depth in a list is above b
--   HasRoom n ns       a stack of n depths is large enough for the nodes ns, and 16 bits are for each depth
--   Pending            the depths of the terms that are still to come, the next one's first, and for how many there is room
--   pending            those that lent numbers hold, from a place on
-- Assumes nothing.
use Rattle.std.specs.Prelude.{ℕ, suc, ◌*◌, ◌<◌, ◌≤◌, Bool, true, false, List, [], ◌∷◌, length, drop}
use Rattle.calculus.specs.declared.kind.Kind.{Kind}
use Rattle.calculus.specs.declared.node.Node.{Node}
use Rattle.rewriter.specs.declared.depths.Depths.TheInside.{Inside}
use Rattle.calculus.specs.declared.kind.Kind.TheVariants.{Blank, Variable, Zero, Successor, Rec, Lambda, Apply, Triv, Pair, Fst, Snd, Abort, Inl, Inr, Case, Query}

abbrev pub child_depths : Kind → ℕ → List ℕ
child_depths Blank d = []
child_depths Variable d = []
child_depths Zero d = []
child_depths Successor d = d ∷ []
child_depths Rec d = d ∷ (d ∷ (suc d ∷ []))
child_depths Lambda d = suc d ∷ []
child_depths Apply d = d ∷ (d ∷ [])
child_depths Triv d = []
child_depths Pair d = d ∷ (d ∷ [])
child_depths Fst d = d ∷ []
child_depths Snd d = d ∷ []
child_depths Abort d = d ∷ []
child_depths Inl d = d ∷ []
child_depths Inr d = d ∷ []
child_depths Case d = d ∷ (suc d ∷ (suc d ∷ []))
child_depths Query d = d ∷ []

abbrev pub is_variable : Kind → Bool
is_variable Blank = false
is_variable Variable = true
is_variable Zero = false
is_variable Successor = false
is_variable Rec = false
is_variable Lambda = false
is_variable Apply = false
is_variable Triv = false
is_variable Pair = false
is_variable Fst = false
is_variable Snd = false
is_variable Abort = false
is_variable Inl = false
is_variable Inr = false
is_variable Case = false
is_variable Query = false

abbrev pub Within : ℕ → List ℕ → Type 0
Within b [] = Unit {0}
Within b (d ∷ ds) = (d ≤ b) × Within b ds

-- A node takes one depth from the stack and puts at most three on it, and adds at most one binder.
abbrev pub HasRoom : ℕ → List Node → Type 0
HasRoom n ns = (2 * length ns < n) × (length ns ≤ 65535)

pub record Pending : Type 0 where
  pub depths : List ℕ
  pub room : ℕ

abbrev pub pending : Inside → Pending
pending d = record { depths = drop d.top d.words.now; room = length d.words.now }
