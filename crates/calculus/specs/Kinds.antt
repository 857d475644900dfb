-- Kinds of nodes.
--   kind_number    the number of a kind: 0 for a blank, and 1 to 15
--   kind_mark      the two letters of a kind in a file
--   kind_of_mark   the kind with a mark, or a blank
--   MarksAgree     what ties the last two together
--   arity          how many children a kind has
--   node, blank    nodes
-- Assumes nothing.
use Rattle.std.specs.Prelude.{◌≡◌, ℕ, Bool, cond, ◌&&◌, List, [], ◌∷◌, ◌==◌, ◌≢◌}
use Rattle.calculus.specs.declared.kind.Kind.{Kind}
use Rattle.calculus.specs.declared.kind.Kind.TheVariants.{Blank, Variable, Zero, Successor, Rec, Lambda, Apply, Triv, Pair, Fst, Snd, Abort, Inl, Inr, Case, Query}
use Rattle.calculus.specs.declared.node.Node.{Node}

abbrev pub kind_number : Kind → ℕ
kind_number Blank = 0
kind_number Variable = 1
kind_number Zero = 2
kind_number Successor = 3
kind_number Rec = 4
kind_number Lambda = 5
kind_number Apply = 6
kind_number Triv = 7
kind_number Pair = 8
kind_number Fst = 9
kind_number Snd = 10
kind_number Abort = 11
kind_number Inl = 12
kind_number Inr = 13
kind_number Case = 14
kind_number Query = 15

-- VA is 86 65, and so on; a blank's is two hyphens
abbrev pub kind_mark : Kind → List ℕ
kind_mark Blank = 45 ∷ (45 ∷ [])
kind_mark Variable = 86 ∷ (65 ∷ [])
kind_mark Zero = 90 ∷ (69 ∷ [])
kind_mark Successor = 83 ∷ (85 ∷ [])
kind_mark Rec = 82 ∷ (69 ∷ [])
kind_mark Lambda = 76 ∷ (65 ∷ [])
kind_mark Apply = 65 ∷ (80 ∷ [])
kind_mark Triv = 84 ∷ (82 ∷ [])
kind_mark Pair = 80 ∷ (65 ∷ [])
kind_mark Fst = 70 ∷ (83 ∷ [])
kind_mark Snd = 83 ∷ (78 ∷ [])
kind_mark Abort = 65 ∷ (66 ∷ [])
kind_mark Inl = 73 ∷ (76 ∷ [])
kind_mark Inr = 73 ∷ (82 ∷ [])
kind_mark Case = 67 ∷ (65 ∷ [])
kind_mark Query = 81 ∷ (85 ∷ [])

abbrev pub is_mark : ℕ → ℕ → ℕ → ℕ → Bool
is_mark x y a b = a == x && b == y

abbrev pub kind_of_mark : ℕ → ℕ → Kind
kind_of_mark a b =
    cond (is_mark 86 65 a b) Variable (cond (is_mark 90 69 a b) Zero (cond (is_mark 83 85 a b) Successor
    (cond (is_mark 82 69 a b) Rec (cond (is_mark 76 65 a b) Lambda (cond (is_mark 65 80 a b) Apply
    (cond (is_mark 84 82 a b) Triv (cond (is_mark 80 65 a b) Pair (cond (is_mark 70 83 a b) Fst
    (cond (is_mark 83 78 a b) Snd (cond (is_mark 65 66 a b) Abort (cond (is_mark 73 76 a b) Inl
    (cond (is_mark 73 82 a b) Inr (cond (is_mark 67 65 a b) Case (cond (is_mark 81 85 a b) Query Blank))))))))))))))

-- The kind k is read from the mark a b: a kind other than a blank has just this mark, and a blank says that no such
-- kind has it.
abbrev pub MarksAgree : ℕ → ℕ → Kind → Type 0
MarksAgree a b k =
    ((k ≢ Blank) → kind_mark k ≡ a ∷ (b ∷ []))
    × ((j : Kind) → (j ≢ Blank) → kind_mark j ≡ a ∷ (b ∷ []) → j ≡ k)

abbrev pub arity : Kind → ℕ
arity Blank = 0
arity Variable = 0
arity Zero = 0
arity Successor = 1
arity Rec = 3
arity Lambda = 1
arity Apply = 2
arity Triv = 0
arity Pair = 2
arity Fst = 1
arity Snd = 1
arity Abort = 1
arity Inl = 1
arity Inr = 1
arity Case = 3
arity Query = 1

abbrev pub node : Kind → ℕ → Node
node k n = record { kind = k; number = n; plain = tt }

abbrev pub blank : Node
blank = node Blank 0
