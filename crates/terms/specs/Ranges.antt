-- Which nodes may stand in a term.
--   in_range types n   where type numbers are below `types`: an index is below 4,096, a type number below `types`, a
--                      question below 8, every other number is 0, and the kind is no blank
--   AllInRange         the same of every node of a list
-- Assumes nothing.
use Rattle.std.specs.Prelude.{◌≡◌, ℕ, Bool, true, false, List, [], ◌∷◌, ◌==◌, nat_lt}
use Rattle.calculus.specs.declared.kind.Kind.{Kind}
use Rattle.calculus.specs.declared.kind.Kind.TheVariants.{Blank, Variable, Zero, Successor, Rec, Lambda, Apply, Triv, Pair, Fst, Snd, Abort, Inl, Inr, Case, Query}
use Rattle.calculus.specs.declared.node.Node.{Node}

abbrev pub number_in_range : ℕ → Kind → ℕ → Bool
number_in_range types Blank m = false
number_in_range types Variable m = nat_lt m 4096
number_in_range types Zero m = m == 0
number_in_range types Successor m = m == 0
number_in_range types Rec m = m == 0
number_in_range types Lambda m = nat_lt m types
number_in_range types Apply m = m == 0
number_in_range types Triv m = m == 0
number_in_range types Pair m = m == 0
number_in_range types Fst m = m == 0
number_in_range types Snd m = m == 0
number_in_range types Abort m = nat_lt m types
number_in_range types Inl m = nat_lt m types
number_in_range types Inr m = nat_lt m types
number_in_range types Case m = m == 0
number_in_range types Query m = nat_lt m 8

abbrev pub in_range : ℕ → Node → Bool
in_range types n = number_in_range types n.kind n.number

abbrev pub AllInRange : ℕ → List Node → Type 0
AllInRange types [] = Unit {0}
AllInRange types (n ∷ ns) = (in_range types n ≡ true) × AllInRange types ns
