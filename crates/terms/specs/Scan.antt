-- Flat lists read from the left, with the number of terms that are still to come.
--   fault types p ns   the first fault of a list that should be p terms, or none
--   after p ns         how many nodes the next p terms take up, or none where the list ends before they do
--   further, shift     a place that is one further, or a number of places
-- What they mean over trees is said in Whole. Assumes nothing.
use Rattle.std.specs.Prelude.{ℕ, zero, suc, ◌+◌, cond, List, [], ◌∷◌, Some, None, Option}
use Rattle.calculus.specs.declared.node.Node.{Node}
use Rattle.calculus.specs.Kinds.{arity}
use Rattle.terms.specs.Ranges.{in_range}

-- one place further
abbrev pub further : Option ℕ → Option ℕ
further None = None
further (Some k) = Some (suc k)

-- `at` places further
abbrev pub shift : ℕ → Option ℕ → Option ℕ
shift at None = None
shift at (Some k) = Some (at + k)

abbrev pub fault : ℕ → ℕ → List Node → Option ℕ
fault types zero [] = None
fault types zero (n ∷ ns) = Some 0
fault types (suc p) [] = Some 0
fault types (suc p) (n ∷ ns) = cond (in_range types n) (further (fault types (arity n.kind + p) ns)) (Some 0)

abbrev pub after : ℕ → List Node → Option ℕ
after zero ns = Some 0
after (suc p) [] = None
after (suc p) (n ∷ ns) = further (after (arity n.kind + p) ns)
