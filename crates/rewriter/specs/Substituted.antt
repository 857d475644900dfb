-- Substitution on a flat list, read from the left with a stack of depths.
--   hits d n              whether the node n is the variable with the index d
--   substituted v ds ns   the terms that ns begins with, one for each depth of ds, with the nodes v in place of the variable
--                         that is free at that depth; what follows the terms is left out
-- That this is substitution on trees is shown in proofs. Assumes nothing.
use Rattle.std.specs.Prelude.{ℕ, Bool, false, cond, List, [], ◌∷◌, ◌++◌, ◌==◌}
use Rattle.calculus.specs.declared.node.Node.{Node}
use Rattle.rewriter.specs.Depths.{child_depths, is_variable}

abbrev pub hits : ℕ → Node → Bool
hits d n = cond (is_variable n.kind) (n.number == d) false

abbrev pub substituted : List Node → List ℕ → List Node → List Node
substituted v [] ns = []
substituted v (d ∷ ds) [] = []
substituted v (d ∷ ds) (n ∷ ns) =
    cond (hits d n) (v ++ substituted v ds ns) (n ∷ substituted v (child_depths n.kind d ++ ds) ns)
