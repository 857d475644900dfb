-- A generic view of terms, so that a machine on nodes has one case in place of fifteen.
--   Tree, Trees     a node and its children
--   tree_onto, trees_onto   the nodes of a tree, and of several, put before a list
--   tree_size, trees_size   how many nodes they have
--   many            how many trees there are
--   Whole, Wholes   each node has as many children as its kind says
--   root            the node at the root
--   view            a term as a tree
-- Assumes nothing.
use Rattle.std.specs.Prelude.{◌≡◌, ℕ, suc, ◌+◌, List, ◌∷◌}
use Rattle.calculus.specs.declared.kind.Kind.TheVariants.{Variable, Zero, Successor, Rec, Lambda, Apply, Triv, Pair, Fst, Snd, Abort, Inl, Inr, Case, Query}
use Rattle.calculus.specs.declared.node.Node.{Node}
use Rattle.calculus.specs.Kinds.{node, arity}
use Rattle.calculus.specs.Syntax.{Term, VA, ZE, SU, RE, LA, AP, TR, PA, FS, SN, AB, IL, IR, CA, QU}

mutual
  pub data Tree : Type 0 where
    tree : Node → Trees → Tree

  pub data Trees : Type 0 where
    none : Trees
    more : Tree → Trees → Trees

abbrev mutual
  pub tree_onto : Tree → List Node → List Node
  tree_onto (tree n ts) ns = n ∷ trees_onto ts ns

  pub trees_onto : Trees → List Node → List Node
  trees_onto none ns = ns
  trees_onto (more t ts) ns = tree_onto t (trees_onto ts ns)

abbrev mutual
  pub tree_size : Tree → ℕ
  tree_size (tree n ts) = suc (trees_size ts)

  pub trees_size : Trees → ℕ
  trees_size none = 0
  trees_size (more t ts) = tree_size t + trees_size ts

abbrev pub many : Trees → ℕ
many none = 0
many (more t ts) = suc (many ts)

abbrev mutual
  pub Whole : Tree → Type 0
  Whole (tree n ts) = (arity n.kind ≡ many ts) × Wholes ts

  pub Wholes : Trees → Type 0
  Wholes none = Unit {0}
  Wholes (more t ts) = Whole t × Wholes ts

abbrev pub root : Tree → Node
root (tree n ts) = n

abbrev pub view : Term → Tree
view (VA i) = tree (node Variable i) none
view ZE = tree (node Zero 0) none
view (SU e) = tree (node Successor 0) (more (view e) none)
view (RE e a b) = tree (node Rec 0) (more (view e) (more (view a) (more (view b) none)))
view (LA t b) = tree (node Lambda t) (more (view b) none)
view (AP f a) = tree (node Apply 0) (more (view f) (more (view a) none))
view TR = tree (node Triv 0) none
view (PA a b) = tree (node Pair 0) (more (view a) (more (view b) none))
view (FS e) = tree (node Fst 0) (more (view e) none)
view (SN e) = tree (node Snd 0) (more (view e) none)
view (AB t e) = tree (node Abort t) (more (view e) none)
view (IL t e) = tree (node Inl t) (more (view e) none)
view (IR t e) = tree (node Inr t) (more (view e) none)
view (CA e a b) = tree (node Case 0) (more (view e) (more (view a) (more (view b) none)))
view (QU q e) = tree (node Query q) (more (view e) none)
