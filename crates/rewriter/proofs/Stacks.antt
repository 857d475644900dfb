-- What a node's children put on a stack of bounded depths.
--   within_up     a larger bound
--   within_next   depths of children are one higher at most
--   length_next   there are three at most
use Rattle.std.proofs.Common.{ℕ, ◌+◌, ◌≤◌, List, ◌∷◌, ◌++◌, [], length, arith}
use Rattle.calculus.specs.declared.kind.Kind.{Kind}
use Rattle.calculus.specs.declared.kind.Kind.TheVariants.{Blank, Variable, Zero, Successor, Rec, Lambda, Apply, Triv, Pair, Fst, Snd, Abort, Inl, Inr, Case, Query}
use Rattle.rewriter.specs.Depths.{child_depths, Within}

pub within_up : (b : ℕ) (ds : List ℕ) → Within b ds → Within (b + 1) ds
within_up b [] h = tt
within_up b (d ∷ ds) h = (omega arith, within_up b ds h.1)

within_more : (k : Kind) (d b : ℕ) (ds : List ℕ) → d ≤ b → Within (b + 1) ds → Within (b + 1) (child_depths k d ++ ds)
within_more Blank d b ds h w = w
within_more Variable d b ds h w = w
within_more Zero d b ds h w = w
within_more Successor d b ds h w = (omega arith, w)
within_more Rec d b ds h w = (omega arith, (omega arith, (omega arith, w)))
within_more Lambda d b ds h w = (omega arith, w)
within_more Apply d b ds h w = (omega arith, (omega arith, w))
within_more Triv d b ds h w = w
within_more Pair d b ds h w = (omega arith, (omega arith, w))
within_more Fst d b ds h w = (omega arith, w)
within_more Snd d b ds h w = (omega arith, w)
within_more Abort d b ds h w = (omega arith, w)
within_more Inl d b ds h w = (omega arith, w)
within_more Inr d b ds h w = (omega arith, w)
within_more Case d b ds h w = (omega arith, (omega arith, (omega arith, w)))
within_more Query d b ds h w = (omega arith, w)

pub within_next : (k : Kind) (d b : ℕ) (ds : List ℕ) → Within b (d ∷ ds) → Within (b + 1) (child_depths k d ++ ds)
within_next k d b ds w = within_more k d b ds w.0 (within_up b ds w.1)

pub length_next : (k : Kind) (d : ℕ) (ds : List ℕ) → length (child_depths k d ++ ds) ≤ 3 + length ds
length_next Blank d ds = omega arith
length_next Variable d ds = omega arith
length_next Zero d ds = omega arith
length_next Successor d ds = omega arith
length_next Rec d ds = omega arith
length_next Lambda d ds = omega arith
length_next Apply d ds = omega arith
length_next Triv d ds = omega arith
length_next Pair d ds = omega arith
length_next Fst d ds = omega arith
length_next Snd d ds = omega arith
length_next Abort d ds = omega arith
length_next Inl d ds = omega arith
length_next Inr d ds = omega arith
length_next Case d ds = omega arith
length_next Query d ds = omega arith
