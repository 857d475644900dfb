-- The four writings of an unrolled recursion: its head, the step, the node of the recursion and that recursion's parts.
--   no_step      the step does not fit
--   no_rec       the node does not fit
--   unrolled     both fit
use Rattle.std.proofs.Common.{◌≡◌, ℕ, ◌+◌, ◌-◌, ◌≤◌, List, [], ◌∷◌, ◌++◌, length, take, drop, Some, None, Option, arith}
use borrow.Rule.Slice.PartMut.{put_mid}
use Rattle.calculus.specs.declared.node.Node.{Node}
use Rattle.rewriter.specs.Writes.{Wrote}
use Rattle.rewriter.proofs.Writings.{wrote_seq, wrote_none, wrote_part, length_put}

-- the table before, with the head, and with the step in its rest
module _ (was one part : List Node) (apply rec : Node) (step parts : List Node) (h : ℕ) (same : length one ≡ length was)
    (kept : length part ≡ length (take (length one - h) (drop h one))) (head : Wrote was 0 (apply ∷ []) one (Some h))
  where
    abbrev whole : List Node
    whole = apply ∷ (step ++ (rec ∷ parts))

    abbrev with_step : List Node
    with_step = put_mid h (length one - h) one part

    fits : h ≤ length one
    fits = omega arith

    pub no_step : Wrote (take (length one - h) (drop h one)) 0 step part None → Wrote was 0 whole one None
    no_step w =
        wrote_seq was one one (apply ∷ []) (step ++ (rec ∷ parts)) 0 h None same head
        (wrote_none one one step (rec ∷ parts) h (wrote_part one part step h None fits kept w))

    -- what follows the head and the step
    followed : (now : List Node) (k : ℕ) (r : Option ℕ) → Wrote (take (length one - h) (drop h one)) 0 step part (Some k)
        → Wrote with_step (h + k) (rec ∷ parts) now r → Wrote was 0 whole now r
    followed now k r w v =
        wrote_seq was one now (apply ∷ []) (step ++ (rec ∷ parts)) 0 h r same head
        (wrote_seq one with_step now step (rec ∷ parts) h (h + k) r (length_put one part h fits kept)
        (wrote_part one part step h (Some k) fits kept w) v)

    pub no_rec : (now : List Node) (k : ℕ) → Wrote (take (length one - h) (drop h one)) 0 step part (Some k)
        → Wrote with_step (h + k) (rec ∷ []) now None → Wrote was 0 whole now None
    no_rec now k w v = followed now k None w (wrote_none with_step now (rec ∷ []) parts (h + k) v)

    pub unrolled : (two now : List Node) (k u : ℕ) (r : Option ℕ) → Wrote (take (length one - h) (drop h one)) 0 step part (Some k)
        → length two ≡ length with_step → Wrote with_step (h + k) (rec ∷ []) two (Some u) → Wrote two u parts now r → Wrote was 0 whole now r
    unrolled two now k u r w l v p = followed now k r w (wrote_seq with_step two now (rec ∷ []) parts (h + k) u r l v p)
