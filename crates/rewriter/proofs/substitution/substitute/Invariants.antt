use Rattle.std.proofs.Common.{◌≡◌, ◌+◌, ◌*◌, ◌<◌, ◌≤◌, [], ◌∷◌, ◌++◌, length, take, drop}
use Rattle.rewriter.specs.Depths.{Within}
use Rattle.rewriter.specs.Substituted.{substituted}
use Rattle.rewriter.proofs.substitution.substitute.Given as goal

-- the stack has room for the children of the next node, and what is written and what is to come are the whole
abbrev pub invariant-loop-node : goal.invariant-loop-node
invariant-loop-node l = record {
  room : length l.pending.depths ≤ 1 + 2 * l.node-index;
  enough : 2 * length l.body < l.pending.room;
  within : Within l.node-index l.pending.depths;
  inside : l.used ≤ length l.out;
  whole : take l.used l.out ++ substituted l.value l.pending.depths (drop l.node-index l.body) ≡ substituted l.value (0 ∷ []) l.body;
  kept : drop l.used l.out ≡ drop l.used l.initial.out;
}
