-- Binders in lent numbers.
--   Bound       the types of the binders that there are, the innermost first, and for how many there is room
--   bound       those that lent numbers hold
--   IsBound     the numbers hold the types, and each of them has 16 bits
-- Assumes nothing.
use Rattle.std.specs.Prelude.{ℕ, ◌≤◌, List, length}
use Rattle.checker.specs.declared.binders.Binders.TheInside.{Inside}
use Rattle.checker.specs.Contexts.{Small, context}

pub record Bound : Type 0 where
  pub types : List ℕ
  pub room : ℕ

abbrev pub bound : Inside → Bound
bound b = record { types = context b.words.now b.depth; room = length b.words.now }

pub record IsBound (b : Inside) : Type 0 where
  pub within : b.depth ≤ length b.words.now
  pub small : Small b.words.now b.depth
