-- Frames, and how lent numbers hold them.
--   frame_at    the frame in the numbers 3 i, 3 i + 1 and 3 i + 2
--   stack       the lowest frames, the topmost first
--   Stacked     the frames that there are, the topmost first, and for how many there is room
--   stacked     those that lent numbers hold
--   IsStack     the numbers hold the frames, and each of them has 16 bits
-- Assumes nothing.
use Rattle.std.specs.Prelude.{ℕ, zero, suc, ◌+◌, ◌*◌, ◌/◌, ◌≤◌, List, [], ◌∷◌, length, slice_index}
use Rattle.checker.specs.declared.frame.Frame.{Frame}
use Rattle.checker.specs.declared.frame.Stack.TheInside.{Inside}
use Rattle.checker.specs.Awaiting.{awaits_of, bound_of, frame}
use Rattle.checker.specs.Contexts.{Small}

unfoldable pub frame_at : List ℕ → ℕ → Frame
frame_at words i =
    frame (slice_index words (3 * i)) (awaits_of (slice_index words (3 * i + 1)) (slice_index words (3 * i + 2)))
    (bound_of (slice_index words (3 * i + 1)))

abbrev pub stack : List ℕ → ℕ → List Frame
stack words zero = []
stack words (suc d) = frame_at words d ∷ stack words d

pub record Stacked : Type 0 where
  pub frames : List Frame
  pub room : ℕ

abbrev pub stacked : Inside → Stacked
stacked s = record { frames = stack s.words.now s.depth; room = length s.words.now / 3 }

pub record IsStack (s : Inside) : Type 0 where
  pub within : 3 * s.depth ≤ length s.words.now
  pub small : Small s.words.now (3 * s.depth)
