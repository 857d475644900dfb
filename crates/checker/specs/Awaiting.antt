-- Frames, and what numbers stand for them.
--   code_of     the number for what a frame waits for: the child's, and 3 more where it stands under a binder
--   kept_of     the type number that a frame keeps, or 0
--   awaits_of, bound_of   what a code and a kept type stand for
--   frame       a frame
-- Assumes nothing.
use Rattle.std.specs.Prelude.{ℕ, Bool, true, false, cond, ◌||◌, ◌==◌, nat_lt}
use Rattle.checker.specs.declared.frame.Awaits.{Awaits}
use Rattle.checker.specs.declared.frame.Awaits.TheVariants.{First, Second, Third}
use Rattle.checker.specs.declared.frame.Frame.{Frame}

abbrev pub code_of : Awaits → Bool → ℕ
code_of First false = 1
code_of (Second t) false = 2
code_of (Third t) false = 3
code_of First true = 4
code_of (Second t) true = 5
code_of (Third t) true = 6

abbrev pub kept_of : Awaits → ℕ
kept_of First = 0
kept_of (Second t) = t
kept_of (Third t) = t

abbrev pub awaits_of : ℕ → ℕ → Awaits
awaits_of code kept =
    cond (code == 1 || code == 4) First (cond (code == 2 || code == 5) (Second kept) (Third kept))

abbrev pub bound_of : ℕ → Bool
bound_of code = nat_lt 3 code

abbrev pub frame : ℕ → Awaits → Bool → Frame
frame p a b = record { place = p; awaits = a; bound = b }
