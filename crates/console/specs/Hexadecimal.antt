-- Hexadecimal digits.
--   between       whether a byte lies between two others, both included
--   digit_value   the value of a digit, with letters of either case; none of any other byte
-- Assumes nothing.
use Rattle.std.specs.Prelude.{ℕ, ◌-◌, Bool, cond, ◌&&◌, Some, None, Option, nat_le}

abbrev pub between : ℕ → ℕ → ℕ → Bool
between low high b = nat_le low b && nat_le b high

-- 0 is 48, A is 65 and a is 97
abbrev pub digit_value : ℕ → Option ℕ
digit_value b =
    cond (between 48 57 b) (Some (b - 48))
    (cond (between 97 102 b) (Some (b - 87)) (cond (between 65 70 b) (Some (b - 55)) None))
