-- What is left of a table that nodes are written to.
--   Wrote was used more now r   `more` is written from the place `used` on, and ends at r; or it does not fit
-- Assumes nothing.
use Rattle.std.specs.Prelude.{◌≡◌, ℕ, ◌+◌, ◌<◌, ◌≤◌, List, ◌++◌, length, take, drop, Some, None, Option}
use Rattle.calculus.specs.declared.node.Node.{Node}

-- `was` and `now` are the table before and after. What stands before the writing and after it is as it was; where the
-- writing does not fit, nothing is said of the table.
abbrev pub Wrote : List Node → ℕ → List Node → List Node → Option ℕ → Type 0
Wrote was used more now None = length was < used + length more
Wrote was used more now (Some k) =
    (k ≡ used + length more) × (k ≤ length was) × (take k now ≡ take used was ++ more) × (drop k now ≡ drop k was)
