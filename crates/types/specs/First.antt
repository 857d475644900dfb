-- The first of a list that passes a test.
--   Before p xs i   none of the list below the index i passes
--   First p xs r    the index of the first that passes, which is in the list and none before it passes; or none passes
-- Assumes nothing.
use Rattle.std.specs.Prelude.{◌≡◌, ℕ, ◌<◌, Bool, true, false, List, length, Some, None, Option}
use Rattle.std.specs.List.{slice_get}

abbrev pub Before : {X : Type 0} → (X → Bool) → List X → ℕ → Type 0
Before {X} p xs i = (k : ℕ) (x : X) → k < i → slice_get xs k ≡ Some x → p x ≡ false

abbrev pub First : {X : Type 0} → (X → Bool) → List X → Option ℕ → Type 0
First p xs None = Before p xs (length xs)
First {X} p xs (Some i) = (i < length xs) × ((x : X) × (slice_get xs i ≡ Some x) × (p x ≡ true)) × Before p xs i
