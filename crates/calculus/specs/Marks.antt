-- How a mark is read.
--   Decodes   what is read from a mark is what has it, or an error where nothing has it
-- Assumes nothing.
use Rattle.std.specs.Prelude.{◌≡◌, ℕ, List, Result, MatchResult, ◌≢◌}
use Rattle.calculus.specs.declared.mark.UnknownMark.{UnknownMark}

abbrev pub Decodes : {K : Type 0} → (K → List ℕ) → List ℕ → Result K UnknownMark → Type 0
Decodes {K} mark_of mark result =
    MatchResult result (λ k. mark_of k ≡ mark) (λ e. (e.0 ≡ mark) × ((k : K) → mark_of k ≢ mark))
