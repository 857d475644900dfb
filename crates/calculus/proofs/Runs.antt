-- Runs compose, two runs of one term under the same meanings agree, and runs keep types.
use Rattle.std.proofs.Common.{◌≡◌, ℕ, List, [], ◌++◌, sym, refl, subst}
use Rattle.std.specs.List.{AllByRecursion}
use Rattle.calculus.specs.Syntax.{Ty, Term}
use Rattle.calculus.specs.Meanings.{Meaning, LawfulUnder}
use Rattle.calculus.specs.Typing.{Typed}
use Rattle.calculus.specs.Runs.{Run, done, onward}
use Rattle.calculus.specs.Safety.{ReadsGiven}
use Rattle.calculus.proofs.OneNext.{one_next}
use Rattle.calculus.proofs.TypeKept.{type_kept}

pub runs_compose : {ms ns : List Meaning} {e e' e'' : Term} → Run ms e e' → Run ns e' e'' → Run (ms ++ ns) e e''
runs_compose done y = y
runs_compose (onward s x) y = onward s (runs_compose x y)

pub runs_agree : {ms : List Meaning} {e a b : Term} → Run ms e a → Run ms e b → a ≡ b
runs_agree done done = refl
runs_agree (onward {m = m} {ms = ms} s x) (onward {e'' = b} t y) =
    runs_agree x (subst (λ (z : Term). Run ms z b) (sym (one_next m s t)) y)

module _ (ρ : ℕ → Ty) (profile : ℕ) (g : ReadsGiven ρ) where
  pub run_keeps_type : {ms : List Meaning} {e e' : Term} {τ : Ty} → AllByRecursion (LawfulUnder profile) ms
      → Typed ρ profile [] e τ → Run ms e e' → Typed ρ profile [] e' τ
  run_keeps_type l d done = d
  run_keeps_type l d (onward {m = m} s x) = run_keeps_type l.1 (type_kept ρ profile m g l.0 d s) x
