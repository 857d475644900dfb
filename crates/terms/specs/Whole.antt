-- Lists of nodes that are one term.
--   OneTerm      some tree is written so, with numbers in range
--   Begins       some tree's written form begins so
--   FirstFault   up to the fault some term begins so, and with the node there none does; or the fault is the end, and the
--                term is not ended there
--   Judged       one term, or the first fault
--   EndsAt       where a term that begins at a place ends
-- Assumes nothing.
use Rattle.std.specs.Prelude.{◌≡◌, ℕ, suc, ◌+◌, ◌<◌, ◌≤◌, List, ◌++◌, length, take, drop, Some, None, Option}
use Rattle.calculus.specs.declared.node.Node.{Node}
use Rattle.calculus.specs.Syntax.{Term, onto, flat, size}
use Rattle.terms.specs.Ranges.{AllInRange}
use Rattle.terms.specs.Scan.{after, shift}

abbrev pub OneTerm : ℕ → List Node → Type 0
OneTerm types ns = (t : Term) × (flat t ≡ ns) × AllInRange types ns

abbrev pub Begins : ℕ → List Node → Type 0
Begins types ns = (t : Term) × (rest : List Node) × (flat t ≡ ns ++ rest) × AllInRange types (ns ++ rest)

abbrev pub FirstFault : ℕ → List Node → ℕ → Type 0
FirstFault types ns k =
    (k ≤ length ns) × Begins types (take k ns)
    × (k < length ns → Begins types (take (suc k) ns) → ⊥) × (OneTerm types ns → ⊥)

abbrev pub Judged : ℕ → List Node → Option ℕ → Type 0
Judged types ns None = OneTerm types ns
Judged types ns (Some k) = FirstFault types ns k

-- Where a term stands at the place `at`, its end is the place just past it; no answer says that none stands there.
-- The kinds alone say where the nodes of a term end, so there is an end whatever their numbers are.
pub record EndsAt (ns : List Node) (at : ℕ) (r : Option ℕ) : Type 0 where
  pub end : (t : Term) (rest : List Node) → drop at ns ≡ onto t rest → r ≡ Some (at + size t)
  pub within : (e : ℕ) → r ≡ Some e → (at < e) × (e ≤ length ns)
  pub value : r ≡ shift at (after 1 (drop at ns))
