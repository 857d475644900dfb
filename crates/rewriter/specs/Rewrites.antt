-- What replacing a redex and one step of a term leave.
--   StandsAt    a redex stands at a site, and contracts by the site's rule under a meaning
--   Replaces    what it becomes is written to the front of a table, or does not fit
--   Rewritten   the next term of a term is written to the front of a table, or does not fit
-- Assumes nothing.
use Rattle.std.specs.Prelude.{◌≡◌, ℕ, ◌+◌, ◌<◌, ◌≤◌, List, ◌++◌, length, drop, Some, None, Option}
use Rattle.calculus.specs.declared.node.Node.{Node}
use Rattle.calculus.specs.Syntax.{Term, onto, flat, size}
use Rattle.calculus.specs.Meanings.{Meaning}
use Rattle.calculus.specs.Steps.{Step}
use Rattle.rewriter.specs.declared.site.Site.{Site}
use Rattle.rewriter.specs.Redexes.{Contracts, taken}
use Rattle.rewriter.specs.Writes.{Wrote}

pub record StandsAt (m : Meaning) (ns : List Node) (site : Site) : Type 0 where
  pub redex : Term
  pub new : Term
  pub rest : List Node
  pub there : drop site.at ns ≡ onto redex rest
  pub values_end : site.upto ≡ site.at + taken redex
  pub ends : site.end ≡ site.at + size redex
  pub contracts : Contracts m site.rule redex new

abbrev pub Replaces : Meaning → List Node → Site → List Node → List Node → Option ℕ → Type 0
Replaces m ns site was now r =
    (e e' : Term) (rest : List Node) → drop site.at ns ≡ onto e rest → Contracts m site.rule e e' → Wrote was 0 (flat e') now r

-- `was` and `now` are the table before and after; behind the next term's nodes it is as it was. Where the next term is
-- longer than the table, nothing is said of what stands in it.
abbrev pub Rewritten : Meaning → Term → List Node → List Node → Option ℕ → Type 0
Rewritten m t was now None = (u : Term) × Step m t u × (length was < size u)
Rewritten m t was now (Some n) =
    (u : Term) × Step m t u × (n ≡ size u) × (n ≤ length was) × (now ≡ flat u ++ drop n was)
