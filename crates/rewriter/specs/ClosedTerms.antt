-- Lists of nodes that are one closed term.
--   any_type           above every number of 16 bits: with it as the bound of type numbers, each of them is in range
--   ClosedTerm         a closed term whose indices and questions are in range; its type numbers may be any of 16 bits
--   OneClosed          some closed term is written so
--   BeginsClosed       some closed term's written form begins so
--   FirstClosedFault   up to the fault some closed term begins so, and with the node there none does; or the fault is the
--                      end, and the term is not ended there
--   JudgedClosed       one closed term, or the first fault
-- and how they are read from the left, with a stack of the depths of the terms that are still to come:
--   in_scope d k m        whether a node of the kind k with the number m is no variable, or one of d binders
--   fits_under d n        whether the node n may stand under d binders
--   fault_under ds ns     the first fault of a list that should be one term for each depth of ds, or none
-- Assumes nothing.
use Rattle.std.specs.Prelude.{◌≡◌, ℕ, suc, ◌<◌, ◌≤◌, Bool, true, false, cond, List, [], ◌∷◌, ◌++◌, length, take, Some, None, Option, nat_lt}
use Rattle.calculus.specs.declared.kind.Kind.{Kind}
use Rattle.calculus.specs.declared.node.Node.{Node}
use Rattle.calculus.specs.Syntax.{Term, flat, Closed}
use Rattle.terms.specs.Ranges.{in_range, AllInRange}
use Rattle.terms.specs.Scan.{further}
use Rattle.rewriter.specs.Depths.{child_depths, is_variable}

abbrev pub any_type : ℕ
any_type = 65536

abbrev pub ClosedTerm : Term → Type 0
ClosedTerm t = Closed t × AllInRange any_type (flat t)

abbrev pub OneClosed : List Node → Type 0
OneClosed ns = (t : Term) × (flat t ≡ ns) × ClosedTerm t

abbrev pub BeginsClosed : List Node → Type 0
BeginsClosed ns = (t : Term) × (rest : List Node) × (flat t ≡ ns ++ rest) × ClosedTerm t

abbrev pub FirstClosedFault : List Node → ℕ → Type 0
FirstClosedFault ns k =
    (k ≤ length ns) × BeginsClosed (take k ns)
    × (k < length ns → BeginsClosed (take (suc k) ns) → ⊥) × (OneClosed ns → ⊥)

abbrev pub JudgedClosed : List Node → Option ℕ → Type 0
JudgedClosed ns None = OneClosed ns
JudgedClosed ns (Some k) = FirstClosedFault ns k

-- an index is below the number of binders around it
abbrev pub in_scope : ℕ → Kind → ℕ → Bool
in_scope d k m = cond (is_variable k) (nat_lt m d) true

abbrev pub fits_under : ℕ → Node → Bool
fits_under d n = cond (in_scope d n.kind n.number) (in_range any_type n) false

abbrev pub fault_under : List ℕ → List Node → Option ℕ
fault_under [] [] = None
fault_under [] (n ∷ ns) = Some 0
fault_under (d ∷ ds) [] = Some 0
fault_under (d ∷ ds) (n ∷ ns) =
    cond (fits_under d n) (further (fault_under (child_depths n.kind d ++ ds) ns)) (Some 0)
