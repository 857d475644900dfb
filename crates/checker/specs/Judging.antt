-- Checking a term as a function on trees: children in order, each condition on a child as soon as that child is finished, and
-- a type table that grows on the way. What it means is said in Derivations.
--   Outcome      a type number with the table by then, or the question that was answered no
--   on_outcome, on_arrival, on_reaction   what follows, by each case
--   settle       what a node makes of a finished child
--   judge        the outcome of a tree, at a place, in a context of type numbers, with a table
--   children     the outcome of a node that goes on with the children that are left
--   judge_term   the outcome of a term at place 0 in the empty context
-- Assumes nothing.
use Rattle.std.specs.Prelude.{ℕ, suc, ◌+◌, List, [], Option, Ok, Err, Result}
use Rattle.refusals.specs.declared.Question.{Question}
use Rattle.refusals.specs.declared.Question.TheVariants.{FirstChild}
use Rattle.calculus.specs.declared.entry.Entry.{Entry}
use Rattle.calculus.specs.declared.kind.Kind.{Kind}
use Rattle.calculus.specs.Syntax.{Term}
use Rattle.types.specs.Adding.{index_of, with_entry}
use Rattle.checker.specs.declared.frame.Awaits.{Awaits}
use Rattle.checker.specs.declared.frame.Awaits.TheVariants.{First}
use Rattle.checker.specs.declared.rules.Arrival.{Arrival}
use Rattle.checker.specs.declared.rules.Arrival.TheVariants.{Known, Waits}
use Rattle.checker.specs.declared.rules.Reaction.{Reaction}
use Rattle.checker.specs.declared.rules.Reaction.TheVariants.{Done, Build, Next}
use Rattle.checker.specs.Contexts.{bind}
use Rattle.checker.specs.Rules.{arrive, react}
use Rattle.checker.specs.Trees.{Tree, tree, Trees, none, more, tree_size, root, view}

pub data Outcome : Type 0 where
  typed : ℕ → List Entry → Outcome
  refused : Question → Outcome

abbrev pub on_outcome : Outcome → (ℕ → List Entry → Outcome) → Outcome
on_outcome (typed ty T) k = k ty T
on_outcome (refused q) k = refused q

abbrev pub on_arrival : Result Arrival Question → List Entry → (Option ℕ → Outcome) → Outcome
on_arrival (Ok (Known ty)) T k = typed ty T
on_arrival (Ok (Waits b)) T k = k b
on_arrival (Err q) T k = refused q

abbrev pub on_reaction : Result Reaction Question → List Entry → (Awaits → Option ℕ → Outcome) → Outcome
on_reaction (Ok (Done ty)) T k = typed ty T
on_reaction (Ok (Build x)) T k = typed (index_of x T) (with_entry T x)
on_reaction (Ok (Next a b)) T k = k a b
on_reaction (Err q) T k = refused q

-- The node of the kind k and the number n at the place p, which awaited a, makes this of its finished child, whose type number
-- is ty and whose root is of the kind head; then says how it goes on with its next child.
abbrev pub settle : ℕ → Kind → ℕ → ℕ → Awaits → List Entry → ℕ → Kind → (Awaits → Option ℕ → Outcome) → Outcome
settle profile k n p a T ty head then = on_reaction (react profile k n p a T ty head) T then

abbrev mutual
  pub judge : ℕ → Tree → List ℕ → List Entry → ℕ → Outcome
  judge profile (tree n ts) Γ T p =
      on_arrival (arrive profile n.kind n.number p Γ) T
      (λ b. children profile ts n.kind n.number p First b Γ T (suc p))

  -- the node at p goes on with its children ts, of which the first begins at q and stands under the binder b
  pub children : ℕ → Trees → Kind → ℕ → ℕ → Awaits → Option ℕ → List ℕ → List Entry → ℕ → Outcome
  children profile none k n p a b Γ T q = refused (FirstChild p)
  children profile (more t ts) k n p a b Γ T q =
      on_outcome (judge profile t (bind b Γ) T q)
      (λ ty U. settle profile k n p a U ty (root t).kind (λ a' b'. children profile ts k n p a' b' Γ U (q + tree_size t)))

abbrev pub judge_term : ℕ → Term → List Entry → Outcome
judge_term profile e T = judge profile (view e) [] T 0
