-- The search for the redex on a flat list, in one pass from the left, and the choice of its rule.
--   role_of_lem     what a node of a kind is to evaluation
--   focused         where evaluation stands once all wanted values are there
--   focus           where evaluation of a list's terms stands: `focus last wanted passing i ns` has read i nodes, ns is what
--                   is left, `last` is the last eliminator seen, `wanted` values are still to come for it (or for the whole
--                   term), and `passing` terms are to be passed over
--   same            whether two kinds are one
--   rule_for_lem    the rule for an eliminator, by the kind of its first child
--   numeral_in      the number of the numeral that a list begins with, or none
--   answer_rule_lem the rule for a query of a number or of no number
--   first_kind      the kind of a list's first node
--   rule_in         the rule for the eliminator that a list begins with, which has its values
-- What they mean over trees is said in Redexes. Assumes nothing.
use Rattle.std.specs.Prelude.{ℕ, zero, suc, ◌+◌, Bool, cond, List, [], ◌∷◌, is_some, Some, None, Option, ◌==◌, nat_le}
use Rattle.calculus.specs.declared.kind.Kind.{Kind}
use Rattle.calculus.specs.declared.kind.Kind.TheVariants.{Blank, Variable, Zero, Successor, Rec, Lambda, Apply, Triv, Pair, Fst, Snd, Abort, Inl, Inr, Case, Query}
use Rattle.calculus.specs.declared.node.Node.{Node}
use Rattle.calculus.specs.Kinds.{kind_number, arity}
use Rattle.calculus.specs.Meanings.{question_shape, largest_asked}
use Rattle.terms.specs.Scan.{further}
use Rattle.rewriter.specs.declared.site.Rule.{Rule}
use Rattle.rewriter.specs.declared.site.Rule.TheVariants as rule
use Rattle.rewriter.specs.declared.focus.Role.{Role}
use Rattle.rewriter.specs.declared.focus.Role.TheVariants as role
use Rattle.rewriter.specs.declared.focus.Focus.{Focus}
use Rattle.rewriter.specs.declared.focus.Focus.TheVariants as at

abbrev pub role_of_lem : Kind → Role
role_of_lem Blank = role.Open
role_of_lem Variable = role.Open
role_of_lem Zero = role.Constructor 0
role_of_lem Successor = role.Constructor 1
role_of_lem Rec = role.Eliminator 1
role_of_lem Lambda = role.Function
role_of_lem Apply = role.Eliminator 2
role_of_lem Triv = role.Constructor 0
role_of_lem Pair = role.Constructor 2
role_of_lem Fst = role.Eliminator 1
role_of_lem Snd = role.Eliminator 1
role_of_lem Abort = role.Eliminator 1
role_of_lem Inl = role.Constructor 1
role_of_lem Inr = role.Constructor 1
role_of_lem Case = role.Eliminator 1
role_of_lem Query = role.Eliminator 1

-- all values are there
abbrev pub focused : Option ℕ → ℕ → Focus
focused None i = at.Value
focused (Some e) i = at.Eliminator e i

abbrev pub focus : Option ℕ → ℕ → ℕ → ℕ → List Node → Focus
focus last wanted passing i [] = focused last i
focus last zero zero i (n ∷ ns) = focused last i
focus last (suc wanted) zero i (n ∷ ns) =
    elim (role_of_lem n.kind) [
      | role.Constructor a ↦ focus last (a + wanted) zero (suc i) ns
      | role.Function ↦ focus last wanted 1 (suc i) ns
      | role.Eliminator a ↦ focus (Some i) a zero (suc i) ns
      | role.Open ↦ at.Variable
    ]
focus last wanted (suc passing) i (n ∷ ns) = focus last wanted (arity n.kind + passing) (suc i) ns

abbrev pub same : Kind → Kind → Bool
same j k = kind_number j == kind_number k

abbrev pub rule_for_lem : Kind → Kind → Option Rule
rule_for_lem Blank v = None
rule_for_lem Variable v = None
rule_for_lem Zero v = None
rule_for_lem Successor v = None
rule_for_lem Rec v = cond (same v Zero) (Some rule.RecZero) (cond (same v Successor) (Some rule.RecSuccessor) None)
rule_for_lem Lambda v = None
rule_for_lem Apply v = cond (same v Lambda) (Some rule.Beta) None
rule_for_lem Triv v = None
rule_for_lem Pair v = None
rule_for_lem Fst v = cond (same v Pair) (Some rule.Fst) None
rule_for_lem Snd v = cond (same v Pair) (Some rule.Snd) None
rule_for_lem Abort v = None
rule_for_lem Inl v = None
rule_for_lem Inr v = None
rule_for_lem Case v = cond (same v Inl) (Some rule.CaseInl) (cond (same v Inr) (Some rule.CaseInr) None)
rule_for_lem Query v = None

abbrev pub numeral_in : List Node → Option ℕ
numeral_in [] = None
numeral_in (n ∷ ns) =
    cond (same n.kind Successor) (further (numeral_in ns)) (cond (same n.kind Zero) (Some 0) None)

-- a question is answered if the profile has it and the number is at most largest_asked
abbrev pub answer_rule_lem : ℕ → ℕ → Option ℕ → Option Rule
answer_rule_lem p q None = None
answer_rule_lem p q (Some n) = cond (nat_le n largest_asked) (cond (is_some (question_shape p q)) (Some (rule.Answer q n)) None) None

abbrev pub first_kind : List Node → Kind
first_kind [] = Blank
first_kind (n ∷ ns) = n.kind

abbrev pub rule_in : ℕ → List Node → Option Rule
rule_in p [] = None
rule_in p (n ∷ ns) =
    cond (same n.kind Query) (answer_rule_lem p n.number (numeral_in ns)) (rule_for_lem n.kind (first_kind ns))
