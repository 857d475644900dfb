-- What start leaves, and what it may promise of it.
use Rattle.std.proofs.Common.{◌≡◌, ℕ, ◌-◌, ◌≤◌, List, [], ◌++◌, length, Some, sym, refl, ap, ◌∙◌, subst, arith}
use mathlib.Core.Logic.{∥∥₁_elim, ∥∥₁_prop}
use Rattle.std.specs.List.{AllByRecursion}
use Rattle.calculus.specs.declared.node.Node.{Node}
use Rattle.calculus.specs.Syntax.{Term, size, flat}
use Rattle.calculus.specs.Accepted.{Accepted}
use Rattle.calculus.proofs.Reading.{read_once, length_flat}
use Rattle.evaluator.specs.declared.held.Held.{Held}
use Rattle.evaluator.specs.OneCall.{State, blanks, Narrow, Started, StartCall}
use Rattle.evaluator.specs.Safety.{SafeFrom}
use Rattle.rewriter.proofs.Flats.{onto_flat}
use Rattle.evaluator.proofs.Runnables.{narrow_types}
use Rattle.evaluator.proofs.Whole.{safe}

-- an acceptance's rule is the term of its nodes
pub its_rule : (nodes : List Node) (type profile : ℕ) → ∥ ((t : Term) × (flat t ≡ nodes) × Accepted t type profile) ∥₁
    → (rule : Term) → flat rule ≡ nodes → Accepted rule type profile
its_rule nodes type profile a rule p =
    ∥∥₁_elim a ∥∥₁_prop (λ t. subst (λ (x : Term). Accepted x type profile) (read_once t.0 rule [] [] (t.1 ∙ sym p)).0 t.2)

module _ (rule : Term) (nodes front back front' back' : List Node) (h : Held) (type profile : ℕ)
    (p : flat rule ≡ nodes) (same : length front ≡ length back) (room : length nodes ≤ length front) (small : length front ≤ 4096)
    (f : front' ≡ nodes ++ blanks (length front - length nodes)) (b : back' ≡ blanks (length back))
    (hl : h.length ≡ length front) (hc : h.count ≡ length nodes) (hs : h.steps ≡ 0)
    (ht : h.type_number ≡ type) (hp : h.profile ≡ profile) (all : AllByRecursion Narrow nodes) where
  long : length nodes ≡ size rule
  long = ap (λ (l : List Node). length l) (sym p) ∙ length_flat rule

  abbrev left : State
  left = record { run = record { held = Some h }; front = front'; back = back' }

  started : Started rule type profile (length front) left
  started = record {
    bounded = small;
    narrow = narrow_types rule (subst (AllByRecursion Narrow) (sym p) all);
    holding = record {
      note = h;
      run = refl;
      length_is = hl;
      count_is = hc ∙ long;
      steps_are = hs;
      type_is = ht;
      profile_is = hp;
      fits = omega (arith, long);
      front = f ∙ ap (λ (k : ℕ). nodes ++ blanks (length front - k)) long
          ∙ ap (λ (l : List Node). l ++ blanks (length front - size rule)) (sym p)
          ∙ sym (onto_flat rule (blanks (length front - size rule)));
      back = b ∙ ap blanks (sym same);
    };
  }

  pub leaves : StartCall rule type profile front back left
  leaves = record { fit = λ r. started; unfit = λ n. absurd (n (sym same, omega (arith, long), small)) }

  pub promises : Accepted rule type profile → SafeFrom rule type profile (length front) left
  promises acc = safe rule type profile (length front) left acc started
