use Rattle.std.proofs.Common.{ℕ, List, [], take, sym, refl, ap, ◌∙◌, subst, arith, None}
use Rattle.std.proofs.lemmas.List.{length-take-le}
use Rattle.std.proofs.lemmas.Result.{err_from_is_err_and}
use Rattle.checker.specs.declared.frame.Frame.{Frame}
use Rattle.checker.specs.Binders.{Bound}
use Rattle.checker.specs.Frames.{Stacked}
use Rattle.checker.specs.Trees.{view}
use Rattle.checker.specs.Judging.{judge_term}
use Rattle.checker.specs.Machine.{go}
use Rattle.checker.proofs.Tracks.{Good, good_start}
use Rattle.checker.proofs.Readies.{running_ready, running_on, good_turn, left_turn}
use Rattle.checker.proofs.Keeping.{same_keeps, keeps_on}
use Rattle.checker.proofs.Views.{view_onto, view_whole, numbers_in, parts_in}
use Rattle.checker.proofs.machine.judge_nodes.Goals as goal

pub turns-init : goal.turns-init
turns-init c =
    let N = c.args.nodes.now in
    let P = c.args.profile in
    let C = c.args.count in
    let ts = c.args.types.now in
    let T = take C ts in
    let input = c.requires.ready in
    let long = length-take-le C ts (omega (arith, input.types)) in
    let F = c.new-stack.result.frames in
    let Γ = c.new-binders.result.types in
    let room = ap (λ (s : Stacked). s.room) c.new-stack.ensures.value in
    let slots = ap (λ (b : Bound). b.room) c.new-binders.ensures.value in
    record {
      nodes = refl;
      profile_is = refl;
      frames = omega (arith, room, input.room, c.split_at_mut-frames.ensures.front_len);
      binders = omega (arith, slots, input.room, c.split_at_mut-frames.ensures.back_len);
      good = λ t e.
          let o = judge_term P t T in
          subst (λ (G : List Frame). Good P N C o (go 0 G Γ T None)) (sym (ap (λ (s : Stacked). s.frames) c.new-stack.ensures.value))
          (subst (λ (Δ : List ℕ). Good P N C o (go 0 [] Δ T None)) (sym (ap (λ (b : Bound). b.types) c.new-binders.ensures.value))
          (good_start P N C T (view t) (sym e ∙ sym (view_onto t [])) (view_whole t)
          (numbers_in C N input.term.2) input.given long (parts_in T input.table (omega (arith, input.given)))));
      keeps = same_keeps C ts (omega (arith, input.types));
    }

pub turn-requires : goal.turn-requires
turn-requires c =
    let input = c.requires.ready in
    record {
      ready =
          running_ready c.args.nodes.now c.args.profile c.args.count c.args.types.now c.turns.types c.turns.machine c.turns.invariant
          input.term.0 input.term.1 input.few_nodes input.few_types (omega (arith, input.types, c.turns.auto.types));
    }

pub turns-smaller : goal.turns-smaller
turns-smaller c =
    left_turn c.args.nodes.now c.args.profile c.args.count c.args.types.now c.turns.types c.turns.machine c.turns.invariant _
    (rw c.in_default.is at c.in_ok-ty.ensures.step) c.requires.ready.term.0 c.requires.ready.term.1

pub turns-preserved : goal.turns-preserved
turns-preserved c =
    running_on c.args.nodes.now c.args.profile c.args.count c.args.types.now c.turns.types c.turns.machine c.turns.invariant c.turn.new.self c.turn.new.types
    c.turn.ensures.same c.turn.ensures.keeps (rw c.in_default.is at c.in_ok-ty.ensures.step)

pub returns-in-Break-clause-judged : goal.returns-in-Break-clause-judged
returns-in-Break-clause-judged c =
    λ t e. good_turn c.args.nodes.now c.args.profile c.args.count c.args.types.now c.turns.types c.turns.machine c.turns.invariant _
    (rw c.in-Break.is at c.in_ok-ty.ensures.step) t e

pub returns-in-Break-clause-front : goal.returns-in-Break-clause-front
returns-in-Break-clause-front c =
    let k = keeps_on c.args.count c.turns.machine.count c.turn.new.self.count c.args.types.now c.turns.types c.turn.new.types
    c.turns.invariant.keeps c.turn.ensures.keeps in
    k.front

pub returns-in_err-ty-clause-judged : goal.returns-in_err-ty-clause-judged
returns-in_err-ty-clause-judged c =
    let p = err_from_is_err_and c.from_residual.result c.from_residual.ensures.1 in
    λ t e. let g = good_turn c.args.nodes.now c.args.profile c.args.count c.args.types.now c.turns.types c.turns.machine c.turns.invariant _
    c.in_err-ty.ensures.step t e in
    rw (p.1, p.2) g

pub returns-in_err-ty-clause-front : goal.returns-in_err-ty-clause-front
returns-in_err-ty-clause-front c =
    let k = keeps_on c.args.count c.turns.machine.count c.turn.new.self.count c.args.types.now c.turns.types c.turn.new.types
    c.turns.invariant.keeps c.turn.ensures.keeps in
    k.front
