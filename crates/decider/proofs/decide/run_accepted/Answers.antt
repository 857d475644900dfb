use Rattle.std.proofs.Common.{◌≡◌, List, true, false, Err, sym, ap, ◌∙◌, subst, is_some}
use Rattle.std.specs.Option.{option_map}
use Rattle.calculus.specs.declared.node.Node.{Node}
use Rattle.evaluator.specs.declared.held.Held.{Held}
use Rattle.evaluator.specs.OneCall.{State, state_of}
use Rattle.decider.specs.declared.decision.Undecided.TheVariants.{Unstarted}
use Rattle.decider.specs.Deciding.{Decision, Ends, unfit}
use Rattle.decider.proofs.Endings.{nothing_unfit, something_fits, nothing_held, something_held, ends_with}
use Rattle.decider.proofs.decide.run_accepted.Goals as goal

pub returns-then-is_none-clause-ends : goal.returns-then-is_none-clause-ends
returns-then-is_none-clause-ends g c =
    let m = g.H.Host.meaning c.args.host.now in
    let a = c.args.acceptance.now in
    let front = c.args.front.now in
    let back = c.args.back.now in
    let s : State = state_of c.start.result.0 c.start.new.front c.start.new.back in
    let none : is_some (option_map (λ (h : Held). h.count) c.start.result.0.held) ≡ false =
    ap is_some (sym c.records.ensures.value) ∙ c.if-is_none.ensures in
    λ rule p.
    let call = c.start.ensures.leaves rule p in
    let no = nothing_unfit rule a.type_number a.profile front back s call (nothing_held c.start.result.0.held none) in
    subst (λ (f : List Node). Ends m c.args.fuel.total rule a.type_number front back (Err Unstarted) f)
    (sym (ap (λ (x : State). x.front) (call.unfit no))) (unfit no)

pub returns-clause-ends : goal.returns-clause-ends
returns-clause-ends g c =
    let m = g.H.Host.meaning c.args.host.now in
    let a = c.args.acceptance.now in
    let front = c.args.front.now in
    let back = c.args.back.now in
    let s : State = state_of c.start.result.0 c.start.new.front c.start.new.back in
    let s' : State = state_of c.run_slices-last.new.held c.run_slices-last.new.front c.run_slices-last.new.back in
    let some : is_some (option_map (λ (h : Held). h.count) c.start.result.0.held) ≡ true =
    ap is_some (sym c.records.ensures.value) ∙ c.if-is_none.ensures in
    let held = something_held c.start.result.0.held some in
    λ rule p.
    let fits = something_fits rule a.type_number a.profile front back s (c.start.ensures.leaves rule p) held.0 held.1 in
    subst (λ (d : Decision). Ends m c.args.fuel.total rule a.type_number front back d s'.front) (sym c.decision_of.ensures.value)
    (ends_with m c.args.fuel.total rule a.type_number a.profile front back s (c.start.ensures.safe rule p fits) (g.H.Host.lawful c.args.host.now)
    c.requires c.run_slices-last.result s' c.run_slices-last.ensures.sliced c.close-2.result c.close-2.ensures.call)
