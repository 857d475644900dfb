use Rattle.std.proofs.Common.{◌≡◌, List, take, sym, ap, ◌∙◌, subst, Bor}
use Rattle.std.proofs.lemmas.Result.{MatchResult-at_ok, MatchResult-at_err}
use Rattle.calculus.specs.declared.node.Node.{Node}
use Rattle.calculus.specs.Meanings.{Meaning}
use Rattle.evaluator.proofs.Results.{mapped_ok, mapped_err, exit_is}
use Rattle.decider.specs.Deciding.{Decision, Ends, DecideCall, rejected, run}
use Rattle.decider.proofs.Loads.{loaded_judged, not_loaded}
use Rattle.decider.proofs.decide.decide.Goals as goal

pub returns-in_err-loaded-clause-call : goal.returns-in_err-loaded-clause-call
returns-in_err-loaded-clause-call g c =
    let m = g.H.Host.meaning c.args.host.now in
    let memory = c.args.memory in
    let (x, is, post) = mapped_err _ _ c.load.result c.in_err-loaded.ensures.cases (λ y h. (cc)) in
    subst (λ (d : Decision). DecideCall c.args.file.now memory m c.args.fuel d memory.front.now)
    (sym (exit_is _ _ _ c.from_residual.ensures.1 post))
    (not_loaded c.args.file.now memory m c.args.fuel x c.load.new.nodes c.load.new.types _ is c.load.ensures.call c.load.ensures.rule)

pub returns-in_err-acceptance-clause-call : goal.returns-in_err-acceptance-clause-call
returns-in_err-acceptance-clause-call g c =
    let m = g.H.Host.meaning c.args.host.now in
    let memory = c.args.memory in
    let loaded = c.in_ok-loaded.loaded in
    let made = mapped_ok _ _ c.load.result loaded c.in_ok-loaded.ensures.cases (λ e h. h) in
    let (x, is, post) = mapped_err _ _ c.check.result c.in_err-acceptance.ensures.cases (λ y h. (cc)) in
    subst (λ (d : Decision). DecideCall c.args.file.now memory m c.args.fuel d memory.front.now)
    (sym (exit_is _ _ _ c.from_residual-in_err-acceptance.ensures.1 post))
    (loaded_judged c.args.file.now memory m c.args.fuel loaded c.load.new.nodes c.load.new.types _ memory.front.now _ made c.load.ensures.rule
    (rejected c.check.new.types c.check.new.scratch (MatchResult-at_err _ _ x is c.check.ensures.call)))

pub returns-clause-call : goal.returns-clause-call
returns-clause-call g c =
    let m = g.H.Host.meaning c.args.host.now in
    let memory = c.args.memory in
    let loaded = c.in_ok-loaded.loaded in
    let acceptance = c.in_ok-acceptance.acceptance in
    let made = mapped_ok _ _ c.load.result loaded c.in_ok-loaded.ensures.cases (λ e h. h) in
    let accepted = mapped_ok _ _ c.check.result acceptance c.in_ok-acceptance.ensures.cases (λ e h. h) in
    let (lent, profile, call) = MatchResult-at_ok _ _ acceptance accepted c.check.ensures.call in
    let same : acceptance.nodes.now ≡ take loaded.nodes c.load.new.nodes = ap (λ (x : Bor (List Node)). x.now) lent in
    loaded_judged c.args.file.now memory m c.args.fuel loaded c.load.new.nodes c.load.new.types c.run_accepted.result c.run_accepted.new.front _ made
    c.load.ensures.rule
    (run call.rule acceptance.type_number call.left call.is call.accepts
    (subst (λ (n : Meaning). Ends n c.args.fuel call.rule acceptance.type_number memory.front.now memory.back.now c.run_accepted.result c.run_accepted.new.front)
    c.check.ensures.kept (c.run_accepted.ensures.ends call.rule (call.is ∙ sym same))))
