use Rattle.std.proofs.Common.{◌≡◌, ℕ, length, take, sym, refl, ◌∙◌, subst, Ok, rules}
use Rattle.std.specs.Result.{MatchResult, IsErrAnd}
use Rattle.std.proofs.lemmas.Result.{err_from_is_err_and}
use Rattle.refusals.specs.declared.Refusal.{Refusal}
use Rattle.checker.specs.Checking.{in_check, Checkable, Uncheckable, AcceptCall, RejectCall, RefuseCall, before, during}
use Rattle.checker.proofs.Checks.{exactly_accepted, exactly_rejected, exactly_unchecked, accepted_rule, same_accept, asked, answered}
use Rattle.checker.proofs.check.check.Goals as goal

pub returns-in_err-map_err : goal.returns-in_err-map_err
returns-in_err-map_err g c =
    let N = c.args.nodes.now in
    let T = c.args.types.now in
    let S = c.args.scratch.now in
    let C = c.args.count in
    let P = (g.H.Host.meaning c.args.host.now).profile in
    let p = err_from_is_err_and c.from_residual.result c.from_residual.ensures.1 in
    let k : MatchResult c.admit.result (λ x. c.map_err.result ≡ Ok x) (λ q. IsErrAnd c.map_err.result (λ d. d ≡ in_check q)) = search rules in
    let a = asked (λ _. Checkable N T C (length S)) (λ q. Uncheckable N T C (length S) q) c.admit.result c.map_err.result
    c.in_err-map_err.field-0.0 k c.admit.ensures.first c.in_err-map_err.was in
    record {
      call = rw p.1 (subst (λ (e : Refusal). RefuseCall N T C S P e T S) (sym (p.2 ∙ a.1)) (before a.2));
      exactly = rw p.1 (exactly_unchecked N T C (length S) P a.0 (take C T) a.2);
      kept = refl;
    }

pub returns-in_err-type_number : goal.returns-in_err-type_number
returns-in_err-type_number g c =
    let N = c.args.nodes.now in
    let T = c.args.types.now in
    let S = c.args.scratch.now in
    let C = c.args.count in
    let P = (g.H.Host.meaning c.args.host.now).profile in
    let T' = c.judge_rule.new.types in
    let S' = c.judge_rule.new.scratch in
    let p = err_from_is_err_and c.from_residual-in_err-type_number.result c.from_residual-in_err-type_number.ensures.1 in
    let k : MatchResult c.judge_rule.result (λ x. c.map_err-2.result ≡ Ok x) (λ q. IsErrAnd c.map_err-2.result (λ d. d ≡ in_check q)) = search rules in
    let a = asked (λ a. AcceptCall N T C (length S) c.profile-profile.result a.0 a.1 T' S')
    (λ q. RejectCall N T C (length S) c.profile-profile.result q T' S') c.judge_rule.result c.map_err-2.result
    c.in_err-type_number.field-0.0 k c.judge_rule.ensures.judged c.in_err-type_number.was in
    let r = subst (λ (n : ℕ). RejectCall N T C (length S) n a.0 T' S') c.profile-profile.ensures.value a.2 in
    record {
      call = rw p.1 (subst (λ (e : Refusal). RefuseCall N T C S P e T' S') (sym (p.2 ∙ a.1)) (during r));
      exactly = rw p.1 (exactly_rejected N T C (length S) P a.0 T' S' r);
      kept = c.profile-profile.ensures.kept;
    }

pub new-requires : goal.new-requires
new-requires g c =
    let N = c.args.nodes.now in
    let T = c.args.types.now in
    let W = length c.args.scratch.now in
    let C = c.args.count in
    let P = c.profile-profile.result in
    let T' = c.judge_rule.new.types in
    let S' = c.judge_rule.new.scratch in
    let n = c.in_ok-type_number.type_number in
    let m = c.in_ok-type_number.grown in
    let k : MatchResult c.judge_rule.result (λ x. c.map_err-2.result ≡ Ok x) (λ q. IsErrAnd c.map_err-2.result (λ d. d ≡ in_check q)) = search rules in
    accepted_rule N T C W P n m T' S'
    (answered (λ a. AcceptCall N T C W P a.0 a.1 T' S') (λ q. RejectCall N T C W P q T' S') c.judge_rule.result c.map_err-2.result
    (n, m) k c.judge_rule.ensures.judged c.in_ok-type_number.was)

pub returns-clause-exactly : goal.returns-clause-exactly
returns-clause-exactly g c =
    let N = c.args.nodes.now in
    let T = c.args.types.now in
    let W = length c.args.scratch.now in
    let C = c.args.count in
    let P = c.profile-profile.result in
    let T' = c.judge_rule.new.types in
    let S' = c.judge_rule.new.scratch in
    let n = c.in_ok-type_number.type_number in
    let m = c.in_ok-type_number.grown in
    let k : MatchResult c.judge_rule.result (λ x. c.map_err-2.result ≡ Ok x) (λ q. IsErrAnd c.map_err-2.result (λ d. d ≡ in_check q)) = search rules in
    let a = answered (λ a. AcceptCall N T C W P a.0 a.1 T' S') (λ q. RejectCall N T C W P q T' S') c.judge_rule.result
    c.map_err-2.result (n, m) k c.judge_rule.ensures.judged c.in_ok-type_number.was in
    exactly_accepted N T C W (g.H.Host.meaning c.args.host.now).profile _ _ T' S'
    (same_accept N T C W T' S' c.new.ensures.type_number c.new.ensures.count c.profile-profile.ensures.value a)
