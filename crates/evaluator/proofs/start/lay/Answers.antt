use Rattle.std.proofs.Common.{◌≡◌, ◌-◌, ◌<◌, [], ◌∷◌, ◌++◌, length, take, sym, ap, ◌∙◌, subst, arith, length-set}
use Rattle.std.specs.List.{AllByRecursion}
use Rattle.std.proofs.lemmas.List.{take_more, take_more_set, take_all}
use Rattle.std.proofs.ByRecursion.{All-more}
use Rattle.evaluator.specs.OneCall.{blanks, Narrow}
use Rattle.evaluator.proofs.start.lay.Goals as goal

pub loop-i-preserved : goal.loop-i-preserved
loop-i-preserved c =
    let nodes = c.args.nodes.now in
    let i = c.loop-i.i in
    let node = c.index-nodes-i.result in
    let room : i < length c.loop-i.front = omega arith in (
      length-set _ _ _ ∙ c.loop-i.invariant.0,
      take_more_set _ _ _ room ∙ ap (λ l. l ++ (node ∷ [])) c.loop-i.invariant.1
          ∙ ap (λ n. take i nodes ++ (n ∷ [])) c.index-nodes-i.is
          ∙ sym (take_more nodes i node c.loop-i-test.true),
      All-more Narrow nodes i node c.loop-i-test.true c.loop-i.invariant.2
          (subst Narrow c.index-nodes-i.is (omega arith)),
    )

pub returns : goal.returns
returns c =
    let nodes = c.args.nodes.now in
    let at : c.loop-i.i ≡ length nodes = omega arith in
    let all : take c.loop-i.i nodes ≡ nodes = take_all _ _ c.loop-i-test.false in
    let front : take (length nodes) c.loop-i.front ≡ nodes =
    ap (λ n. take n c.loop-i.front) (sym at) ∙ c.loop-i.invariant.1 ∙ all in
    let long = c.loop-i.invariant.0 in
    record {
      front = subst (λ l. c.blank_rest.new.front ≡ l ++ blanks (length c.args.front.now - length nodes)) front
          (subst (λ n. c.blank_rest.new.front ≡ take (length nodes) c.loop-i.front ++ blanks (n - length nodes)) long c.blank_rest.ensures.front);
      back = c.blank_rest.ensures.back;
      narrow = subst (AllByRecursion Narrow) all c.loop-i.invariant.2;
    }
