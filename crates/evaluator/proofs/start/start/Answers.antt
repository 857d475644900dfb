use Rattle.std.proofs.Common.{◌≡◌, List, length, sym, refl, ap, ◌∙◌, arith, Bor}
use Rattle.calculus.specs.declared.node.Node.{Node}
use Rattle.calculus.specs.Syntax.{Term, size, flat}
use Rattle.calculus.proofs.Reading.{length_flat}
use Rattle.evaluator.specs.OneCall.{Fits}
use Rattle.evaluator.proofs.Whole.{agree}
use Rattle.evaluator.proofs.Starts.{its_rule, leaves, promises}
use Rattle.evaluator.proofs.start.start.Goals as goal

pub returns-then-length-back : goal.returns-then-length-back
returns-then-length-back c =
    let nodes = c.args.acceptance.now.nodes.now in
    let unfit : (rule : Term) → flat rule ≡ nodes → Fits rule c.args.front.now c.args.back.now → ⊥ =
    λ rule p f. let long : length nodes ≡ size rule = ap (λ (l : List Node). length l) (sym p) ∙ length_flat rule in
    omega (arith, ap (λ (x : Bor (List Node)). length x.now) c.nodes-nodes.ensures.value, c.then-length-back.either) in
    record {
      leaves = λ rule p. record { fit = λ f. absurd (unfit rule p f); unfit = λ n. refl };
      safe = λ rule p f. absurd (unfit rule p f);
      agree = agree;
      token = refl;
    }

pub returns : goal.returns
returns c =
    let a = c.args.acceptance.now in
    let n : c.nodes-nodes.result ≡ a.nodes = c.nodes-nodes.ensures.value in
    let same : c.nodes-nodes.result.now ≡ a.nodes.now = ap (λ (x : Bor (List Node)). x.now) n in
    let rule : (t : Term) → flat t ≡ a.nodes.now → flat t ≡ c.nodes-nodes.result.now = λ t p. p ∙ sym same in
    record {
      leaves = λ t p. leaves t c.nodes-nodes.result.now c.args.front.now c.args.back.now c.lay.new.front c.lay.new.back
          _ a.type_number a.profile (rule t p) c.if-length-back.false c.if-length-nodes.false c.if-length-gt-LONGEST.false
          c.lay.ensures.front c.lay.ensures.back refl refl refl c.type_number.ensures.value c.profile.ensures.value
          c.lay.ensures.narrow;
      safe = λ t p f. promises t c.nodes-nodes.result.now c.args.front.now c.args.back.now c.lay.new.front c.lay.new.back
          _ a.type_number a.profile (rule t p) c.if-length-back.false c.if-length-nodes.false c.if-length-gt-LONGEST.false
          c.lay.ensures.front c.lay.ensures.back refl refl refl c.type_number.ensures.value c.profile.ensures.value
          c.lay.ensures.narrow (its_rule a.nodes.now a.type_number a.profile a.rule t p);
      agree = agree;
      token = refl;
    }
