use Rattle.std.proofs.Common.{◌-◌, ◌∷◌, sym, ap, ◌∙◌, arith}
use Rattle.checker.specs.declared.frame.Frame.{Frame}
use Rattle.checker.specs.Frames.{frame_at, stack}
use Rattle.checker.proofs.Stacks.{popped}
use Rattle.checker.proofs.frame.Stack.pop.Goals as goal

pub returns-clause-top : goal.returns-clause-top
unfolding frame_at
returns-clause-top c =
    let w = c.self.inside.words.now in
    let d = c.self.inside.depth in
    popped w d c.args.self.now (omega arith) c.self.view_is ∙ ap (λ (f : Frame). f ∷ stack w (d - 1)) (sym c.coded.ensures.value)
