use Rattle.std.proofs.Common.{◌+◌, ◌*◌, ◌^◌, ◌<◌, ◌≤◌, length, ◌∙◌, arith}
use Rattle.std.proofs.lemmas.List.{length-set}
use Rattle.checker.proofs.Stacks.{piled_length, pushed, small_words, code_small}
use Rattle.checker.proofs.frame.Stack.push.Goals as goal

pub bounds-self-inside-at : goal.bounds-self-inside-at
bounds-self-inside-at c =
    let l = piled_length c.self.inside.words.now c.self.inside.depth c.args.self.now c.self.view_is in
    omega (arith, l.0, l.1, c.requires.room)

pub bounds-self-inside-at-2 : goal.bounds-self-inside-at-2
bounds-self-inside-at-2 c =
    let l = piled_length c.self.inside.words.now c.self.inside.depth c.args.self.now c.self.view_is in
    simp length-set (omega (arith, l.0, l.1, c.requires.room))

pub bounds-self-inside-at-3 : goal.bounds-self-inside-at-3
bounds-self-inside-at-3 c =
    let l = piled_length c.self.inside.words.now c.self.inside.depth c.args.self.now c.self.view_is in
    simp length-set (omega (arith, l.0, l.1, c.requires.room))

pub invariant_of-self : goal.invariant_of-self
invariant_of-self c =
    let w = c.self.inside.words.now in
    let d = c.self.inside.depth in
    let l = piled_length w d c.args.self.now c.self.view_is in
    let h : 3 * d + 3 ≤ length w = omega (arith, l.0, l.1, c.requires.room) in
    let b : c.code.result < 2 ^ 16 = rw c.code.ensures.value (code_small c.args.frame.awaits c.args.frame.bound) in
    record {
      within = simp length-set (omega arith);
      small = small_words w d c.from.result c.code.result c.from-2.result h (omega arith) b (omega arith) c.self.invariant.small;
    }

pub returns : goal.returns
returns c =
    let w = c.self.inside.words.now in
    let d = c.self.inside.depth in
    let l = piled_length w d c.args.self.now c.self.view_is in
    record {
      after =
          pushed w d c.args.frame c.from.result c.code.result c.from-2.result c.args.self.now (omega (arith, l.0, l.1, c.requires.room))
          c.from.ensures c.code.ensures.value (c.from-2.ensures ∙ c.kept.ensures.value) c.self.view_is;
    }
