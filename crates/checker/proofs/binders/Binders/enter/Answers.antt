use Rattle.std.proofs.Common.{◌+◌, ap, sym, ◌∙◌, Some, arith}
use Rattle.std.proofs.lemmas.List.{length-set}
use Rattle.checker.proofs.Contexts.{held_length, entered, small_more}
use Rattle.checker.proofs.binders.Binders.enter.Goals as goal

pub bounds-self-inside-self-inside : goal.bounds-self-inside-self-inside
bounds-self-inside-self-inside c =
    let l = held_length c.self.inside.words.now c.self.inside.depth c.args.self.now c.self.view_is in
    omega (arith, l.0, l.1, c.requires.room)

pub invariant_of-self : goal.invariant_of-self
invariant_of-self c =
    let B = c.self.inside.words.now in
    let b = c.self.inside.depth in
    let l = held_length B b c.args.self.now c.self.view_is in
    record {
      within = simp length-set (omega (arith, l.0, l.1, c.requires.room));
      small = small_more B b c.from.result (b + 1) (omega (arith, l.0, l.1, c.requires.room)) (omega arith) (omega arith) c.self.invariant.small;
    }

pub returns-in-Some : goal.returns-in-Some
returns-in-Some c =
    let B = c.self.inside.words.now in
    let b = c.self.inside.depth in
    let l = held_length B b c.args.self.now c.self.view_is in
    record {
      after =
          entered B b c.from.result c.args.binder c.args.self.now (omega (arith, l.0, l.1, c.requires.room))
          (c.in-Some.is ∙ ap Some (sym c.from.ensures)) c.self.view_is;
    }
