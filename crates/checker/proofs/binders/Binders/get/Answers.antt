use Rattle.std.proofs.Common.{sym, ap, ◌∙◌, arith}
use Rattle.std.specs.List.{slice_get}
use Rattle.checker.specs.Binders.{Bound}
use Rattle.checker.proofs.Contexts.{context_at, context_past}
use Rattle.checker.proofs.binders.Binders.get.Goals as goal

pub returns-then-outward-self : goal.returns-then-outward-self
returns-then-outward-self c =
    record {
      value =
          rw c.from-outward.ensures
          (sym (context_at c.self.inside.words.now c.self.inside.depth c.args.index (omega arith))
          ∙ ap (λ (v : Bound). slice_get v.types c.args.index) c.self.view_is);
    }

pub returns-else-outward-self : goal.returns-else-outward-self
returns-else-outward-self c =
    record {
      value =
          sym (context_past c.self.inside.words.now c.self.inside.depth c.args.index (omega arith))
          ∙ ap (λ (v : Bound). slice_get v.types c.args.index) c.self.view_is;
    }
