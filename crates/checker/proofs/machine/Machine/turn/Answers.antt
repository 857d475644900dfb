use Rattle.std.proofs.Common.{subst}
use Rattle.checker.specs.Machine.{ReadyBy}
use Rattle.checker.proofs.machine.Machine.turn.Goals as goal

pub ascend-requires : goal.ascend-requires
ascend-requires c =
    record {
      ready =
          subst (ReadyBy c.args.self.now c.args.types.now) c.in-Some.is c.requires.ready.by c.in-Some-pop.frame c.pop.new.self
          c.in-Some-pop.ensures.top c.pop.ensures.room;
    }
