use Rattle.std.proofs.Common.{length, ap, ◌∙◌, rules}
use Rattle.checker.specs.Checking.{zeros}
use Rattle.checker.proofs.Checks.{accept_call, reject_call}
use Rattle.checker.proofs.check.judge_rule.Goals as goal

pub judge_nodes-requires : goal.judge_nodes-requires
judge_nodes-requires c =
    record {
      ready = record {
        term = c.requires.term;
        table = c.requires.table;
        given = c.requires.counts.given;
        few_nodes = c.requires.counts.few_nodes;
        few_types = c.requires.counts.few_types;
        types = c.requires.room.0;
        room = c.requires.room.1;
      };
    }

pub returns-in-Ok : goal.returns-in-Ok
returns-in-Ok c =
    record {
      judged = accept_call c.args.nodes.now c.args.types.now c.args.count (length c.args.scratch.now) c.args.profile c.requires
          c.in-Ok.type_number c.in-Ok.grown c.judge_nodes.new.types c.clear.new.types c.clear.new.numbers
          c.judge_nodes.auto.types c.in-Ok.ensures.within c.in-Ok.ensures.judged c.clear.ensures.types
          (c.clear.ensures.numbers ∙ ap zeros (search rules));
    }

pub returns-in-Err : goal.returns-in-Err
returns-in-Err c =
    record {
      judged = reject_call c.args.nodes.now c.args.types.now c.args.count (length c.args.scratch.now) c.args.profile c.requires
          c.in-Err.question c.judge_nodes.new.types c.clear-in-Err.new.types c.clear-in-Err.new.numbers
          c.judge_nodes.auto.types c.in-Err.ensures.judged c.in-Err.ensures.front c.clear-in-Err.ensures.types
          (c.clear-in-Err.ensures.numbers ∙ ap zeros (search rules));
    }
