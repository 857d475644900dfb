use Rattle.std.proofs.Common.{Ok, rules}
use Rattle.rule_file.proofs.Meaning.{loads_back_lem}
use Rattle.rule_file.proofs.write.write.Goals as goal

pub returns-clause-loads_back : goal.returns-clause-loads_back
returns-clause-loads_back c =
    loads_back_lem c.args.nodes.now c.args.types.now c.args.count c.args.bytes.now (Ok c.file_length.result) c.put.new.bytes (search rules)
