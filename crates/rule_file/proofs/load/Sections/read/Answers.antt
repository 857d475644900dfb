use Rattle.std.proofs.Common.{◌≡◌, None, rules}
use Rattle.rule_file.specs.Loading.{head_question, type_count}
use Rattle.rule_file.proofs.Rules.{sections_of}
use Rattle.rule_file.proofs.load.Sections.read.Goals as goal

pub returns : goal.returns
returns c =
    let passed : head_question c.args.file.now ≡ None = search rules in
    let types : c.from-types.result ≡ type_count c.args.file.now = search rules in
    sections_of c.args.file.now _ _ _ _ passed c.as_chunks.ensures.front types c.split_at.ensures.front c.split_at.ensures.back
