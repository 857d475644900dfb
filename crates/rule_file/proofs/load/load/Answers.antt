use Rattle.std.proofs.Common.{length, Ok, arith, rules}
use Rattle.rule_file.specs.Files.{Bytes}
use Rattle.rule_file.specs.Loading.{LoadCall}
use Rattle.rule_file.proofs.Meaning.{loaded_rule, refused_at, loaded_writes_back}
use Rattle.rule_file.proofs.load.load.Goals as goal

pub returns-in_err-sections : goal.returns-in_err-sections
returns-in_err-sections c =
    let bytes : Bytes c.args.file.now = λ i. omega (arith, c.type_inv.file i) in
    let call : LoadCall c.args.file.now c.args.nodes.now c.args.types.now c.from_residual.result c.args.nodes.now c.args.types.now = search rules in
    record {
      call = call;
      rule = loaded_rule _ _ _ _ _ _ bytes call;
      place = refused_at _ _ _ _ _ _ call;
      writes_back = loaded_writes_back _ _ _ _ _ _ bytes call;
    }

pub returns-in_err-map_err : goal.returns-in_err-map_err
returns-in_err-map_err c =
    let bytes : Bytes c.args.file.now = λ i. omega (arith, c.type_inv.file i) in
    let call : LoadCall c.args.file.now c.args.nodes.now c.args.types.now
    c.from_residual-in_err-map_err.result c.args.nodes.now c.args.types.now = search rules in
    record {
      call = call;
      rule = loaded_rule _ _ _ _ _ _ bytes call;
      place = refused_at _ _ _ _ _ _ call;
      writes_back = loaded_writes_back _ _ _ _ _ _ bytes call;
    }

pub returns : goal.returns
returns c =
    let bytes : Bytes c.args.file.now = λ i. omega (arith, c.type_inv.file i) in
    let call : LoadCall c.args.file.now c.args.nodes.now c.args.types.now
    (Ok (record { nodes = length c.in_ok-sections.sections.nodes.now; count = length c.entries.result.now }))
    c.lay_nodes.new.nodes c.lay.new.types = search rules in
    record {
      call = call;
      rule = loaded_rule _ _ _ _ _ _ bytes call;
      place = refused_at _ _ _ _ _ _ call;
      writes_back = loaded_writes_back _ _ _ _ _ _ bytes call;
    }
