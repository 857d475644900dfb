use Rattle.std.proofs.Common.{set, refl, ap}
use Rattle.hosts.proofs.Replies.{pair_put}
use Rattle.hosts.proofs.reply.put_pair.Goals as goal

pub returns : goal.returns
returns c = record {
  after = pair_put c.args.out.now _ _ _ _ _ _ _ c.from.ensures c.requires (ap (set c.args.out.now 0) c.node_of.ensures.value)
      c.put_numeral.ensures.after refl c.put_numeral-2.ensures.after;
}
