use Rattle.hosts.proofs.Replies.{numeral_put}
use Rattle.hosts.proofs.reply.put_numeral.Goals as goal

pub returns : goal.returns
returns c = record {
  after = numeral_put _ _ _ _ _ _ c.from-end.ensures c.requires c.node_of.ensures.value c.node_of-2.ensures.value
      (c.fill.ensures.after (λ y e. e));
}
