use Rattle.chr_crew.proofs.Coming.{one_comes}
use Rattle.chr_crew.proofs.messages.Inbox.try_recv.Goals as goal

pub try_recv_as-requires-clause-rule : goal.try_recv_as-requires-clause-rule
try_recv_as-requires-clause-rule g c = one_comes g.K.Known.holds c.args.self.now.pass.id tt
