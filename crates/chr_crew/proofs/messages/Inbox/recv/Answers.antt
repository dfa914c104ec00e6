use Rattle.chr_crew.proofs.Coming.{one_comes}
use Rattle.chr_crew.proofs.messages.Inbox.recv.Goals as goal

pub recv_as-requires-clause-rule : goal.recv_as-requires-clause-rule
recv_as-requires-clause-rule g c = one_comes g.K.Known.holds c.args.self.now.pass.id tt
