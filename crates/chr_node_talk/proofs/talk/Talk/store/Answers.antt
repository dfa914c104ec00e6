use Rattle.std.proofs.Common.{refl}
use Rattle.chr_node_talk.proofs.Keeping.{stays_held}
use Rattle.chr_node_talk.proofs.talk.Talk.store.Goals as goal

pub returns-clause-same : goal.returns-clause-same
returns-clause-same g c = record { operations = c.show.ensures.operations; last = refl; shown = refl }

pub returns-clause-stays : goal.returns-clause-stays
returns-clause-stays g c =
    stays_held g.D.Disk.seen g.H.Holder.operations g.H.Holder.program g.F.Folder.is_clean c.args.self.now
    c.show.new.self c.show.ensures.operations c.show.ensures.program

pub returns-in_err-store-clause-same : goal.returns-in_err-store-clause-same
returns-in_err-store-clause-same g c = record { operations = c.show.ensures.operations; last = refl; shown = refl }

pub returns-in_err-store-clause-stays : goal.returns-in_err-store-clause-stays
returns-in_err-store-clause-stays g c =
    stays_held g.D.Disk.seen g.H.Holder.operations g.H.Holder.program g.F.Folder.is_clean c.args.self.now
    c.show.new.self c.show.ensures.operations c.show.ensures.program
