use Rattle.chr_ops.proofs.Appended.{rise_back}
use Rattle.chr_ops.proofs.entries.make_way.Goals as goal

pub comes_before-requires : goal.comes_before-requires
comes_before-requires c = rise_back c.args.bags.now.entries c.args.appended.now.items c.requires
