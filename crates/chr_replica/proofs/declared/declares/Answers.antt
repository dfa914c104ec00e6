use Rattle.std.proofs.Common.{rules, ◌≡◌}
use Rattle.std.specs.List.{list_all}
use Rattle.chr_base.specs.FinBag as bag
use Rattle.chr_base.specs.Programs.{declarations, declares_atom}
use Rattle.chr_replica.proofs.States.{each_item}
use Rattle.chr_replica.proofs.declared.declares.Goals as goal

pub returns : goal.returns
returns c =
    let is : c.declares_atoms.result ≡ list_all (declares_atom (declarations c.args.program.now))
    (bag.items c.args.op.now.1) = search rules in
    each_item (declares_atom (declarations c.args.program.now)) c.args.op.now.1 c.declares_atoms.result is
