use Rattle.std.proofs.Common.{rules, sym, subst}
use Rattle.chr_shared.specs.Settling.{GivesBack}
use Rattle.chr_shared.proofs.shared.Shared.put_back.Goals as goal

pub returns-in-Ok-clause-ok : goal.returns-in-Ok-clause-ok
returns-in-Ok-clause-ok g c =
    let e = c.in-Ok.ensures.received in
    (_, e.list, subst (GivesBack c.args.number) (sym e.act) (search rules, c.args.rested.rests))
