use Rattle.std.proofs.Common.{rules}
use Rattle.std.specs.Prelude.{string_bytes}
use Rattle.chr_report.proofs.Comes.{from_place, some_fed}
use Rattle.chr_report.proofs.coming.ComingMachineVecU8.answer.Goals as goal

pub returns-clause-ok : goal.returns-clause-ok
returns-clause-ok g c =
    some_fed c.args.self.now c.take_some.new.self c.refuse_long.new.self c.args.batch.now.items _
    (string_bytes c.args.held.now) (string_bytes c.take_some.new.held) (string_bytes c.refuse_long.new.held)
    c.args.at c.in_ok-taken.taken c.in_ok-taken.ensures.within
    (from_place c.deref.result.now c.args.batch.now.items c.args.at c.deref.ensures.value) c.in_ok-taken.ensures.some
    (search rules) c.in_ok-taken.ensures.feeds c.in_ok-refuse_long.ensures.feeds
