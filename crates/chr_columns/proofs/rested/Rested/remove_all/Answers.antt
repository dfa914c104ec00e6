use Rattle.chr_columns.specs.working.Resting.{stored}
use Rattle.chr_columns.proofs.OffEnd.{end_is_there, without_end}
use Rattle.chr_columns.proofs.rested.Rested.remove_all.Goals as goal

pub returns-then-take_off_end-clause-there : goal.returns-then-take_off_end-clause-there
returns-then-take_off_end-clause-there c = (
  (λ _. end_is_there (stored c.args.self.now) c.args.fresh.now.items c.take_off_end.new.fresh.items c.args.atoms.now
      c.if-take_off_end.ensures.taken),
  (λ _. c.if-take_off_end.true),
)

pub returns-then-take_off_end-clause-taken : goal.returns-then-take_off_end-clause-taken
returns-then-take_off_end-clause-taken c =
    rw c.if-take_off_end.true
    (without_end (stored c.args.self.now) c.args.fresh.now.items c.take_off_end.new.fresh.items c.args.atoms.now
    c.if-take_off_end.ensures.taken)
