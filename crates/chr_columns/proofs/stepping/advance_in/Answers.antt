use Rattle.std.proofs.Common.{map, ap, ◌∙◌}
use Rattle.chr_base.specs.Sameness.{parts_of}
use Rattle.chr_columns.specs.working.Resting.{stored}
use Rattle.chr_columns.proofs.Running.{ok_under, stopped_under, rests_under}
use Rattle.chr_columns.proofs.stepping.advance_in.Goals as goal

pub returns-clause-ok : goal.returns-clause-ok
returns-clause-ok c =
    ok_under c.stand_under.new.rested.rules.items c.args.rules.now c.in-Ok.ensures.rules c.advance_own.result _ _ _
    c.in-Ok.ensures.same c.advance_own.ensures.ok

pub returns-clause-rests : goal.returns-clause-rests
returns-clause-rests c =
    rests_under c.advance_own.new.rested.rules.items c.args.rules.now
    (ap (λ v. map parts_of v.items) c.advance_own.ensures.rules ∙ c.in-Ok.ensures.rules)
    c.advance_own.result c.args.most (stored c.advance_own.new.rested) c.advance_own.new.fresh.items
    c.advance_own.ensures.rested.rests c.advance_own.ensures.joined

pub returns-clause-stopped : goal.returns-clause-stopped
returns-clause-stopped c =
    stopped_under c.stand_under.new.rested.rules.items c.args.rules.now c.in-Ok.ensures.rules c.advance_own.result _ _ _
    c.in-Ok.ensures.same c.advance_own.ensures.stopped
