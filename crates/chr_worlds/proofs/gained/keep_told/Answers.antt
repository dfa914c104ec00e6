use Rattle.std.proofs.Common.{sym, ◌∙◌}
use Rattle.chr_worlds.proofs.Gaining.{told_on, not_told_on}
use Rattle.chr_worlds.proofs.gained.keep_told.Goals as goal

pub returns-then-is_told_new : goal.returns-then-is_told_new
returns-then-is_told_new c = λ bs cs op same h right.
    told_on c.args.news.now c.gained_one.new.self c.args.place c.args.id op c.args.told.now same
    (sym c.is_told_new.ensures ∙ c.if-is_told_new.true) c.gained_one.ensures.giver c.gained_one.ensures.others bs cs h
    right

pub returns-else-is_told_new : goal.returns-else-is_told_new
returns-else-is_told_new c = λ bs cs op same h right.
    not_told_on c.args.news.now c.args.place op c.args.told.now (sym c.is_told_new.ensures ∙ c.if-is_told_new.false) bs
    cs h right
