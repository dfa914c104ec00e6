use Rattle.chr_worlds.proofs.Gaining.{merged_on, not_merged_on}
use Rattle.chr_worlds.proofs.gained.keep_merged.Goals as goal

pub returns-in-Ok : goal.returns-in-Ok
returns-in-Ok c = λ bs cs h right.
    merged_on c.args.news.now c.gained.new.self c.args.place c.in-Ok.field-0 c.args.ops.now c.args.merged.now
    c.in-Ok.is c.gained.ensures.giver c.gained.ensures.others bs cs h right

pub returns-in_default : goal.returns-in_default
returns-in_default c = λ bs cs h right.
    not_merged_on c.args.news.now c.args.place c.args.ops.now c.args.merged.now c.in_default.not-Ok bs cs h right
