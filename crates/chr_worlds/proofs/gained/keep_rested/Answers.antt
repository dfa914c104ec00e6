use Rattle.chr_worlds.proofs.Gaining.{not_rested_on, rested_on}
use Rattle.chr_worlds.proofs.gained.keep_rested.Goals as goal

pub returns-in-Some : goal.returns-in-Some
returns-in-Some c = λ bs cs may right.
    rested_on c.args.news.now c.gained.new.self c.args.place c.args.told.now c.args.placed.now c.in-Some.field-0
    c.in-Some.is c.gained.ensures.giver c.gained.ensures.others bs cs may right

pub returns-in_default : goal.returns-in_default
returns-in_default c = λ bs cs may right.
    not_rested_on c.args.news.now c.args.place c.args.told.now c.args.placed.now c.in_default.is bs cs may right
