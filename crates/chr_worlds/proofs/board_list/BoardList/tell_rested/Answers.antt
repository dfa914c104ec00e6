use Rattle.std.proofs.Common.{subst}
use Rattle.chr_worlds.specs.working.Boards.{IsTrueOn}
use Rattle.chr_worlds.proofs.Places.{may_tell_there, of_one, refused_there}
use Rattle.chr_worlds.proofs.board_list.BoardList.tell_rested.Goals as goal

pub tell_rested-requires : goal.tell_rested-requires
tell_rested-requires c =
    of_one c.args.self.now c.self.inside.boards.items c.args.place c.index_mut.result.now c.args.told.now
    c.self.view_is c.requires.place c.index_mut.ensures.value c.requires.rested

pub invariant_of-self-2 : goal.invariant_of-self-2
invariant_of-self-2 c =
    let now = c.args.self.now in
    c.keep_rested.ensures now _
    (may_tell_there now c.self.inside.boards.items c.args.place c.index_mut.result.now c.tell_rested.new.self
    c.args.told.now c.in_ok-placed.placed c.self.view_is c.requires.place c.index_mut.ensures.value
    c.tell_rested.ensures.program c.in_ok-placed.ensures.told c.in_ok-placed.ensures.same)
    (subst (IsTrueOn c.self.inside.news) c.self.view_is c.self.invariant)

pub returns-clause-ok : goal.returns-clause-ok
returns-clause-ok c =
    may_tell_there c.args.self.now c.self.inside.boards.items c.args.place c.index_mut.result.now
    c.tell_rested.new.self c.args.told.now c.in_ok-placed.placed c.self.view_is c.requires.place
    c.index_mut.ensures.value c.tell_rested.ensures.program c.in_ok-placed.ensures.told c.in_ok-placed.ensures.same

pub returns-clause-none : goal.returns-clause-none
returns-clause-none c =
    refused_there c.args.self.now c.self.inside.boards.items c.args.place c.index_mut.result.now c.args.told.now
    c.args.into c.in_ok-placed.placed c.self.view_is c.index_mut.ensures.value c.in_ok-placed.ensures.none
