use Rattle.chr_replica.specs.Boards.{program_on}
use Rattle.chr_worlds.specs.Resting.{KeepsTold}
use Rattle.chr_worlds.proofs.Gaining.{stays_true}
use Rattle.chr_worlds.proofs.Places.{changed_there, found_there, rested_there}
use Rattle.chr_worlds.proofs.board_list.BoardList.rest.Goals as goal

pub invariant_of-self : goal.invariant_of-self
invariant_of-self g c =
    let bs = c.self.inside.boards.items in
    stays_true c.self.inside.news bs c.args.place c.index_mut.result.now c.rest.new.board
    (found_there c.args.self.now bs c.args.place c.index_mut.result.now c.self.view_is c.requires.place
    c.index_mut.ensures.value) c.rest.ensures.operations c.self.invariant

pub returns-clause-kept : goal.returns-clause-kept
returns-clause-kept g c =
    changed_there c.args.self.now c.self.inside.boards.items c.args.place c.index_mut.result.now c.rest.new.board
    (λ b t. KeepsTold (program_on b) b.replica t) c.self.view_is c.requires.place c.index_mut.ensures.value
    c.rest.ensures.program (record { operations = c.rest.ensures.operations; sound = c.rest.ensures.sound })

pub returns-clause-rested : goal.returns-clause-rested
returns-clause-rested g c =
    rested_there c.rest.result c.args.self.now c.self.inside.boards.items c.args.place c.index_mut.result.now
    c.rest.new.board c.self.view_is c.requires.place c.index_mut.ensures.value c.rest.ensures.program
    c.rest.ensures.operations c.rest.ensures.sound c.rest.ensures.settled
