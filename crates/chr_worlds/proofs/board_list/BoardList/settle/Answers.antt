use Rattle.chr_acts.specs.declared.act.Act.TheVariants as act
use Rattle.chr_replica.specs.Boards.{program_on}
use Rattle.chr_worlds.specs.Answers.{settled_answer}
use Rattle.chr_worlds.proofs.Gaining.{replied_alike, stays_true}
use Rattle.chr_worlds.proofs.Places.{found_there, replies_there}
use Rattle.chr_worlds.proofs.board_list.BoardList.settle.Goals as goal

pub invariant_of-self : goal.invariant_of-self
invariant_of-self c =
    let bs = c.self.inside.boards.items in
    let b = c.index_mut.result.now in
    let d = c.settle.new.board in
    stays_true c.self.inside.news bs c.args.place b d
    (found_there c.args.self.now bs c.args.place b c.self.view_is c.requires c.index_mut.ensures.value)
    (replied_alike (program_on b) b.replica act.Settle (settled_answer c.settle.result) d.replica tt
    c.settle.ensures.settled)
    c.self.invariant

pub returns : goal.returns
returns c =
    replies_there c.args.self.now c.self.inside.boards.items c.args.place c.index_mut.result.now c.settle.new.board
    act.Settle (settled_answer c.settle.result) c.self.view_is c.requires c.index_mut.ensures.value
    c.settle.ensures.program c.settle.ensures.settled
