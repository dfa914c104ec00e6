use Rattle.std.proofs.Common.{sym, subst}
use Rattle.chr_acts.specs.declared.act.Act.TheVariants as act
use Rattle.chr_worlds.specs.Answers.{told_answer}
use Rattle.chr_worlds.specs.working.Boards.{IsTrueOn}
use Rattle.chr_worlds.proofs.Places.{replies_there}
use Rattle.chr_worlds.proofs.board_list.BoardList.tell.Goals as goal

pub invariant_of-self-2 : goal.invariant_of-self-2
invariant_of-self-2 c =
    let now = c.args.self.now in
    c.keep_told.ensures now _ c.args.op (sym c.id-id.ensures)
    (replies_there now c.self.inside.boards.items c.args.place c.index_mut.result.now c.tell.new.board
    (act.Tell c.args.op) (told_answer c.in_ok-told.told) c.self.view_is c.requires c.index_mut.ensures.value
    c.tell.ensures.program c.in_ok-told.ensures.ok)
    (subst (IsTrueOn c.self.inside.news) c.self.view_is c.self.invariant)

pub returns-clause-ok : goal.returns-clause-ok
returns-clause-ok c =
    replies_there c.args.self.now c.self.inside.boards.items c.args.place c.index_mut.result.now c.tell.new.board
    (act.Tell c.args.op) (told_answer c.in_ok-told.told) c.self.view_is c.requires c.index_mut.ensures.value
    c.tell.ensures.program c.in_ok-told.ensures.ok
