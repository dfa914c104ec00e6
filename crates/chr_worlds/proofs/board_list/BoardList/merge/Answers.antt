use Rattle.std.proofs.Common.{subst}
use Rattle.chr_acts.specs.declared.act.Act.TheVariants as act
use Rattle.chr_worlds.specs.Answers.{merged_answer}
use Rattle.chr_worlds.specs.working.Boards.{IsTrueOn}
use Rattle.chr_worlds.proofs.Places.{replies_there}
use Rattle.chr_worlds.proofs.board_list.BoardList.merge.Goals as goal

pub invariant_of-self-2 : goal.invariant_of-self-2
invariant_of-self-2 c =
    let now = c.args.self.now in
    c.keep_merged.ensures now _
    (replies_there now c.self.inside.boards.items c.args.place c.index_mut.result.now c.merge.new.board
    (act.Merge c.args.ops.now) (merged_answer c.in_ok-merged.merged) c.self.view_is c.requires c.index_mut.ensures.value
    c.merge.ensures.program c.in_ok-merged.ensures.ok)
    (subst (IsTrueOn c.self.inside.news) c.self.view_is c.self.invariant)

pub returns-clause-ok : goal.returns-clause-ok
returns-clause-ok c =
    replies_there c.args.self.now c.self.inside.boards.items c.args.place c.index_mut.result.now c.merge.new.board
    (act.Merge c.args.ops.now) (merged_answer c.in_ok-merged.merged) c.self.view_is c.requires c.index_mut.ensures.value
    c.merge.ensures.program c.in_ok-merged.ensures.ok
