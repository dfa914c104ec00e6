use Rattle.std.proofs.lemmas.Result.{IfOk-weaker}
use Rattle.chr_replica.specs.Boards.{program_on}
use Rattle.chr_worlds.specs.Worlds.{Works}
use Rattle.chr_worlds.proofs.Gaining.{alike_or_not, stays_true, works_alike}
use Rattle.chr_worlds.proofs.Places.{changed_there, found_there}
use Rattle.chr_worlds.proofs.board_list.BoardList.work.Goals as goal

pub invariant_of-self : goal.invariant_of-self
invariant_of-self c =
    let bs = c.self.inside.boards.items in
    let b = c.index_mut.result.now in
    let d = c.work.new.board in
    let steps = c.args.steps.now in
    stays_true c.self.inside.news bs c.args.place b d
    (found_there c.args.self.now bs c.args.place b c.self.view_is c.requires c.index_mut.ensures.value)
    (alike_or_not _ c.work.result b d
    (λ x works. works_alike (program_on b) b.replica c.args.number steps x d.replica works)
    c.work.ensures.ok c.work.ensures.err)
    c.self.invariant

pub returns-clause-ok : goal.returns-clause-ok
returns-clause-ok c = IfOk-weaker c.work.result _ _ (λ x works.
    changed_there c.args.self.now c.self.inside.boards.items c.args.place c.index_mut.result.now c.work.new.board
    (λ b t. Works (program_on b) b.replica c.args.number c.args.steps.now x t) c.self.view_is c.requires
    c.index_mut.ensures.value c.work.ensures.program works) c.work.ensures.ok
