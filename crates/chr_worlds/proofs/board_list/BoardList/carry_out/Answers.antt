use Rattle.std.proofs.lemmas.Result.{IfOk-weaker}
use Rattle.chr_acts.specs.Events.{Does}
use Rattle.chr_replica.specs.Boards.{program_on}
use Rattle.chr_worlds.proofs.Gaining.{alike_or_not, does_alike, stays_true}
use Rattle.chr_worlds.proofs.Places.{changed_there, found_there}
use Rattle.chr_worlds.proofs.board_list.BoardList.carry_out.Goals as goal

pub carry_out-requires : goal.carry_out-requires
carry_out-requires c = c.requires.act

pub invariant_of-self : goal.invariant_of-self
invariant_of-self c =
    let bs = c.self.inside.boards.items in
    let b = c.index_mut.result.now in
    let d = c.carry_out.new.board in
    stays_true c.self.inside.news bs c.args.place b d
    (found_there c.args.self.now bs c.args.place b c.self.view_is c.requires.place c.index_mut.ensures.value)
    (alike_or_not _ c.carry_out.result b d
    (λ x does. does_alike (program_on b) b.replica c.args.act.now x d.replica c.requires.none does)
    c.carry_out.ensures.ok c.carry_out.ensures.err)
    c.self.invariant

pub returns-clause-ok : goal.returns-clause-ok
returns-clause-ok c = IfOk-weaker c.carry_out.result _ _ (λ x does.
    changed_there c.args.self.now c.self.inside.boards.items c.args.place c.index_mut.result.now c.carry_out.new.board
    (λ b t. Does (program_on b) b.replica c.args.act.now x t) c.self.view_is c.requires.place
    c.index_mut.ensures.value c.carry_out.ensures.program does) c.carry_out.ensures.ok
