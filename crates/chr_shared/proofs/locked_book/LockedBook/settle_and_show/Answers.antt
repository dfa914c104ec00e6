use Rattle.std.proofs.Common.{◌∙◌, sym, subst}
use Rattle.chr_base.specs.Programs.{rules_of}
use Rattle.chr_base.specs.Rewriting.{IsAtRest}
use Rattle.chr_base.specs.Rules.{Step}
use Rattle.chr_join.specs.AcceptedPrograms.{program_in}
use Rattle.chr_replica.specs.Boards.{program_on}
use Rattle.chr_shared.proofs.Showing.{answer_ends, settle_rests, show_replies}
use Rattle.chr_shared.proofs.locked_book.LockedBook.settle_and_show.Goals as goal

pub answer_of-requires : goal.answer_of-requires
answer_of-requires g c =
    let before = c.args.self.now.board in
    let between = c.call.new.self.board in
    let rest = settle_rests (program_on before) before.replica c.in-Ok.settled.reply between.replica
    c.in-Ok.ensures.does (sym c.was_stopped.ensures ∙ c.if-was_stopped.false) in
    show_replies (program_on between) between.replica c.in-Ok-call.shown.reply c.call-2.new.self.board.replica
    c.in-Ok-call.ensures.does
    (subst (λ a. IsAtRest (Step (rules_of (program_in a))) between.replica.pool) (sym c.in-Ok.ensures.program) rest)

pub returns-clause-list : goal.returns-clause-list
returns-clause-list g c =
    answer_ends _ _ _ c.in-Ok.settled c.in-Ok-call.shown c.answer_of.result c.in-Ok.ensures.received.list
    c.in-Ok-call.ensures.received.list
    c.in-Ok.ensures.received.act c.in-Ok-call.ensures.received.act c.answer_of.ensures
