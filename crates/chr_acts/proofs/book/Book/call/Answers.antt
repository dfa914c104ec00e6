use Rattle.std.proofs.Common.{subst, sym}
use Rattle.chr_join.specs.AcceptedPrograms.{program_in}
use Rattle.chr_acts.specs.Journals.{IsLegal}
use Rattle.chr_acts.proofs.Legal.{legal_after}
use Rattle.chr_acts.proofs.book.Book.call.Goals as goal

pub invariant_of-self : goal.invariant_of-self
invariant_of-self c =
    subst (λ a. IsLegal (program_in a) c.enter.new.self c.enter.new.board.replica) (sym c.in-Ok.ensures.program)
    (legal_after _ _ _ _ _ _ _ c.in-Ok.ensures.ok c.self.invariant)
