use Rattle.chr_acts.proofs.Legal.{legal_either}
use Rattle.chr_acts.proofs.book.Book.call_with_copy.Goals as goal

pub invariant_of-self : goal.invariant_of-self
invariant_of-self c =
    let e = c.enter_with_copy.ensures in
    legal_either c.self.inside.board c.enter_with_copy.new.board c.self.inside.journal c.enter_with_copy.new.self
    c.args.seat c.args.act c.enter_with_copy.result e.program e.entered e.asked e.does e.err e.board
    c.self.invariant
