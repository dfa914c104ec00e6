use Rattle.std.proofs.Common.{◌↔◌, IsTrue, subst}
use Rattle.chr_base.specs.Programs.{rules_of}
use Rattle.chr_base.specs.Rewriting.{IsAtRest}
use Rattle.chr_base.specs.Rules.{Step}
use Rattle.chr_weights.specs.WeighedPrograms.{rules_in}
use Rattle.chr_replica.specs.Boards.{program_on}
use Rattle.chr_replica.proofs.board.Board.at_rest.Goals as goal

pub returns : goal.returns
returns c =
    subst (λ b. IsTrue c.at_rest.result ↔ IsAtRest (Step (rules_of (program_on b))) b.replica.pool) c.self.view_is
    (subst (λ w. IsTrue c.at_rest.result ↔ IsAtRest (Step (rules_in w)) c.self.inside.pool.store) c.self.invariant.own
    c.at_rest.ensures)
