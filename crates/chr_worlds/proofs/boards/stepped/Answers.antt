use Rattle.std.proofs.Common.{rules, ◌≡◌, subst}
use Rattle.chr_base.specs.Programs.{rules_of}
use Rattle.chr_join.specs.AcceptedPrograms.{program_in}
use Rattle.chr_rewrite.specs.Derivations.{IsFirstInapplicable}
use Rattle.chr_replica.specs.Boards.{program_on}
use Rattle.chr_worlds.proofs.Returns.{not_there}
use Rattle.chr_worlds.proofs.boards.stepped.Goals.{in-NotThere, in-Memory}
use Rattle.chr_worlds.proofs.boards.stepped.Goals as goal

pub returns-after-not_stepped-clause-refused : goal.returns-after-not_stepped-clause-refused
returns-after-not_stepped-clause-refused c n =
    let part = c.in_ok-lease.lease.part in
    let same : c.deref.result.now ≡ c.args.board.now.accepted = search rules in
    elim c.match-not_stepped.branch [
      | in-NotThere w ↦ not_there (program_on c.args.board.now) c.args.board.now.replica c.args.number c.args.steps.now
          part w.in-NotThere.field-0 _
          c.in_ok-lease.ensures.part
          (subst (λ a. IsFirstInapplicable (rules_of (program_in a)) c.args.steps.now part w.in-NotThere.field-0) same
          (c.in-Err.ensures.not_there w.in-NotThere.field-0 w.in-NotThere.is))
          w.result-is
      | in-Memory w ↦ absurd (n w.result-is)
    ]
