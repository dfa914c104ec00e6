use Rattle.std.proofs.Common.{ap, sym, subst}
use Rattle.chr_base.specs.Programs.{rules_of}
use Rattle.chr_base.specs.Rewriting.{IsAtRest}
use Rattle.chr_base.specs.Rules.{Step}
use Rattle.chr_join.specs.AcceptedPrograms.{program_in}
use Rattle.chr_replica.specs.Replicas.{Replica}
use Rattle.chr_node_boards.proofs.calls.rest.Goals as goal

pub returns-in-Ok-clause-out : goal.returns-in-Ok-clause-out
returns-in-Ok-clause-out c = ap (λ (s : Replica). s.out) c.in-Ok.ensures.ok.after

pub returns-in-Ok-clause-operations : goal.returns-in-Ok-clause-operations
returns-in-Ok-clause-operations c = ap (λ (s : Replica). s.operations) c.in-Ok.ensures.ok.after

pub returns-in-Ok-clause-rests : goal.returns-in-Ok-clause-rests
returns-in-Ok-clause-rests c =
    subst (λ a. IsAtRest (Step (rules_of (program_in a))) c.settle.new.self.replica.pool) (sym c.settle.ensures.program)
    c.in-Ok.ensures.rests

pub returns-in-Err-clause-out : goal.returns-in-Err-clause-out
returns-in-Err-clause-out c = ap (λ (s : Replica). s.out) c.in-Err.ensures.stopped.after

pub returns-in-Err-clause-operations : goal.returns-in-Err-clause-operations
returns-in-Err-clause-operations c = ap (λ (s : Replica). s.operations) c.in-Err.ensures.stopped.after
