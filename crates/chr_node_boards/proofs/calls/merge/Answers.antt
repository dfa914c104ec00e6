use Rattle.std.proofs.Common.{ap}
use Rattle.chr_replica.specs.Boards.{Held, program_on}
use Rattle.chr_replica.specs.Replicas.{Replica}
use Rattle.chr_node_boards.proofs.Replicas.{merge_is_of_telling}
use Rattle.chr_node_boards.proofs.calls.merge.Goals as goal

pub returns-in-Ok-clause-out : goal.returns-in-Ok-clause-out
returns-in-Ok-clause-out c = ap (λ (s : Replica). s.out) c.in-Ok.ensures.ok.after

pub returns-in-Ok-clause-no_clash : goal.returns-in-Ok-clause-no_clash
returns-in-Ok-clause-no_clash c = c.in-Ok.ensures.ok.no_clash

pub returns-in-Ok-clause-union : goal.returns-in-Ok-clause-union
returns-in-Ok-clause-union c = ap (λ (s : Replica). s.operations) c.in-Ok.ensures.ok.after

pub node_refusal-requires : goal.node_refusal-requires
node_refusal-requires c =
    merge_is_of_telling (program_on c.args.board.now) c.args.board.now.replica c.args.ops.now c.in-Err.refusal
    c.in-Err.ensures.refused

pub returns-in-Err-clause-refused : goal.returns-in-Err-clause-refused
returns-in-Err-clause-refused c = (c.in-Err.refusal, c.in-Err.ensures.refused, c.node_refusal.ensures.number)

pub returns-in-Err-clause-out : goal.returns-in-Err-clause-out
returns-in-Err-clause-out c = ap (λ (b : Held). b.replica.out) c.in-Err.ensures.err

pub returns-in-Err-clause-err : goal.returns-in-Err-clause-err
returns-in-Err-clause-err c = ap (λ (b : Held). b.replica.operations) c.in-Err.ensures.err
