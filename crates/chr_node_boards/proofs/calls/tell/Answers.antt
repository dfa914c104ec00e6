use Rattle.std.proofs.Common.{Ok, ap, ◌∙◌, subst, sym}
use Rattle.chr_node.specs.declared.fault.Refusal.{Refusal}
use Rattle.chr_node.specs.Refusals.{HolderRefuses}
use Rattle.chr_replica.specs.Boards.{Held, program_on}
use Rattle.chr_replica.specs.Replicas.{Replica}
use Rattle.chr_node_boards.proofs.Replicas.{tell_is_of_telling, tell_refused}
use Rattle.chr_node_boards.proofs.calls.tell.Goals as goal

pub returns-in-Ok-New-clause-out : goal.returns-in-Ok-New-clause-out
returns-in-Ok-New-clause-out c =
    ap (λ (s : Replica). s.out) (c.tell.ensures.new (c.in-Ok-New.is ∙ ap Ok c.in-Ok-New.field-0-is)).after

pub returns-in-Ok-New-clause-declared : goal.returns-in-Ok-New-clause-declared
returns-in-Ok-New-clause-declared c =
    λ _. (c.tell.ensures.new (c.in-Ok-New.is ∙ ap Ok c.in-Ok-New.field-0-is)).declared

pub returns-in-Ok-New-clause-absent : goal.returns-in-Ok-New-clause-absent
returns-in-Ok-New-clause-absent c =
    λ _. (c.tell.ensures.new (c.in-Ok-New.is ∙ ap Ok c.in-Ok-New.field-0-is)).new

pub returns-in-Ok-New-clause-new : goal.returns-in-Ok-New-clause-new
returns-in-Ok-New-clause-new c =
    λ _. ap (λ (s : Replica). s.operations)
    (c.tell.ensures.new (c.in-Ok-New.is ∙ ap Ok c.in-Ok-New.field-0-is)).after

pub returns-in-Ok-Again-clause-out : goal.returns-in-Ok-Again-clause-out
returns-in-Ok-Again-clause-out c =
    ap (λ (b : Held). b.replica.out) (c.tell.ensures.kept (c.in-Ok-Again.is ∙ ap Ok c.in-Ok-Again.field-0-is))

pub returns-in-Ok-Again-clause-same : goal.returns-in-Ok-Again-clause-same
returns-in-Ok-Again-clause-same c =
    λ _. ap (λ (b : Held). b.replica.operations)
    (c.tell.ensures.kept (c.in-Ok-Again.is ∙ ap Ok c.in-Ok-Again.field-0-is))

pub node_refusal-requires : goal.node_refusal-requires
node_refusal-requires c =
    tell_is_of_telling (program_on c.args.board.now) c.args.board.now.replica c.args.op c.in-Err.refusal
    c.in-Err.ensures.refused

pub returns-in-Err-clause-refused : goal.returns-in-Err-clause-refused
returns-in-Err-clause-refused c =
    let p = program_on c.args.board.now in
    let s = c.args.board.now.replica in
    subst (λ (e : Refusal). HolderRefuses p s.operations c.args.op e) (sym c.node_refusal.ensures.same)
    (tell_refused p s c.args.op c.in-Err.refusal c.in-Err.ensures.refused)

pub returns-in-Ok-Again-clause-again : goal.returns-in-Ok-Again-clause-again
returns-in-Ok-Again-clause-again c =
    λ _. (c.tell.ensures.again (c.in-Ok-Again.is ∙ ap Ok c.in-Ok-Again.field-0-is)).1

pub returns-in-Err-clause-out : goal.returns-in-Err-clause-out
returns-in-Err-clause-out c = ap (λ (b : Held). b.replica.out) c.in-Err.ensures.err

pub returns-in-Err-clause-same : goal.returns-in-Err-clause-same
returns-in-Err-clause-same c = λ _. ap (λ (b : Held). b.replica.operations) c.in-Err.ensures.err
