-- What boards refuse, and what calls of them leave.
use Rattle.std.specs.Prelude.{◌≡◌, List}
use Rattle.std.proofs.Common.{refl, ap, ◌∙◌, subst, arith}
use Rattle.std.specs.FinMap as map
use Rattle.chr_base.specs.declared.program.Program.{Program}
use Rattle.chr_base.specs.Programs.{rules_of}
use Rattle.chr_base.specs.Rewriting.{IsAtRest}
use Rattle.chr_base.specs.Rules.{Step}
use Rattle.chr_base.specs.Stores.{Store}
use Rattle.chr_join.specs.declared.accepted.Accepted.{Accepted}
use Rattle.chr_join.specs.AcceptedPrograms.{program_in}
use Rattle.chr_join.specs.Parts.{IsOnlyNormalForm}
use Rattle.chr_ops.specs.Operations.{Operation, Operations, told_store}
use Rattle.chr_replica.specs.declared.refusal.Refusal.{Refusal}
use Rattle.chr_replica.specs.declared.refusal.Limit.TheVariants as limit
use Rattle.chr_replica.specs.declared.refusal.Refusal.TheVariants as refusal
use Rattle.chr_replica.specs.Refusals.{RefusesTell, RefusesMerge, RefusesShow}
use Rattle.chr_replica.specs.Replicas.{Replica}
use Rattle.chr_node.specs.Refusals.{HolderRefuses}
use Rattle.chr_node_boards.specs.working.Refusals.{IsOfTelling, node_refusal}

-- a tell is refused for the causes of a tell
pub tell_is_of_telling : (p : Program) (s : Replica) (op : Operation) (e : Refusal) → RefusesTell p s op e
    → IsOfTelling e
tell_is_of_telling p s op refusal.UnknownSymbol h = tt
tell_is_of_telling p s op (refusal.Clash id) h = tt
tell_is_of_telling p s op (refusal.Full what) h = tt
tell_is_of_telling p s op refusal.Memory h = tt
tell_is_of_telling p s op (refusal.NoLease number) h = absurd h
tell_is_of_telling p s op refusal.ForeignProgram h = absurd h
tell_is_of_telling p s op (refusal.Leased count) h = absurd h
tell_is_of_telling p s op refusal.NotThere h = absurd h
tell_is_of_telling p s op refusal.NotAtRest h = absurd h

-- what a board refuses a node's holder does
pub tell_refused : (p : Program) (s : Replica) (op : Operation) (e : Refusal) → RefusesTell p s op e
    → HolderRefuses p s.operations op (node_refusal e)
tell_refused p s op refusal.UnknownSymbol h = h
tell_refused p s op (refusal.Clash id) h = (h.1, h.2)
tell_refused p s op (refusal.Full limit.Told) h = (h.1, h.2)
tell_refused p s op (refusal.Full limit.Leases) h = absurd h
tell_refused p s op refusal.Memory h = tt
tell_refused p s op (refusal.NoLease number) h = absurd h
tell_refused p s op refusal.ForeignProgram h = absurd h
tell_refused p s op (refusal.Leased count) h = absurd h
tell_refused p s op refusal.NotThere h = absurd h
tell_refused p s op refusal.NotAtRest h = absurd h

-- and so is a merge
pub merge_is_of_telling : (p : Program) (s : Replica) (ops : List Operation) (e : Refusal) → RefusesMerge p s ops e
    → IsOfTelling e
merge_is_of_telling p s ops refusal.UnknownSymbol h = tt
merge_is_of_telling p s ops (refusal.Clash id) h = tt
merge_is_of_telling p s ops (refusal.Full what) h = tt
merge_is_of_telling p s ops refusal.Memory h = tt
merge_is_of_telling p s ops (refusal.NoLease number) h = absurd h
merge_is_of_telling p s ops refusal.ForeignProgram h = absurd h
merge_is_of_telling p s ops (refusal.Leased count) h = absurd h
merge_is_of_telling p s ops refusal.NotThere h = absurd h
merge_is_of_telling p s ops refusal.NotAtRest h = absurd h

-- a board at rest, of which nothing is leased out, is not shown for want of memory alone
pub memory_alone : (p : Program) (s : Replica) (e : Refusal) → s.out ≡ map.empty → IsAtRest (Step (rules_of p)) s.pool
    → RefusesShow p s e → e ≡ refusal.Memory
memory_alone p s refusal.Memory none rests h = refl
memory_alone p s refusal.NotAtRest none rests h = absurd (h.1 rests)
memory_alone p s (refusal.Leased count) none rests h =
    let length : map.len s.out ≡ 0 = ap map.len none ∙ map.len-empty _ _ in
    absurd (omega (arith, length, h.0, h.1))
memory_alone p s refusal.UnknownSymbol none rests h = absurd h
memory_alone p s (refusal.Clash id) none rests h = absurd h
memory_alone p s (refusal.Full what) none rests h = absurd h
memory_alone p s (refusal.NoLease number) none rests h = absurd h
memory_alone p s refusal.ForeignProgram none rests h = absurd h
memory_alone p s refusal.NotThere none rests h = absurd h

-- the same program and operations have the same normal form
pub only_moved : (a b : Accepted) (m n : Operations) (store : Store) → b ≡ a → n ≡ m
    → IsOnlyNormalForm (rules_of (program_in b)) (told_store n) store
    → IsOnlyNormalForm (rules_of (program_in a)) (told_store m) store
only_moved a b m n store accepted operations only =
    subst (λ (x : Accepted). IsOnlyNormalForm (rules_of (program_in x)) (told_store m) store) accepted
    (subst (λ (x : Operations). IsOnlyNormalForm (rules_of (program_in b)) (told_store x) store) operations only)
