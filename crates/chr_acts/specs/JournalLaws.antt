-- What journals tell.
use Rattle.std.specs.Prelude.{◌≡◌, List, [], ◌∷◌, ◌++◌}
use Rattle.std.specs.FinMap as map
use Rattle.chr_base.specs.declared.program.Program.{Program}
use Rattle.chr_base.specs.Stores.{Store}
use Rattle.chr_base.specs.Programs.{rules_of}
use Rattle.chr_base.specs.Sameness.{AreSame}
use Rattle.chr_base.specs.Values.{HasValues}
use Rattle.chr_confluence.specs.Confluence.{Confluent}
use Rattle.chr_join.specs.Parts.{IsOnlyNormalForm}
use Rattle.chr_ops.specs.declared.fault.Added.TheVariants as added
use Rattle.chr_ops.specs.Operations.{Operations, told_store}
use Rattle.chr_ops.specs.Joins.{union}
use Rattle.chr_replica.specs.Replicas.{Replica}
use Rattle.chr_acts.specs.declared.act.Act.{Act}
use Rattle.chr_acts.specs.declared.act.Act.TheVariants as act
use Rattle.chr_acts.specs.declared.entry.Entry.{Entry}
use Rattle.chr_acts.specs.declared.reply.Reply.{Reply}
use Rattle.chr_acts.specs.declared.reply.Reply.TheVariants as reply
use Rattle.chr_acts.specs.Journals.{IsLegal}

-- the operations after an act, by its reply
abbrev pub held_by : Operations → Act → Reply → Operations
held_by m a (reply.Refused r) = m
held_by m (act.Tell op) (reply.Told added.New) = map.insert m op.0 op.1
held_by m (act.Merge ops) (reply.Merged n) = union m ops
held_by m _ _ = m

-- the operations after these entries
abbrev pub held_after : Operations → List Entry → Operations
held_after m [] = m
held_after m (e ∷ es) = held_after (held_by m e.act e.reply) es

-- the operations that a journal tells
abbrev pub held_in : List Entry → Operations
held_in entries = held_after map.empty entries

-- each store that was shown is the one normal form of the operations that were held then
abbrev pub ShowsAnswers : Program → List Entry → Type 0
ShowsAnswers p entries =
    (before after : List Entry) (e : Entry) (bag : Store) → entries ≡ before ++ e ∷ after → e.reply ≡ reply.Shown bag
    → IsOnlyNormalForm (rules_of p) (told_store (held_in before)) bag

-- stores that were shown in two journals are equal where the same operations were held
abbrev pub ShowsAgree : List Entry → List Entry → Type 0
ShowsAgree entries others =
    (before after before' after' : List Entry) (e e' : Entry) (bag bag' : Store)
    → entries ≡ before ++ e ∷ after → e.reply ≡ reply.Shown bag
    → others ≡ before' ++ e' ∷ after' → e'.reply ≡ reply.Shown bag'
    → held_in before ≡ held_in before' → bag ≡ bag'

-- a replica holds what its journal tells
abbrev pub JournalsHold : Type 0
JournalsHold = (p : Program) (es : List Entry) (s : Replica) → IsLegal p es s → s.operations ≡ held_in es

-- In the journal of a confluent program, whose operations have 64-bit values, each store that was shown is the one
-- normal form of the operations that were held then.
abbrev pub AnswersAreShown : Type 0
AnswersAreShown =
    (p : Program) (es : List Entry) (s : Replica) → Confluent (rules_of p)
    → IsLegal p es s → HasValues (told_store s.operations) → ShowsAnswers p es

-- Stores that were shown in the journals of two programs that are the same, one of which is confluent, are equal where
-- the same operations were held.
abbrev pub AnswersAgree : Type 0
AnswersAgree =
    (p q : Program) (es fs : List Entry) (s t : Replica) → AreSame p q → Confluent (rules_of p)
    → IsLegal p es s → HasValues (told_store s.operations) → IsLegal q fs t → HasValues (told_store t.operations)
    → ShowsAgree es fs
