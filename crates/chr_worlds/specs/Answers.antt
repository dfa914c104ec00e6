-- The answers for which the values of a world's calls stand.
use Rattle.std.specs.Prelude.{ℕ, List, Option, Some, None, Result, Ok, Err, Vec}
use Rattle.std.specs.declared.alloc.Global.{Global}
use Rattle.chr_base.specs.Stores.{Store}
use Rattle.chr_ops.specs.declared.fault.Added.{Added}
use Rattle.chr_ops.specs.declared.range.IdRange.{IdRange}
use Rattle.chr_ops.specs.Operations.{Operation}
use Rattle.chr_acts.specs.declared.reply.Reply.TheVariants as reply
use Rattle.chr_worlds.specs.declared.answer.Answer.{Answer}
use Rattle.chr_worlds.specs.declared.answer.Answer.TheVariants as answer
use Rattle.chr_worlds.specs.declared.refusal.NotSettled.{NotSettled}
use Rattle.chr_worlds.specs.declared.refusal.NotSettled.TheVariants as unsettled
use Rattle.chr_worlds.specs.declared.refusal.WorldRefusal.{WorldRefusal}
use Rattle.chr_worlds.specs.declared.refusal.WorldRefusal.TheVariants as refused

-- the answer to an event that is refused
abbrev pub refused_answer : WorldRefusal → Answer
refused_answer (refused.Replica r) = answer.Replied (reply.Refused r)
refused_answer refused.UnknownSymbol = answer.UnknownSymbol
refused_answer refused.NoReplica = answer.NoReplica

-- the answer to a tell
abbrev pub told_answer : Result Added WorldRefusal → Answer
told_answer (Ok added) = answer.Replied (reply.Told added)
told_answer (Err r) = refused_answer r

-- the answer to a merge, or to an exchange
abbrev pub merged_answer : Result ℕ WorldRefusal → Answer
merged_answer (Ok n) = answer.Replied (reply.Merged n)
merged_answer (Err r) = refused_answer r

-- the answer to a settling
abbrev pub settled_answer : Result ℕ NotSettled → Answer
settled_answer (Ok n) = answer.Replied (reply.Settled n)
settled_answer (Err (unsettled.Stopped n)) = answer.Replied (reply.Stopped n)
settled_answer (Err unsettled.NoReplica) = answer.NoReplica

-- the answer to a show
abbrev pub shown_answer : Result Store WorldRefusal → Answer
shown_answer (Ok store) = answer.Replied (reply.Shown store)
shown_answer (Err r) = refused_answer r

-- the answer to a question for the ids, which no replica refuses
abbrev pub summed_answer : Option (List IdRange) → Answer
summed_answer (Some ranges) = answer.Replied (reply.Summed ranges)
summed_answer None = answer.NoReplica

-- the answer to a question for operations, which no replica refuses
abbrev pub lacked_answer : Option (Vec Operation Global) → Answer
lacked_answer (Some ops) = answer.Replied (reply.Lacked ops.items)
lacked_answer None = answer.NoReplica
