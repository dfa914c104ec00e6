-- Replies.
use Rattle.std.specs.Prelude.{⊤}
use Rattle.chr_acts.specs.declared.reply.Reply.{Reply}
use Rattle.chr_acts.specs.declared.reply.Reply.TheVariants as reply

-- a reply that takes no memory
abbrev pub TakesNoMemory : Reply → Type 0
TakesNoMemory (reply.Leased lease) = ⊥
TakesNoMemory (reply.LeasedParts leases) = ⊥
TakesNoMemory (reply.Shown bag) = ⊥
TakesNoMemory (reply.Summed summary) = ⊥
TakesNoMemory (reply.Lacked ops) = ⊥
TakesNoMemory _ = ⊤
