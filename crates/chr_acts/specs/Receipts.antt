-- What receipts show: entries of a journal, which seats have in their hands.
use Rattle.std.specs.Prelude.{◌≡◌, ◌==◌, ◌&&◌, Bool, Option, Some, None, List, ◌∷◌, ◌++◌}
use Rattle.std.specs.List.{before_first}
use Rattle.chr_base.specs.declared.program.Program.{Program}
use Rattle.chr_base.specs.Programs.{rules_of}
use Rattle.chr_base.specs.Stores.{Store}
use Rattle.chr_join.specs.Parts.{IsOnlyNormalForm}
use Rattle.chr_ops.specs.Operations.{Operations, told_store}
use Rattle.chr_acts.specs.declared.entry.Entry.{Entry}
use Rattle.chr_acts.specs.declared.reply.Reply.{Reply}
use Rattle.chr_acts.specs.declared.reply.Reply.TheVariants as reply
use Rattle.chr_acts.specs.JournalLaws.{held_in}

-- the entry has the receipt's seat and number
abbrev pub is_of : Entry → Entry → Bool
is_of receipt e = (e.seat == receipt.seat) && (e.number == receipt.number)

-- the entries before the first that has the receipt's seat and number
abbrev pub before : Entry → List Entry → List Entry
before receipt entries = before_first (is_of receipt) entries

-- the receipt is the first entry that has its seat and number
abbrev pub IsPlaced : List Entry → Entry → Type 0
IsPlaced entries receipt = (after : List Entry) × (entries ≡ before receipt entries ++ receipt ∷ after)

-- the operations that are held at the receipt's place in the journal
abbrev pub held_at : Entry → List Entry → Operations
held_at receipt entries = held_in (before receipt entries)

-- the store that a reply shows
abbrev pub store_in : Reply → Option Store
store_in (reply.Shown bag) = Some bag
store_in _ = None

-- the store is the one normal form of the operations that are held at the receipt's place
abbrev pub IsAnswerAt : Program → List Entry → Entry → Store → Type 0
IsAnswerAt p entries receipt store = IsOnlyNormalForm (rules_of p) (told_store (held_at receipt entries)) store
