-- Books: boards with their journals.
use Rattle.std.specs.Prelude.{◌≡◌, ℕ, ◌+◌, List, [], ◌∷◌, ◌++◌}
use Rattle.chr_base.specs.declared.program.Program.{Program}
use Rattle.chr_replica.specs.Boards.{Held}
use Rattle.chr_replica.specs.Replicas.{Replica}
use Rattle.chr_acts.specs.declared.act.Act.{Act}
use Rattle.chr_acts.specs.declared.entry.Entry.{Entry}
use Rattle.chr_acts.specs.declared.reply.Reply.{Reply}
use Rattle.chr_acts.specs.Events.{Does}
use Rattle.chr_acts.specs.Journals.{count_of}

-- a board, and the entries of its journal
pub record Kept : Type 0 where
  pub board : Held
  pub entries : List Entry

-- The replica s of the program p does the act that was asked and is t afterwards. Just this is entered, with the reply,
-- under the next number of the seat, which is called `chair`: es are the entries before, and fs those after.
pub record Enters (p : Program) (es : List Entry) (s : Replica) (chair : ℕ) (asked : Act) (fs : List Entry)
    (t : Replica) : Type 0 where
  pub entry : Entry
  pub seat : entry.seat ≡ chair
  pub number : entry.number ≡ count_of chair es + 1
  pub act : entry.act ≡ asked
  pub does : Does p s asked entry.reply t
  pub after : fs ≡ es ++ entry ∷ []
