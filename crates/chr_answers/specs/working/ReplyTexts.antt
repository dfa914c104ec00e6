-- The texts of replies.
use Rattle.std.specs.Prelude.{ℕ, zero, suc, List, [], ◌∷◌, ◌++◌, codes, string_bytes, Result, Ok, Err}
use Rattle.std.specs.Fmt.{decimal}
use Rattle.chr_base.specs.ProgramTests.{Declaration}
use Rattle.chr_base.specs.Stores.{Store}
use Rattle.chr_base.specs.Texts.{store_text}
use Rattle.chr_ops.specs.declared.fault.Added.{Added}
use Rattle.chr_ops.specs.declared.fault.Added.TheVariants as added
use Rattle.chr_exchange.specs.Texts.{summary_text}
use Rattle.chr_replica.specs.Refusals.{refusal_number}
use Rattle.chr_worlds.specs.declared.refusal.WorldRefusal.{WorldRefusal}
use Rattle.chr_worlds.specs.declared.refusal.WorldRefusal.TheVariants as denied
use Rattle.chr_answers.specs.declared.reply.Reply.{Reply}
use Rattle.chr_answers.specs.declared.reply.Reply.TheVariants as reply
use Rattle.chr_answers.specs.declared.reply.Refusal.TheVariants as refusal
use Rattle.chr_answers.specs.Replies.{line_refusal_number}

-- the number under which a world's refusal is answered
abbrev pub denial_number : WorldRefusal → ℕ
denial_number (denied.Replica r) = refusal_number r
denial_number denied.UnknownSymbol = line_refusal_number refusal.UnknownSymbol
denial_number denied.NoReplica = line_refusal_number refusal.NoReplica

-- the answer of a refusal of this number
abbrev pub number_text : ℕ → List ℕ
number_text n = codes "refused " ++ decimal n

abbrev pub reply_text : List Declaration → Reply → List ℕ
reply_text ds (reply.Told added.New) = codes "told"
reply_text ds (reply.Told added.Again) = codes "again"
reply_text ds (reply.Merged n) = codes "merged " ++ decimal n
reply_text ds (reply.Synced n) = codes "synced " ++ decimal n
reply_text ds (reply.Shown store) = store_text ds store
reply_text ds (reply.Summed ranges) = summary_text ranges
reply_text ds (reply.Lacked text) = string_bytes text
reply_text ds (reply.Denied r) = number_text (denial_number r)
reply_text ds (reply.Refused r) = number_text (line_refusal_number r)

-- the reply to a tell
abbrev pub told_reply : Result Added WorldRefusal → Reply
told_reply (Ok x) = reply.Told x
told_reply (Err r) = reply.Denied r

-- the reply to a merge
abbrev pub merged_reply : Result ℕ WorldRefusal → Reply
merged_reply (Ok n) = reply.Merged n
merged_reply (Err r) = reply.Denied r

-- the reply to an exchange
abbrev pub synced_reply : Result ℕ WorldRefusal → Reply
synced_reply (Ok n) = reply.Synced n
synced_reply (Err r) = reply.Denied r

-- the reply to a show
abbrev pub shown_reply : Result Store WorldRefusal → Reply
shown_reply (Ok store) = reply.Shown store
shown_reply (Err r) = reply.Denied r

-- the answers of this number of operations that were new, each with its line feed
abbrev pub told_lines : ℕ → List ℕ
told_lines zero = []
told_lines (suc n) = codes "told" ++ 10 ∷ told_lines n
