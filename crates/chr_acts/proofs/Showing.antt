-- What a reply shows at its place.
use Rattle.std.specs.Prelude.{Option, Some, None, IfSome, option_copied}
use Rattle.std.proofs.Common.{Bor, ◌≡◌, List, refl, sym, subst}
use Rattle.chr_base.specs.declared.program.Program.{Program}
use Rattle.chr_base.specs.Stores.{Store}
use Rattle.chr_acts.specs.declared.entry.Entry.{Entry}
use Rattle.chr_acts.specs.declared.reply.Reply.{Reply}
use Rattle.chr_acts.specs.declared.reply.Reply.TheVariants as reply
use Rattle.chr_acts.specs.JournalLaws.{ShowsAnswers}
use Rattle.chr_acts.specs.Receipts.{before, store_in, IsAnswerAt, IsPlaced}

-- what holds of a value holds of what refers to it
referred : {X : Type 0} (P : X → Type 0) (r : Option (Bor X)) → IfSome (option_copied r) P → IfSome r (λ b. P b.now)
referred P (Some b) h = h
referred P None h = tt

in_reply : (p : Program) (entries : List Entry) (receipt : Entry) → ShowsAnswers p entries → IsPlaced entries receipt
    → (x : Reply) → receipt.reply ≡ x → IfSome (store_in x) (IsAnswerAt p entries receipt)
in_reply p entries receipt answers place (reply.Shown bag) is =
    answers (before receipt entries) place.0 receipt bag place.1 is
in_reply p entries receipt answers place _ is = tt

pub is_answer : (p : Program) (entries : List Entry) (receipt : Entry) (r : Option (Bor Store))
    → ShowsAnswers p entries → IsPlaced entries receipt → option_copied r ≡ store_in receipt.reply
    → IfSome r (λ b. IsAnswerAt p entries receipt b.now)
is_answer p entries receipt r answers place is =
    referred (IsAnswerAt p entries receipt) r (subst (λ o. IfSome o (IsAnswerAt p entries receipt)) (sym is)
    (in_reply p entries receipt answers place receipt.reply refl))
