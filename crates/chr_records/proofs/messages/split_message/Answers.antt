use Rattle.chr_records.proofs.Sealed.{none_whole, other_text}
use Rattle.chr_records.proofs.messages.split_message.Goals as goal

pub returns-in_default : goal.returns-in_default
returns-in_default c = none_whole c.args.bytes.now c.in_default.ensures

pub returns-in_default-message_in : goal.returns-in_default-message_in
returns-in_default-message_in c =
    other_text c.args.bytes.now c.in-Some.text.now c.in-Some.behind.now c.in-Some.ensures.2
    c.in_default-message_in.ensures
