use Rattle.std.proofs.Common.{rules}
use Rattle.chr_records.proofs.Sealed.{message_more}
use Rattle.chr_records.proofs.messages.push_message.Goals as goal

pub returns-clause-whole : goal.returns-clause-whole
returns-clause-whole c =
    message_more c.args.bytes.now.items c.args.message.now c.push.new.self.items c.extend_from_slice.new.self.items
    c.extend_from_slice-2.new.self.items c.push-2.new.self.items (search rules) (search rules) (search rules)
    (search rules)
