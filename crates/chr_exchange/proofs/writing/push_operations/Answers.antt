use Rattle.std.proofs.Common.{string_bytes, rules}
use Rattle.chr_base.specs.Programs.{declarations}
use Rattle.chr_json.specs.Messages.{operation_data}
use Rattle.chr_exchange.specs.Texts.{spelt}
use Rattle.chr_exchange.proofs.Listed.{listed_pushed}
use Rattle.chr_exchange.proofs.writing.push_operations.Goals as goal

pub returns-in_ok-push_str-in-Some-2 : goal.returns-in_ok-push_str-in-Some-2
returns-in_ok-push_str-in-Some-2 c =
    listed_pushed operation_data (λ o. spelt (declarations c.args.program.now) o.now) c.in-Some.first.now c.args.ops.now
    c.in-Some.rest.now (string_bytes c.args.out.now) (string_bytes c.push_str-in-Some.new.self)
    (string_bytes c.push_operation.new.out) (string_bytes c.push_more_operations.new.out)
    (string_bytes c.push_str-in-Some-2.new.self)
    (search rules) (search rules) (search rules) (search rules) (search rules)
