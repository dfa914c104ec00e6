use Rattle.std.proofs.Common.{◌∙◌, ap, sym}
use Rattle.chr_base.specs.Programs.{declarations}
use Rattle.chr_node_records.specs.Texts.{or_none}
use Rattle.chr_node_records.proofs.Reading.{read, no_message, refused}
use Rattle.chr_node_records.proofs.record.operations_of_text.Goals as goal

pub returns-in-None-clause-none : goal.returns-in-None-clause-none
returns-in-None-clause-none c = no_message (declarations c.args.program.now) c.args.text.now c.in-None.ensures

pub returns-in-Ok-clause-some : goal.returns-in-Ok-clause-some
returns-in-Ok-clause-some c =
    sym (read (declarations c.args.program.now) c.args.text.now _ c.in-Some.ensures ∙ ap or_none c.in-Ok.ensures)

pub returns-in_ok-unless_memory-in-Err-clause-none : goal.returns-in_ok-unless_memory-in-Err-clause-none
returns-in_ok-unless_memory-in-Err-clause-none c =
    read (declarations c.args.program.now) c.args.text.now _ c.in-Some.ensures
    ∙ refused c.in-Err.fault _ c.in-Err.ensures c.in_ok-unless_memory-in-Err.ensures
