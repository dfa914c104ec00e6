use Rattle.std.proofs.Common.{ap, ◌∙◌}
use Rattle.serde_json.specs.Written.{compact_text, has_float}
use Rattle.chr_base.specs.Programs.{declarations}
use Rattle.chr_node_lines.proofs.Floats.{no_float}
use Rattle.chr_node_lines.proofs.reply.reply_text.Goals as goal

pub returns : goal.returns
returns c =
    c.in_ok-text.ensures.text
    (ap has_float c.in_ok-value.ensures ∙ no_float (declarations c.args.program.now) c.args.reply.now)
    ∙ ap compact_text c.in_ok-value.ensures
