use Rattle.std.proofs.Common.{sym, ◌∙◌}
use Rattle.std.proofs.lemmas.Bool.{not-true}
use Rattle.chr_read.specs.CanonicalTexts.{is_default}
use Rattle.chr_read.specs.working.Views.{declared_view}
use Rattle.chr_read.proofs.Written.{weight_written}
use Rattle.chr_read.proofs.writer.push_weight.Goals as goal

pub returns-in_ok-push_str-3 : goal.returns-in_ok-push_str-3
returns-in_ok-push_str-3 c =
    let other = not-true (is_default c.args.declared.now.weight) (sym c.ne.ensures ∙ c.if-ne.true) in
    weight_written _ _ _ _ _ _ (declared_view c.args.declared.now) other c.in_ok-push_str.ensures.bytes
    c.in_ok-push_symbol.ensures c.in_ok-push_str-2.ensures.bytes
    (rw c.is_paired.ensures at c.in_ok-push_text.ensures)
    c.in_ok-push_str-3.ensures.bytes
