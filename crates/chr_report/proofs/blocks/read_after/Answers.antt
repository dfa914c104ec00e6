use Rattle.std.proofs.Common.{◌≡◌, ◌++◌, ap, ◌∙◌, subst}
use Rattle.std.proofs.lemmas.Result.{on_ok_weaker}
use Rattle.chr_device.specs.Devices.{ReadsOn, inner_of}
use Rattle.chr_report.proofs.blocks.read_after.Goals as goal

pub returns-clause-read : goal.returns-clause-read
returns-clause-read g c =
    let begun = c.args.begun.now in
    let start : c.extend_from_slice.new.self.items ≡ begun =
    c.in_ok-extend_from_slice.ensures.items ∙ ap (λ l. l ++ begun) c.clear.ensures.items in
    on_ok_weaker c.read_on.result (λ h. subst (λ b. ReadsOn (g.D.Read.remaining (inner_of c.args.reader.now))
    (g.D.Read.remaining (inner_of c.read_on.new.reader)) b c.read_on.new.held.items) start h) c.read_on.ensures.held
