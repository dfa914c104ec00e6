use Rattle.std.proofs.Common.{◌<◌, ◌++◌, ◌∙◌, ap, arith, codes, length, rules}
use Rattle.std.specs.Prelude.{string_bytes}
use Rattle.std.proofs.lemmas.Result.{on_ok_weaker}
use Rattle.chr_printing.specs.working.Printing.{flat_atoms}
use Rattle.chr_printing.proofs.Printed.{as_many_atoms, written_more}
use Rattle.chr_printing.proofs.turns.push_written.Goals as goal

pub returns-then-started : goal.returns-then-started
returns-then-started c =
    let f = c.args.flat.now in
    let old = string_bytes c.args.out.now in
    let many : 0 < length f.rows.items = search rules in
    let some : 0 < length (flat_atoms f) = omega (arith, many, as_many_atoms f) in
    rw c.if-started.true (on_ok_weaker c.push_more_text.result (λ e ds start before w h.
    written_more ds start old (string_bytes c.push_more_text.new.out) before (flat_atoms f) some h
    (e ∙ ap (λ t. old ++ codes ", " ++ t) (c.as_str.ensures.value ∙ w.text))) c.push_more_text.ensures)
