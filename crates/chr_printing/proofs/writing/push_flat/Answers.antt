use Rattle.std.proofs.Common.{[], append-nil, refl, sym, true≢false}
use Rattle.std.specs.Prelude.{string_bytes}
use Rattle.chr_printing.proofs.Printed.{live_flat}
use Rattle.chr_printing.proofs.writing.push_flat.Goals as goal

pub returns-clause-rises : goal.returns-clause-rises
returns-clause-rises c =
    let all = c.if-not-follow_rows.ensures [] (record { rises = refl; last_is = refl }) in
    rw (live_flat c.args.flat.now) at (all.rises)

pub returns-clause-text : goal.returns-clause-text
returns-clause-text c =
    let old = string_bytes c.args.out.now in
    let all = c.in_ok-push_rows.ensures old [] (record {
      text_is = sym (append-nil old);
      some = λ e. absurd (true≢false (sym e));
      none = λ _. refl;
    }) in
    rw (live_flat c.args.flat.now) at (all.text_is)
