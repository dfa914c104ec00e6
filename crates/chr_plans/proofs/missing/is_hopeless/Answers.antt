use Rattle.std.proofs.Common.{◌≡◌, ◌∷◌, take, true, sym, ap, ◌∙◌}
use Rattle.chr_plans.specs.working.Searching.{looked_in, are_ready}
use Rattle.chr_plans.proofs.Places.{looked_take}
use Rattle.chr_plans.proofs.missing.is_hopeless.Goals as goal

pub returns-then-finds_none-clause-missing : goal.returns-then-finds_none-clause-missing
returns-then-finds_none-clause-missing g c =
    let l = c.index-lookups-later.result in
    let ready : are_ready (c.args.active ∷ take c.args.done (looked_in c.args.lookups.now)) l.partner.key.items ≡ true =
    ap (λ known. are_ready (c.args.active ∷ known) l.partner.key.items)
    (sym (looked_take c.args.lookups.now c.args.done))
    ∙ ap (are_ready (c.args.active ∷ looked_in (take c.args.done c.args.lookups.now))) (sym c.deref.ensures.0)
    ∙ c.if-become_ready.ensures in (
      c.loop-later.later,
      l,
      c.loop-later-test.true,
      sym c.index-lookups-later.is,
      ready,
      rw (c.loop-later.invariant.rows, c.loop-later.invariant.columns, looked_take c.args.lookups.now c.args.done) at
          c.if-finds_none.ensures.none,
    )
