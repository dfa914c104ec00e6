use Rattle.std.proofs.Common.{◌≡◌, map, ◌∙◌}
use Rattle.std.proofs.lemmas.Bool.{OnTrue_from}
use Rattle.chr_plans.specs.Keys.{source_value}
use Rattle.chr_plans.proofs.Hopeless.{none_found}
use Rattle.chr_plans.proofs.missing.finds_none.Goals as goal

pub returns-clause-none : goal.returns-clause-none
returns-clause-none g c = OnTrue_from c.is_none.result _ (λ e other has allowed.
    (let key : c.deref-2.result.now ≡ map (λ k. source_value c.args.heads.now k.source)
    c.args.lookup.now.partner.key.items = c.deref-2.ensures.0 ∙ c.read_key.ensures in
    none_found _ c.first_from.result c.is_none.result c.is_none.ensures e c.first_from.ensures.none other tt
    (rw key has) (
      allowed.0,
      allowed.1,
      c.read_span.ensures.all allowed.0
          (rw (c.push_known.ensures, c.new-known.ensures, c.deref.ensures.0) allowed.2),
    )))
