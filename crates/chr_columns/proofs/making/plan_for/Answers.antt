use Rattle.std.proofs.Common.{◌++◌, ◌∷◌, [], take, sym, ap, ◌∙◌, arith}
use Rattle.std.specs.Prelude.{Some}
use Rattle.std.proofs.lemmas.List.{map-append, take_more}
use Rattle.chr_plans.specs.declared.plan.Lookup.{Lookup}
use Rattle.chr_plans.specs.declared.plan.Partner.{Partner}
use Rattle.chr_plans.specs.Plans.{pattern_at, columns_of}
use Rattle.chr_columns.specs.working.Groups.{table_of_pattern}
use Rattle.chr_columns.specs.working.Making.{columns_in}
use Rattle.chr_columns.proofs.Makings.{indexed_more}
use Rattle.chr_columns.proofs.making.plan_for.Goals as goal

pub loop-index-preserved : goal.loop-index-preserved
loop-index-preserved c =
    let l = c.in_ok-look_up.field-0 in
    let is = c.in_ok-look_up.ensures.partner in
    rw c.push.ensures.items (record {
      tables = c.look_up.ensures.tables;
      grows = λ t i cs h. c.look_up.ensures.grows t i cs (c.loop-index.invariant.grows t i cs h);
      partners = map-append (λ (x : Lookup). x.partner) c.loop-index.lookups.items _
          ∙ rw (c.loop-index.invariant.partners, is) (ap
          (λ x. take c.loop-index.index c.plan_of-partners.result.items ++ x ∷ [])
          (rw c.deref.ensures.0 at c.index-deref-index.is)
          ∙ sym (take_more c.plan_of-partners.result.items c.loop-index.index c.index-deref-index.result
          (omega arith)));
      indexed = indexed_more c.args.rule.now c.args.groups.now (columns_in c.loop-index.keys.items)
          (columns_in c.look_up.new.keys.items) c.loop-index.lookups.items _ c.look_up.ensures.grows
          c.loop-index.invariant.indexed
          (c.in_ok-look_up.ensures.index ∙ ap (λ (x : Partner). Some (columns_of x.key.items)) (sym is))
          (c.in_ok-look_up.ensures.table ∙ ap (λ (x : Partner). table_of_pattern c.args.groups.now
          (pattern_at c.args.rule.now x.place)) (sym is));
    })
