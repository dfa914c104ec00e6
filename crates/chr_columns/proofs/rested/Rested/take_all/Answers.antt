use Rattle.std.proofs.Common.{refl, sym, ap, ◌∙◌, length}
use Rattle.std.proofs.lemmas.List.{length-map}
use Rattle.chr_base.specs.FinBag.{◌⊕◌, ◌⊖◌}
use Rattle.chr_base.specs.Stores.{store_of}
use Rattle.chr_plans.specs.Actives.{one}
use Rattle.chr_columns.specs.working.Resting.{stored}
use Rattle.chr_columns.proofs.Removals.{less_none, less_more}
use Rattle.chr_columns.proofs.rested.Rested.take_all.Goals as goal

pub loop-k-init : goal.loop-k-init
loop-k-init c = record {
  rested = c.requires.rested;
  rules = refl;
  count = c.rows_from-rows.ensures.count;
  left = sym (less_none (stored c.args.self.now ⊕ store_of c.args.fresh.now.items));
}

pub loop-k-preserved : goal.loop-k-preserved
loop-k-preserved c = record {
  rested = c.take_row.ensures.rested;
  rules = c.take_row.ensures.rules ∙ c.loop-k.invariant.rules;
  count = ap length c.followed-rows.ensures ∙ length-map c.deref-in-loop-k.result.now _
      ∙ ap length c.deref-in-loop-k.ensures.0 ∙ c.loop-k.invariant.count;
  left =
      c.take_row.ensures.left ∙ ap (λ s. s ⊖ one c.index-atoms-k.result) c.loop-k.invariant.left
      ∙ less_more (stored c.args.self.now ⊕ store_of c.args.fresh.now.items) c.args.atoms.now c.loop-k.k
      c.index-atoms-k.result c.loop-k-test.true c.index-atoms-k.is;
}
