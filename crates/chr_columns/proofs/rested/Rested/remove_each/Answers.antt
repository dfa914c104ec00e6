use Rattle.std.proofs.Common.{refl, sym, ap, ◌∙◌}
use Rattle.chr_base.specs.FinBag.{◌⊕◌, ◌⊖◌}
use Rattle.chr_base.specs.Stores.{store_of}
use Rattle.chr_plans.specs.Actives.{one}
use Rattle.chr_columns.specs.working.Resting.{stored}
use Rattle.chr_columns.proofs.Removals.{less_none, less_more}
use Rattle.chr_columns.proofs.rested.Rested.remove_each.Goals as goal

pub loop-atom-init : goal.loop-atom-init
loop-atom-init c = record {
  rested = c.requires;
  rules = refl;
  left = sym (less_none (stored c.args.self.now ⊕ store_of c.args.fresh.now.items));
}

pub loop-atom-preserved : goal.loop-atom-preserved
loop-atom-preserved c = record {
  rested = c.take_one.ensures.rested;
  rules = c.take_one.ensures.rules ∙ c.loop-atom.invariant.rules;
  left =
      c.take_one.ensures.left ∙ ap (λ s. s ⊖ one c.atom-item.result) c.loop-atom.invariant.left
      ∙ less_more (stored c.args.self.now ⊕ store_of c.args.fresh.now.items) c.args.atoms.now c.loop-atom.atom-index
      c.atom-item.result c.loop-atom-test.true c.atom-item.is;
}
