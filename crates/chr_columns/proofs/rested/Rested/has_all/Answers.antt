use Rattle.std.proofs.Common.{refl, sym, ◌∙◌, arith}
use mathlib.Core.Bool.{true≢false}
use Rattle.chr_base.specs.FinBag.{◌⊕◌}
use Rattle.chr_base.specs.Stores.{store_of}
use Rattle.chr_columns.specs.working.Resting.{stored}
use Rattle.chr_columns.proofs.Removals.{all_within, too_few}
use Rattle.chr_columns.proofs.rested.Rested.has_all.Goals as goal

pub returns : goal.returns
returns c = (
  λ _. all_within (stored c.args.self.now ⊕ store_of c.args.fresh.now) c.args.atoms.now
      (λ i d h. c.loop-atom.invariant i d (omega arith)),
  λ _. refl,
)

pub returns-then-not-has_as_often : goal.returns-then-not-has_as_often
returns-then-not-has_as_often c =
    let s = stored c.args.self.now ⊕ store_of c.args.fresh.now in
    let a = c.atom-item.result in (
      λ h. absurd (true≢false (sym h)),
      λ within. absurd (too_few s c.args.atoms.now a
          (λ most. true≢false (sym (c.has_as_often.ensures.1
          (let wanted = c.count_of.ensures.value in omega (arith, wanted, most))) ∙ c.if-not-has_as_often.true))
          within),
    )
