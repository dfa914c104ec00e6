use Rattle.std.proofs.Common.{rules, ◌≡◌, [], ◌∷◌, ◌++◌, ◌∙◌, ap, refl}
use Rattle.chr_base.specs.FinBag as bag
use Rattle.chr_base.specs.FinBag.{◌⊕◌}
use Rattle.chr_base.specs.Stores.{store_of}
use Rattle.chr_base.proofs.Stores.{store_of-items}
use Rattle.chr_report.proofs.Gathers.{gathers_more}
use Rattle.chr_report.proofs.gathering.Gathering.push.Goals as goal

pub returns-clause-gathered : goal.returns-clause-gathered
returns-clause-gathered c = λ p text is asks.
    let g = c.args.self.now in
    let pushed : c.push.new.self.items ≡ g.ops.items ++ c.args.op ∷ [] = search rules in
    let inserted : c.insert.new.self.store ≡ g.pool.store ⊕ store_of c.atoms.result.now = search rules in
    let atoms : c.atoms.result.now ≡ bag.items c.args.op.1 = search rules in
    c.rest_many.ensures.gathered p text (gathers_more p text g _ c.args.op c.requires asks refl pushed
    c.insert.ensures.weighed
    (inserted ∙ ap (λ s. g.pool.store ⊕ s) (ap store_of atoms ∙ store_of-items c.args.op.1)) refl is)
