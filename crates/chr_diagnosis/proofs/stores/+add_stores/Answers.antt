use Rattle.std.proofs.Common.{rules, subst}
use Rattle.std.specs.Prelude.{◌≡◌, ◌++◌, ◌∷◌, []}
use Rattle.chr_rewrite.specs.Derivations.{LeadsTo}
use Rattle.chr_weights.specs.WeighedPrograms.{rules_in}
use Rattle.chr_diagnosis.proofs.Passing.{applicable_first, derives_on, stores_passed}
use Rattle.chr_diagnosis.proofs.stores.+add_stores.Goals as goal

pub after-requires : goal.after-requires
after-requires t c = applicable_first _ c.args.steps.now _ _ c.in-len1-up.len_at_least c.step-item.is c.requires

pub add_stores-requires : goal.add_stores-requires
add_stores-requires t c =
    let same : c.in_ok-after.after ≡ c.in_ok-next.next = search rules in
    let on = derives_on _ c.args.steps.now _ _ _ c.in-len1-up.len_at_least c.step-item.is c.requires
    (subst (λ u. LeadsTo (rules_in c.args.weighed.now) c.step-item.result c.args.store.now u) same
    c.in_ok-after.ensures) in
    (search rules, on)

pub returns : goal.returns
returns t c =
    let same : c.in_ok-after.after ≡ c.in_ok-next.next = search rules in
    let leads = subst (λ u. LeadsTo (rules_in c.args.weighed.now) c.step-item.result c.args.store.now u) same
    c.in_ok-after.ensures in
    let pushed : c.push.new.self.items ≡ c.args.stores.now.items ++ c.in_ok-next.next ∷ [] = search rules in
    stores_passed _ c.args.steps.now _ _ _ _ _ _ _ c.in-len1-up.len_at_least c.step-item.is leads pushed
    c.add_stores.ensures
