use Rattle.std.proofs.Common.{◌≡◌, length, take, min, sym, ap, subst, rules, ◌∙◌}
use Rattle.std.specs.Prelude.{◌++◌}
use Rattle.std.proofs.lemmas.List.{take_min}
use Rattle.chr_weights.specs.WeighedPrograms.{rules_in}
use Rattle.chr_diagnosis.specs.declared.limits.TheConstants.{MAX_TOLD_STEPS}
use Rattle.chr_diagnosis.specs.Diagnoses.{PassesThrough}
use Rattle.chr_diagnosis.proofs.Passing.{Derives, first_steps}
use Rattle.chr_diagnosis.proofs.stores.first_stores.Goals as goal

pub add_stores-requires : goal.add_stores-requires
add_stores-requires c =
    let d = c.args.derivation.now in
    subst (λ xs. Derives (rules_in c.args.weighed.now) (take c.min-told.result xs) d.start) (sym c.deref.ensures.value)
    (first_steps (rules_in c.args.weighed.now) c.min-told.result d.steps.items d.start c.requires.0 c.requires.1)

pub returns : goal.returns
returns c =
    let d = c.args.derivation.now in
    let program = rules_in c.args.weighed.now in
    let passed = c.in_ok-add_stores.ensures in
    let told : c.min-told.result ≡ min MAX_TOLD_STEPS (length d.steps.items) = search rules in
    let steps : take c.min-told.result c.deref.result.now ≡ take MAX_TOLD_STEPS d.steps.items =
    ap (take c.min-told.result) c.deref.ensures.value ∙ ap (λ n. take n d.steps.items) told
    ∙ take_min MAX_TOLD_STEPS d.steps.items in
    let items : c.add_stores.new.stores.items ≡ passed.0 =
    passed.1 ∙ ap (λ xs. xs ++ passed.0) c.new-stores.ensures.items in
    subst (λ xs. PassesThrough program (take MAX_TOLD_STEPS d.steps.items) d.start xs) (sym items)
    (subst (λ xs. PassesThrough program xs d.start passed.0) steps passed.2)
