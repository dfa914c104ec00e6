use Rattle.std.proofs.Common.{◌≡◌, ap, sym, ◌∙◌}
use Rattle.chr_base.specs.Stores.{store_of}
use Rattle.chr_base.specs.Rules.{atoms_at, heads_at, guard_holds}
use Rattle.chr_confluence.specs.Matchings.{case_atoms}
use Rattle.chr_confluence.specs.Representatives.{assignment, left_at, right_at}
use Rattle.chr_overlaps.specs.CaseLists.{case_at}
use Rattle.chr_overlaps.specs.working.Unifiers.{classes_of}
use Rattle.chr_overlaps.proofs.HeadsAt.{left_heads, right_heads, guards_are, case_fails, case_is}
use Rattle.chr_overlaps.proofs.cases.case_at.Goals as goal

pub returns-then-not-all_hold : goal.returns-then-not-all_hold
returns-then-not-all_hold c =
    let r1 = c.args.first.now in
    let r2 = c.args.second.now in
    let u = c.args.unified.now in
    let zs = c.args.values.now in
    case_fails _ (case_at c.args.overlap.now r1 r2 (classes_of u) zs)
    (sym (guards_are r1 r2 u zs c.requires) ∙ sym (c.all_hold.ensures
    ∙ (λ i. guard_holds (assignment (c.deref.ensures.0 i) zs) (c.deref-2.ensures.0 i))) ∙ c.if-not-all_hold.true)

pub returns : goal.returns
returns c =
    let r1 = c.args.first.now in
    let r2 = c.args.second.now in
    let u = c.args.unified.now in
    let zs = c.args.values.now in
    let v1 = left_at (classes_of u) r1 r2 zs in
    let v2 = right_at (classes_of u) r1 r2 zs in
    let left : c.instances-left.result.items ≡ heads_at v1 r1 = c.instances-left.ensures
    ∙ ap (λ fs. atoms_at (assignment fs zs) u.first.items) c.deref-3.ensures.0 ∙ left_heads r1 r2 u zs c.requires in
    let right : c.instances-right.result.items ≡ heads_at v2 r2 = c.instances-right.ensures
    ∙ ap (λ fs. atoms_at (assignment fs zs) u.second.items) c.deref-4.ensures.0
    ∙ right_heads r1 r2 u zs c.requires in
    case_is c.args.overlap.now r1 r2 (classes_of u) zs c.instances-left.result.items c.instances-right.result.items
    c.in_ok-store.store left right
    (c.in_ok-store.ensures ∙ (λ i. store_of (case_atoms (c.deref-5.ensures.0 i) (c.deref-6.ensures.0 i)
    (c.deref-7.ensures.0 i))))
    (sym (guards_are r1 r2 u zs c.requires) ∙ sym (c.all_hold.ensures
    ∙ (λ i. guard_holds (assignment (c.deref.ensures.0 i) zs) (c.deref-2.ensures.0 i))) ∙ c.if-not-all_hold.false)
