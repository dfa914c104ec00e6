use Rattle.std.proofs.Common.{rules, ap, sym, subst, ◌∙◌, ◌++◌, Some}
use Rattle.std.specs.FinMap as map
use Rattle.chr_ops.specs.Operations.{operations_of}
use Rattle.chr_ops.specs.working.Entries.{Rise}
use Rattle.chr_ops.proofs.Appended.{below_none, front_none, found_back, got_front, got_back, map_left, removed_back}
use Rattle.chr_ops.proofs.Appended.{removed_front, removed_none, rise_back, rise_left}
use Rattle.chr_ops.proofs.entries.Entries.remove.Goals as goal

pub comes_before-requires : goal.comes_before-requires
comes_before-requires c = rise_back c.self.inside.bags.entries c.self.inside.appended.items c.self.invariant

pub invariant_of-self : goal.invariant_of-self
invariant_of-self c =
    let es = c.self.inside.bags.entries in
    let os = c.self.inside.appended.items in
    let id = c.args.id in
    let before = sym c.comes_before.ensures ∙ c.if-comes_before.true in
    let left = ap (λ xs. xs ++ os) c.remove.ensures.entries ∙ sym (removed_front id es os (below_none id os before)) in
    subst Rise (sym left) (rise_left id (es ++ os) c.self.invariant)

pub returns-then-comes_before-clause-bag : goal.returns-then-comes_before-clause-bag
returns-then-comes_before-clause-bag c =
    let before = sym c.comes_before.ensures ∙ c.if-comes_before.true in
    c.remove.ensures.value ∙ got_front c.args.id c.self.inside.bags.entries c.self.inside.appended.items before
    ∙ ap (λ m. map.get m c.args.id) c.self.view_is

pub returns-then-comes_before-clause-rest : goal.returns-then-comes_before-clause-rest
returns-then-comes_before-clause-rest c =
    let es = c.self.inside.bags.entries in
    let os = c.self.inside.appended.items in
    let id = c.args.id in
    let before = sym c.comes_before.ensures ∙ c.if-comes_before.true in
    let left = ap (λ xs. xs ++ os) c.remove.ensures.entries ∙ sym (removed_front id es os (below_none id os before)) in
    ap operations_of left ∙ map_left id (es ++ os) c.self.invariant ∙ ap (λ m. map.remove m id) c.self.view_is

pub place_of-requires : goal.place_of-requires
place_of-requires c = rise_back c.self.inside.bags.entries c.self.inside.appended.items c.self.invariant

pub returns-in_err-place-clause-bag : goal.returns-in_err-place-clause-bag
returns-in_err-place-clause-bag c =
    let behind = sym c.comes_before.ensures ∙ c.if-comes_before.false in
    let got = got_back c.args.id c.self.inside.bags.entries c.self.inside.appended.items c.self.invariant behind
    ∙ ap (λ m. map.get m c.args.id) c.self.view_is in
    let none = sym c.in_err-place.ensures.none ∙ got in
    search (rules, none)

pub returns-in_err-place-clause-rest : goal.returns-in_err-place-clause-rest
returns-in_err-place-clause-rest c =
    let es = c.self.inside.bags.entries in
    let os = c.self.inside.appended.items in
    let id = c.args.id in
    let behind = sym c.comes_before.ensures ∙ c.if-comes_before.false in
    let none = found_back id es os (front_none id es os c.self.invariant behind) ∙ c.in_err-place.ensures.none in
    sym c.self.view_is ∙ ap operations_of (sym (removed_none id (es ++ os) none))
    ∙ map_left id (es ++ os) c.self.invariant ∙ ap (λ m. map.remove m id) c.self.view_is

pub invariant_of-self-2 : goal.invariant_of-self-2
invariant_of-self-2 c =
    let es = c.self.inside.bags.entries in
    let os = c.self.inside.appended.items in
    let id = c.args.id in
    let behind = sym c.comes_before.ensures ∙ c.if-comes_before.false in
    let left = ap (λ xs. es ++ xs) (c.in_ok-bag.ensures.items ∙ c.in_ok-place.ensures.there.removed)
    ∙ sym (removed_back id es os (front_none id es os c.self.invariant behind)) in
    subst Rise (sym left) (rise_left id (es ++ os) c.self.invariant)

pub returns-clause-bag : goal.returns-clause-bag
returns-clause-bag c =
    let behind = sym c.comes_before.ensures ∙ c.if-comes_before.false in
    let taken = c.in_ok-bag.ensures.value in
    ap (λ o. Some o.1) taken ∙ sym (c.in_ok-place.ensures.there.found (c.in_ok-bag.field-0-0, c.in_ok-bag.bag))
    ∙ got_back c.args.id c.self.inside.bags.entries c.self.inside.appended.items c.self.invariant behind
    ∙ ap (λ m. map.get m c.args.id) c.self.view_is

pub returns-clause-rest : goal.returns-clause-rest
returns-clause-rest c =
    let es = c.self.inside.bags.entries in
    let os = c.self.inside.appended.items in
    let id = c.args.id in
    let behind = sym c.comes_before.ensures ∙ c.if-comes_before.false in
    let left = ap (λ xs. es ++ xs) (c.in_ok-bag.ensures.items ∙ c.in_ok-place.ensures.there.removed)
    ∙ sym (removed_back id es os (front_none id es os c.self.invariant behind)) in
    ap operations_of left ∙ map_left id (es ++ os) c.self.invariant ∙ ap (λ m. map.remove m id) c.self.view_is
