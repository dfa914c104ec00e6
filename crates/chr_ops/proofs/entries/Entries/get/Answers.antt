use Rattle.std.proofs.Common.{rules, ap, sym, ◌∙◌}
use Rattle.std.specs.FinMap as map
use Rattle.chr_ops.proofs.Appended.{got_front, got_back, rise_back}
use Rattle.chr_ops.proofs.entries.Entries.get.Goals as goal

pub comes_before-requires : goal.comes_before-requires
comes_before-requires c = rise_back c.self.inside.bags.entries c.self.inside.appended.items c.self.invariant

pub place_of-requires : goal.place_of-requires
place_of-requires c = rise_back c.self.inside.bags.entries c.self.inside.appended.items c.self.invariant

pub returns-in_err-bag : goal.returns-in_err-bag
returns-in_err-bag c =
    let before = sym c.comes_before.ensures ∙ c.if-comes_before.true in
    let got = c.get.ensures.value
    ∙ got_front c.args.id c.self.inside.bags.entries c.self.inside.appended.items before
    ∙ ap (λ m. map.get m c.args.id) c.self.view_is in
    search (rules, got)

pub returns-then-comes_before : goal.returns-then-comes_before
returns-then-comes_before c =
    let before = sym c.comes_before.ensures ∙ c.if-comes_before.true in
    let got = c.get.ensures.value
    ∙ got_front c.args.id c.self.inside.bags.entries c.self.inside.appended.items before
    ∙ ap (λ m. map.get m c.args.id) c.self.view_is in
    search (rules, got)

pub returns-in_err-place : goal.returns-in_err-place
returns-in_err-place c =
    let behind = sym c.comes_before.ensures ∙ c.if-comes_before.false in
    let got = got_back c.args.id c.self.inside.bags.entries c.self.inside.appended.items c.self.invariant behind
    ∙ ap (λ m. map.get m c.args.id) c.self.view_is in
    let none = c.in_err-place.ensures.none in
    search (rules, got, none)

pub returns : goal.returns
returns c =
    let behind = sym c.comes_before.ensures ∙ c.if-comes_before.false in
    let got = got_back c.args.id c.self.inside.bags.entries c.self.inside.appended.items c.self.invariant behind
    ∙ ap (λ m. map.get m c.args.id) c.self.view_is in
    let there = c.in_ok-place.ensures.there in
    let bag = there.found c.index.result.now in
    search (rules, got, bag)
