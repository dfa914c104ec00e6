use mathlib.Core.Bool.{true≢false}
use Rattle.std.proofs.Common.{refl, ◌≡◌, ◌<◌, rules, arith, sym, ap, ◌∙◌, true, false, length}
use Rattle.std.specs.Ordering.{eq_by_cmp, is_eq}
use Rattle.std.proofs.lemmas.Bool.Decides.{nat_tests}
use Rattle.std.proofs.lemmas.List.{get_or_read}
use Rattle.chr_ops.specs.Ids.{id_cmp}
use Rattle.chr_ops.specs.working.Entries.{is_before}
use Rattle.chr_ops.proofs.IdOrder.{same_id}
use Rattle.chr_ops.proofs.Appended.{count_prefix, place_there, place_none}
use Rattle.chr_ops.proofs.entries.place_of.Goals as goal

pub returns-in_err-found-clause-none : goal.returns-in_err-found-clause-none
returns-in_err-found-clause-none c =
    let variant = c.in_err-found.ensures.variant in
    let os = c.args.appended.now.items in
    let none = place_none c.args.id os c.count_before-place.result c.requires
    (c.count_before-place.ensures ∙ sym (count_prefix (is_before c.args.id) os))
    (λ d l. absurd (true≢false (sym (variant.1 (omega (arith, l, c.args.appended.now.ok.0)))))) in
    search (rules, none)

pub returns-then-eq-clause-there : goal.returns-then-eq-clause-there
returns-then-eq-clause-there c =
    let os = c.args.appended.now.items in
    let i = c.count_before-place.result in
    let there = c.in_ok-found.ensures.variant.0 refl in
    let inside : i < length os = omega (arith, there, c.args.appended.now.ok.0) in
    let found = c.in_ok-found.field-0.now in
    let same : eq_by_cmp id_cmp found.0 c.args.id ≡ true = grind (arith, nat_tests, c.eq.ensures, c.if-eq.true) in
    place_there c.args.id os i c.requires
    (c.count_before-place.ensures ∙ sym (count_prefix (is_before c.args.id) os)) inside
    (λ d. sym (ap (λ o. o.0) (get_or_read os i found inside c.in_ok-found.ensures.lookup d))
    ∙ same_id found.0 c.args.id same)

pub returns-else-eq-clause-none : goal.returns-else-eq-clause-none
returns-else-eq-clause-none c =
    let os = c.args.appended.now.items in
    let i = c.count_before-place.result in
    let there = c.in_ok-found.ensures.variant.0 refl in
    let inside : i < length os = omega (arith, there, c.args.appended.now.ok.0) in
    let found = c.in_ok-found.field-0.now in
    let apart : is_eq (id_cmp c.args.id found.0) ≡ false = grind (arith, nat_tests, c.eq.ensures, c.if-eq.false) in
    place_none c.args.id os i c.requires
    (c.count_before-place.ensures ∙ sym (count_prefix (is_before c.args.id) os))
    (λ d l. sym (ap (λ o. is_eq (id_cmp c.args.id o.0))
    (get_or_read os i found inside c.in_ok-found.ensures.lookup d)) ∙ apart)
