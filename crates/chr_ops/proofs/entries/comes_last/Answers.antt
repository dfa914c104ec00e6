use mathlib.Core.Bool.{true≢false}
use Rattle.std.proofs.Common.{refl, ◌≡◌, ◌<◌, rules, arith, sym, ap, ◌∙◌, ◌-◌, slice_index_or, length}
use Rattle.std.specs.Ordering.{is_lt}
use Rattle.chr_ops.specs.Ids.{id_cmp}
use Rattle.chr_ops.proofs.Appended.{all_before_last, all_up_to, before_too, rise_back}
use Rattle.chr_ops.proofs.entries.comes_last.Goals as goal

pub returns-in-Some : goal.returns-in-Some
returns-in-Some c less =
    let es = c.args.bags.now.entries in
    let os = c.args.appended.now.items in
    let id = c.args.id in
    let last = c.in-Some.field-0.now in
    let len = c.args.appended.now.ok.0 in
    let there = c.in-Some.ensures.variant.0 refl in
    let some : 0 < length os = omega (arith, there, len) in
    let tested : c.lt.result ≡ is_lt (id_cmp last.0 id) = search rules in
    let before = sym (ap (λ n. is_lt (id_cmp (slice_index_or os (n - 1) last).0 id)) len)
    ∙ sym (ap (λ o. is_lt (id_cmp o.0 id)) c.in-Some.ensures.lookup) ∙ sym tested ∙ less in
    before_too id es os c.requires some (all_before_last id os last (rise_back es os c.requires) some before)

pub returns-in-Some-last_key_value : goal.returns-in-Some-last_key_value
returns-in-Some-last_key_value c less =
    let last = c.in-Some-last_key_value.last.now in
    let len = c.args.appended.now.ok.0 in
    let tested : c.lt-in-Some-last_key_value.result ≡ is_lt (id_cmp last c.args.id) = search rules in
    all_up_to c.args.id last c.args.bags.now.entries c.args.appended.now.items
    c.in-Some-last_key_value.ensures.all_up_to (sym tested ∙ less)
    (λ l. true≢false (sym (c.in-None.ensures.variant.1 (omega (arith, l, len)))))
