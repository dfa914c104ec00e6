use Rattle.std.proofs.Common.{refl, ◌≡◌, rules, arith, sym, ap, ◌∙◌}
use Rattle.std.specs.Ordering.{is_lt}
use Rattle.chr_ops.specs.Ids.{id_cmp}
use Rattle.chr_ops.proofs.Appended.{below_first}
use Rattle.chr_ops.proofs.entries.comes_before.Goals as goal

pub returns-in-Some : goal.returns-in-Some
returns-in-Some c =
    let os = c.args.appended.now.items in
    let first = c.in-Some.field-0.now in
    let there = c.in-Some.ensures.variant.0 refl in
    let less : c.lt.result ≡ is_lt (id_cmp c.args.id first.0) = search rules in
    less ∙ ap (λ o. is_lt (id_cmp c.args.id o.0)) c.in-Some.ensures.lookup
    ∙ sym (below_first c.args.id os first c.requires (omega (arith, there, c.args.appended.now.ok.0)))
