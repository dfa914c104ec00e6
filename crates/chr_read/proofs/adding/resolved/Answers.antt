use Rattle.std.proofs.Common.{◌≡◌, []}
use Rattle.chr_base.specs.Programs.{declarations}
use Rattle.chr_syntax.specs.Views.{rule_view}
use Rattle.chr_read.specs.Resolving.{after_heads, resolved}
use Rattle.chr_read.specs.working.Views.{names_view}
use Rattle.chr_read.proofs.Resolved.{label_is, resolved_is_rule, resolved_in_bounds}
use Rattle.chr_read.proofs.adding.resolved.Goals as goal

pub make_rule-requires : goal.make_rule-requires
make_rule-requires c =
    let ds = declarations c.args.program.now in
    let r = rule_view c.args.raw.now in
    let k : c.in_ok-kept.kept.items ≡ (resolved ds r).kept =
    rw c.new-names.ensures.items at (rw c.deref.ensures.value at c.in_ok-kept.ensures.heads) in
    let first : names_view c.heads.new.names.items ≡ after_heads [] r.kept =
    rw c.new-names.ensures.items at (rw c.deref.ensures.value at c.in_ok-kept.ensures.names) in
    let m : c.in_ok-removed.removed.items ≡ (resolved ds r).removed =
    rw first at (rw c.deref-2.ensures.value at c.in_ok-removed.ensures.heads) in
    let second : names_view c.heads-2.new.names.items ≡ after_heads (after_heads [] r.kept) r.removed =
    rw first at (rw c.deref-2.ensures.value at c.in_ok-removed.ensures.names) in
    let g : c.guard-guard.result.items ≡ (resolved ds r).guard =
    rw second at (rw (c.deref-3.ensures.value, c.deref-4.ensures.value) at c.guard-guard.ensures) in
    let b : c.body-body.result.items ≡ (resolved ds r).body =
    rw second at (rw (c.deref-5.ensures.value, c.deref-6.ensures.value) at c.body-body.ensures) in
    record {
      parts = rw (k, m, g, b) (resolved_is_rule ds r c.requires.over c.requires.unbound c.requires.some);
      bounds = rw (c.label.ensures, k, m, g, b) (resolved_in_bounds ds r c.requires.over c.requires.names);
    }

pub label-requires : goal.label-requires
label-requires c = label_is (rule_view c.args.raw.now) c.requires.over c.requires.names

pub returns : goal.returns
returns c =
    let ds = declarations c.args.program.now in
    let r = rule_view c.args.raw.now in
    let k : c.in_ok-kept.kept.items ≡ (resolved ds r).kept =
    rw c.new-names.ensures.items at (rw c.deref.ensures.value at c.in_ok-kept.ensures.heads) in
    let first : names_view c.heads.new.names.items ≡ after_heads [] r.kept =
    rw c.new-names.ensures.items at (rw c.deref.ensures.value at c.in_ok-kept.ensures.names) in
    let m : c.in_ok-removed.removed.items ≡ (resolved ds r).removed =
    rw first at (rw c.deref-2.ensures.value at c.in_ok-removed.ensures.heads) in
    let second : names_view c.heads-2.new.names.items ≡ after_heads (after_heads [] r.kept) r.removed =
    rw first at (rw c.deref-2.ensures.value at c.in_ok-removed.ensures.names) in
    let g : c.guard-guard.result.items ≡ (resolved ds r).guard =
    rw second at (rw (c.deref-3.ensures.value, c.deref-4.ensures.value) at c.guard-guard.ensures) in
    let b : c.body-body.result.items ≡ (resolved ds r).body =
    rw second at (rw (c.deref-5.ensures.value, c.deref-6.ensures.value) at c.body-body.ensures) in
    rw (k, m, g, b, c.label.ensures) at c.make_rule.ensures
