use Rattle.std.proofs.Common.{[], ◌≡◌, ◌+◌, ◌-◌, ◌≤◌, ◌⊎◌, inl, inr, length, ap, sym, ◌∙◌, arith}
use Rattle.std.specs.List.{flat_map, range_with_len}
use Rattle.chr_overlaps.specs.working.Listing.{overlaps_of_rule}
use Rattle.chr_base.specs.Programs.{rules_of}
use Rattle.chr_weights.specs.WeighedPrograms.{program_of}
use Rattle.chr_overlaps.proofs.Few.{few_rules, few_overlaps}
use Rattle.chr_overlaps.proofs.Steps.{more_overlaps}
use Rattle.chr_overlaps.proofs.Theorem.{all_listed}
use Rattle.chr_overlaps.proofs.listing.overlaps_of.Goals as goal

pub loop-place-init : goal.loop-place-init
loop-place-init c =
    let a = c.args.places.start in
    let none : 0 ≡ a - a = omega arith in
    record {
      found = c.new-found.ensures.items ∙ ap (λ k. flat_map (overlaps_of_rule c.rules-rules.result.now)
          (range_with_len a k)) none;
      reach = inr (omega arith);
    }

pub loop-place-preserved : goal.loop-place-preserved
loop-place-preserved c =
    let rules = c.rules-rules.result.now in
    let a = c.args.places.start in
    let n = c.loop-place.place in
    let from : a ≤ n = c.loop-place.auto.place in
    let here : n ≡ a + (n - a) = omega (arith, from) in
    let next : n + 1 - a ≡ (n - a) + 1 = omega (arith, from) in
    record {
      found = more_overlaps (overlaps_of_rule rules) [] c.loop-place.found.items c.add_overlaps_of.new.found.items a
          (n - a) n c.loop-place.invariant.found c.in_ok-add_overlaps_of.ensures here
          ∙ ap (λ k. flat_map (overlaps_of_rule rules) (range_with_len a k)) (sym next);
      reach = inl (let within = c.loop-place-test.true in omega (arith, within));
    }

pub returns-clause-overlaps : goal.returns-clause-overlaps
returns-clause-overlaps c =
    let rules = c.rules-rules.result.now in
    let a = c.args.places.start in
    let n = c.loop-place.place in
    let from : a ≤ n = c.loop-place.auto.place in
    let least = c.min-end.ensures in
    let ended = c.loop-place-test.false in
    all_listed rules _ a (n - a) c.args.places.end c.loop-place.found.items
    (c.rules-rules.ensures ∙ ap rules_of c.program.ensures)
    (elim c.loop-place.invariant.reach as (λ _. (a + (n - a) ≤ c.args.places.end) ⊎ (n - a ≡ 0))
    [ inl e ↦ inl (omega (arith, e, from, least)) | inr e ↦ inr (omega (arith, e)) ])
    (λ i l m within. omega (arith, l, m, within, least, ended, from)) c.loop-place.invariant.found

pub returns-clause-few : goal.returns-clause-few
returns-clause-few c =
    let rules = ap length (c.rules-rules.ensures ∙ ap rules_of c.program.ensures) in
    let most = few_rules (program_of c.args.weighed.now) in
    let a = c.args.places.start in
    let n = c.loop-place.place in
    let least = c.min-end.ensures in
    let few = few_overlaps c.rules-rules.result.now a (n - a) (omega (arith, rules, most)) in
    let is = ap length c.loop-place.invariant.found in
    let reach : n - a ≤ c.args.places.end - a = elim c.loop-place.invariant.reach as (λ _.
    n - a ≤ c.args.places.end - a) [ inl e ↦ omega (arith, e, least) | inr e ↦ omega (arith, e) ] in
    omega (arith, few, is, reach)
