use Rattle.std.proofs.Common.{◌≡◌, ◌<◌, length, get_or, ap, ◌∙◌, arith}
use Rattle.chr_base.specs.Rules.{heads_of, no_pattern}
use Rattle.chr_overlaps.proofs.Numbering.{place_numbered, place_counted}
use Rattle.chr_overlaps.proofs.numbered.variables.Goals as goal

pub count_in_terms-count-requires-clause-numbered : goal.count_in_terms-count-requires-clause-numbered
count_in_terms-count-requires-clause-numbered c =
    let l : c.loop-place.place < length (heads_of c.args.rule.now) =
    (let p = c.places-place-end.ensures.places in let t = c.loop-place-test.true in omega (arith, p, t)) in
    let is : c.deref.result.now ≡ (get_or (heads_of c.args.rule.now) c.loop-place.place no_pattern).args.items =
    c.deref.ensures.0 ∙ ap (λ p. p.args.items) c.head_at.ensures in
    rw is (place_numbered c.args.rule.now c.loop-place.place c.loop-place.count l c.loop-place.invariant.same)

pub loop-place-preserved : goal.loop-place-preserved
loop-place-preserved c =
    let l : c.loop-place.place < length (heads_of c.args.rule.now) =
    (let p = c.places-place-end.ensures.places in let t = c.loop-place-test.true in omega (arith, p, t)) in
    let is : c.deref.result.now ≡ (get_or (heads_of c.args.rule.now) c.loop-place.place no_pattern).args.items =
    c.deref.ensures.0 ∙ ap (λ p. p.args.items) c.head_at.ensures in
    record {
      same = place_counted c.args.rule.now c.loop-place.place c.loop-place.count c.count_in_terms-count.result l
          c.loop-place.invariant.same (rw is at c.count_in_terms-count.ensures.number);
      most = (let m = c.count_in_terms-count.ensures.most in let f = c.deref.ensures.1 in let p =
          c.loop-place.invariant.most in omega (arith, m, f, p));
    }
