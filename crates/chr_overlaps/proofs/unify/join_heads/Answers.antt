use Rattle.std.proofs.Common.{◌≡◌, ◌+◌, ◌<◌, length, get_or, Some, None, sym, ap, ◌∙◌, arith}
use Rattle.chr_base.specs.Rules.{heads_of}
use Rattle.chr_confluence.specs.working.Solving.{solve}
use Rattle.chr_overlaps.specs.working.Tables.{class_in}
use Rattle.chr_overlaps.proofs.Solutions.{rest_of, pairs_at, places_there, rest_unmatched, rest_matched, solved_first}
use Rattle.chr_overlaps.proofs.Solutions.{first_clash}
use Rattle.chr_overlaps.proofs.unify.join_heads.Goals as goal
use Rattle.chr_overlaps.proofs.unify.join_heads.Goals.{else-entry-gt0-via-then-entry-gt0+else-not-join_at}
use Rattle.chr_overlaps.proofs.unify.join_heads.Goals.{else-entry-gt0-via-else-entry-gt0}

pub join_at-requires-clause-place : goal.join_at-requires-clause-place
join_at-requires-clause-place c = (places_there _ c.args.matching.now _ c.loop-place.place c.requires.symbols
    c.loop-place-test.true).0

pub join_at-requires-clause-matched : goal.join_at-requires-clause-matched
join_at-requires-clause-matched c =
    let e : c.from-entry.result ≡ get_or c.args.matching.now c.loop-place.place 0 = c.from-entry.ensures in
    rw e ((places_there _ c.args.matching.now _ c.loop-place.place c.requires.symbols c.loop-place-test.true).1
    (let t = c.if-entry-gt0.true in omega (arith, e, t)))

pub returns-then-not-join_at-clause-classes : goal.returns-then-not-join_at-clause-classes
returns-then-not-join_at-clause-classes c =
    let qs = heads_of c.args.second.now in
    let ps = heads_of c.args.first.now in
    let m = c.args.matching.now in
    let e : c.from-entry.result ≡ get_or m c.loop-place.place 0 = c.from-entry.ensures in
    let g : 0 < get_or m c.loop-place.place 0 = (let t = c.if-entry-gt0.true in omega (arith, e, t)) in
    let there = places_there qs m ps c.loop-place.place c.requires.symbols c.loop-place-test.true in
    let next = rest_matched c.args.shift qs m ps c.loop-place.place c.loop-place-test.true there.0 g in
    let clash : None ≡ solve (class_in c.loop-place.classes.terms.items)
    (pairs_at c.args.shift qs m ps c.loop-place.place) = rw e at c.if-not-join_at.ensures.classes in
    sym (first_clash (class_in c.loop-place.classes.terms.items) (pairs_at c.args.shift qs m ps c.loop-place.place)
    (rest_of c.args.shift qs m ps (c.loop-place.place + 1)) clash)
    ∙ ap (solve (class_in c.loop-place.classes.terms.items)) (sym next) ∙ c.loop-place.invariant.same

pub loop-place-preserved : goal.loop-place-preserved
loop-place-preserved c =
    let qs = heads_of c.args.second.now in
    let ps = heads_of c.args.first.now in
    let m = c.args.matching.now in
    let e : c.from-entry.result ≡ get_or m c.loop-place.place 0 = c.from-entry.ensures in
    let there = places_there qs m ps c.loop-place.place c.requires.symbols c.loop-place-test.true in
    elim c.else-entry-gt0.branch [
      | else-entry-gt0-via-then-entry-gt0+else-not-join_at w ↦
          let g : 0 < get_or m c.loop-place.place 0 = (let t = w.if-entry-gt0.true in omega (arith, e, t)) in
          let next = rest_matched c.args.shift qs m ps c.loop-place.place c.loop-place-test.true there.0 g in
          let σ = class_in c.loop-place.classes.terms.items in
          let τ = class_in w.join_at.new.classes.terms.items in
          let one : Some τ ≡ solve σ (pairs_at c.args.shift qs m ps c.loop-place.place) =
          rw e at w.if-not-join_at.ensures.classes in
          record {
            same = ap (λ k. solve (class_in k.terms.items) (rest_of c.args.shift qs m ps (c.loop-place.place + 1)))
                w.classes-is
                ∙ sym (solved_first σ τ (pairs_at c.args.shift qs m ps c.loop-place.place)
                (rest_of c.args.shift qs m ps (c.loop-place.place + 1)) one) ∙ ap (solve σ) (sym next)
                ∙ c.loop-place.invariant.same;
            len = ap (λ k. length k.terms.items) w.classes-is ∙ w.if-not-join_at.ensures.len
                ∙ c.loop-place.invariant.len;
          }
      | else-entry-gt0-via-else-entry-gt0 w ↦
          let z : get_or m c.loop-place.place 0 ≡ 0 = (let t = w.if-entry-gt0.false in omega (arith, e, t)) in
          record {
            same = ap (λ k. solve (class_in k.terms.items) (rest_of c.args.shift qs m ps (c.loop-place.place + 1)))
                w.classes-is
                ∙ ap (solve (class_in c.loop-place.classes.terms.items))
                (sym (rest_unmatched c.args.shift qs m ps c.loop-place.place c.loop-place-test.true there.0 z))
                ∙ c.loop-place.invariant.same;
            len = ap (λ k. length k.terms.items) w.classes-is ∙ c.loop-place.invariant.len;
          }
    ]
