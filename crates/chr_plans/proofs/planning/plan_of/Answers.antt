use Rattle.std.proofs.Common.{◌<◌, ◌∷◌, ◌++◌, [], length, ap, ◌∙◌, arith}
use Rattle.chr_base.specs.Rules.{heads_of}
use Rattle.chr_base.specs.declared.limits.TheConstants.{MAX_HEADS}
use Rattle.chr_plans.specs.Planning.{IsLongest}
use Rattle.chr_base.proofs.Instances.{heads_few}
use Rattle.chr_plans.proofs.Distinct.{distinct_one, distinct_more, places_more}
use Rattle.chr_plans.proofs.Making.{room, places_push, longest_more, is_plan}
use Rattle.chr_plans.proofs.planning.plan_of.Goals as goal

pub loop-partner-init : goal.loop-partner-init
loop-partner-init c = rw (c.push.ensures.items, c.new-known.ensures, c.new-partners.ensures) (record {
  known = λ i. c.args.place ∷ [];
  distinct = distinct_one c.args.place;
  places = (c.requires, tt);
  longest = λ j l h e. (absurd (omega (arith, h)));
})

pub push-requires-in-Some : goal.push-requires-in-Some
push-requires-in-Some c =
    let next : IsLongest c.args.rule.now c.loop-partner.known.items (length (heads_of c.args.rule.now))
    c.in-Some.partner = rw c.deref.ensures.0 at c.in-Some.ensures in
    let n = room c.args.rule.now c.loop-partner.known.items c.in-Some.partner c.loop-partner.invariant.distinct
    c.loop-partner.invariant.places next in
    let m = heads_few c.args.rule.now in
    let l : length c.loop-partner.known.items < MAX_HEADS = omega (arith, n, m) in
    (omega arith, l)

pub loop-partner-smaller : goal.loop-partner-smaller
loop-partner-smaller c =
    let next : IsLongest c.args.rule.now c.loop-partner.known.items (length (heads_of c.args.rule.now))
    c.in-Some.partner = rw c.deref.ensures.0 at c.in-Some.ensures in
    let n = room c.args.rule.now c.loop-partner.known.items c.in-Some.partner c.loop-partner.invariant.distinct
    c.loop-partner.invariant.places next in
    let e = c.push-in-Some.ensures.len in
    omega (arith, n, e)

pub loop-partner-preserved : goal.loop-partner-preserved
loop-partner-preserved c =
    let next : IsLongest c.args.rule.now c.loop-partner.known.items (length (heads_of c.args.rule.now))
    c.in-Some.partner = rw c.deref.ensures.0 at c.in-Some.ensures in
    rw (c.push-in-Some.ensures.items, c.push-in-Some-2.ensures.items) (record {
      known = ap (λ xs. xs ++ c.in-Some.partner.place ∷ []) c.loop-partner.invariant.known
          ∙ places_push c.args.place c.loop-partner.partners.items c.in-Some.partner;
      distinct = distinct_more c.loop-partner.known.items c.in-Some.partner.place c.loop-partner.invariant.distinct
          next.new;
      places = places_more c.args.rule.now c.loop-partner.known.items c.in-Some.partner.place
          c.loop-partner.invariant.places next.within;
      longest = longest_more c.args.rule.now c.args.place c.loop-partner.partners.items c.in-Some.partner
          c.loop-partner.invariant.longest (rw c.loop-partner.invariant.known at next);
    })

pub returns-clause-plan : goal.returns-clause-plan
returns-clause-plan c =
    let known = c.loop-partner.invariant.known in
    is_plan c.args.rule.now c.args.place c.loop-partner.partners.items c.loop-partner.invariant.longest
    (rw known at c.loop-partner.invariant.distinct) (rw known at c.loop-partner.invariant.places)
    (rw (c.in_default.is, c.deref.ensures.0, known) at c.next_partner.ensures)
