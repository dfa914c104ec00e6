use Rattle.std.proofs.Common.{rules, ◌≡◌, ◌<◌, ◌≤◌, length, get_or, refl, sym, ◌∙◌, arith}
use mathlib.Core.Bool.{true≢false}
use Rattle.chr_base.specs.Atoms.{atom_cmp}
use Rattle.chr_base.specs.FinBag.{count_in}
use Rattle.chr_base.specs.Stores.{count, stores_sum}
use Rattle.chr_columns.proofs.Removals.{all_within, too_few}
use Rattle.chr_shards.specs.working.Placed.{place_in}
use Rattle.chr_shards.proofs.Places.{counted_here, each_next}
use Rattle.chr_shards.proofs.pools.have_each.Goals as goal

pub returns-then-not-has_as_often : goal.returns-then-not-has_as_often
returns-then-not-has_as_often c =
    let ss = c.args.pools.now in
    let a = c.atom-item.result in
    let k = c.place-place.result in
    let s = c.index-pools-place.result in
    let within : k < length ss = search rules in
    let here : s ≡ get_or ss k s = search rules in
    let is : k ≡ place_in c.args.placing.now (length ss) a = search rules in
    let same = counted_here c.args.placing.now ss k s a c.requires.placed within here is in
    let wanted = c.count_of.ensures.value in (
      λ h. absurd (true≢false (sym h)),
      λ all. absurd (too_few (stores_sum ss) c.args.atoms.now a
          (λ most. true≢false (sym (c.has_as_often.ensures.1 (omega (arith, same, wanted, most)))
          ∙ c.if-not-has_as_often.true)) all),
    )

pub loop-atom-preserved : goal.loop-atom-preserved
loop-atom-preserved c =
    let ss = c.args.pools.now in
    let a = c.atom-item.result in
    let k = c.place-place.result in
    let s = c.index-pools-place.result in
    let within : k < length ss = search rules in
    let here : s ≡ get_or ss k s = search rules in
    let is : k ≡ place_in c.args.placing.now (length ss) a = search rules in
    let there : c.loop-atom.atom-index < length c.args.atoms.now = search rules in
    let item : a ≡ get_or c.args.atoms.now c.loop-atom.atom-index a = search rules in
    let same = counted_here c.args.placing.now ss k s a c.requires.placed within here is in
    let wanted = c.count_of.ensures.value in
    let enough = c.has_as_often.ensures.0 c.if-not-has_as_often.false in
    each_next (λ b. count_in atom_cmp b c.args.atoms.now ≤ count (stores_sum ss) b) c.args.atoms.now
    c.loop-atom.atom-index a there item c.loop-atom.invariant (omega (arith, same, wanted, enough))

pub returns : goal.returns
returns c = (
  λ _. all_within (stores_sum c.args.pools.now) c.args.atoms.now (λ i d h. c.loop-atom.invariant i d (omega arith)),
  λ _. refl,
)
