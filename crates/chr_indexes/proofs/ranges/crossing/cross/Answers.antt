use Rattle.std.proofs.Common.{◌<◌, ◌∙◌, arith, refl}
use Rattle.chr_indexes.proofs.ranges.crossing.cross.Goals as goal

pub loop-at-init : goal.loop-at-init
loop-at-init c = record {
  left = refl;
  right = refl;
  within = omega arith;
  wanted = c.requires;
  none = λ r l v w. l;
}

pub returns-then-other-at-clause-none_between : goal.returns-then-other-at-clause-none_between
returns-then-other-at-clause-none_between c =
    let between = rw c.loop-at.invariant.right at c.place_at_or_below-other.ensures.none_between in
    λ r l v w. (let a = c.loop-at.invariant.none r l v w in between r (omega (arith, a)) w)

pub loop-at-preserved : goal.loop-at-preserved
loop-at-preserved c =
    let rights = rw c.loop-at.invariant.right at c.place_at_or_below-other.ensures.none_between in
    let lefts = rw c.loop-at.invariant.left at c.place_at_or_below-at.ensures.none_between in
    let some = c.loop-at-test.true in
    let from = c.loop-at.invariant.within in
    let first = c.place_at_or_below-other.ensures.within in
    let second = c.place_at_or_below-at.ensures.within in
    record {
      left = c.place_at_or_below-at.ensures.same ∙ c.loop-at.invariant.left;
      right = c.place_at_or_below-other.ensures.same ∙ c.loop-at.invariant.right;
      within = (let other = c.if-other-eq0.false in omega (arith, some, from, first, second, other));
      wanted = rw c.loop-at.invariant.left at c.place_at_or_below-at.ensures.wanted;
      none = λ r l v w. (
          let a = c.loop-at.invariant.none r l v w in
          let b : r < c.place_at_or_below-other.result = rights r (omega (arith, a)) w in
          lefts r (omega (arith, b)) v);
    }

pub returns-clause-none_between : goal.returns-clause-none_between
returns-clause-none_between c = λ r l v w. (let a = c.loop-at.invariant.none r l v w in let f = c.loop-at-test.false in
    omega (arith, a, f))
