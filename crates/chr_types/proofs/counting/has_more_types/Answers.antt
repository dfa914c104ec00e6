use Rattle.std.proofs.Common.{◌↔◌, ℕ, ℤ, List, [], IsTrue, Bool, true, false, refl, sym, subst, ◌∙◌, arith}
use mathlib.Core.Bool.{true≢false}
use Rattle.std.proofs.lemmas.Bool.{OnTrue_at}
use Rattle.chr_types.specs.OrderTypes.{MoreTypesThan}
use Rattle.chr_types.specs.Representatives.{AreTypes}
use Rattle.chr_types.specs.Visits.{Visited}
use Rattle.chr_types.specs.working.Search.{lists_over, AreCandidates}
use Rattle.chr_types.specs.declared.visitors.LimitedCount.{LimitedCount}
use Rattle.chr_types.specs.declared.search.Candidate.{Candidate}
use Rattle.chr_types.proofs.ConstantLists.{many_constants}
use Rattle.chr_types.proofs.Counted.{Step, counted_past, counted_within, all_pass}
use Rattle.chr_types.proofs.Slots.{within_most}
use Rattle.chr_types.proofs.Passing.{walked_passes}
use Rattle.chr_types.proofs.Theorem.{lists_are}
use Rattle.chr_types.proofs.BesideFirst.{many_classes}
use Rattle.chr_types.proofs.TooMany.{more_types, not_more}
use Rattle.chr_types.proofs.Walking.{ok_then}
use Rattle.chr_types.proofs.counting.has_more_types.Goals as goal

pub returns-then-classes-gt-MAX_CLASSES : goal.returns-then-classes-gt-MAX_CLASSES
returns-then-classes-gt-MAX_CLASSES c = (
  λ _. many_classes c.args.limit c.args.classes c.args.constants.now
      c.ranges.limit.fits c.if-classes-gt-MAX_CLASSES.true,
  λ _. refl,
)

pub returns-then-are_many : goal.returns-then-are_many
returns-then-are_many c = (
  λ _. OnTrue_at c.if-are_many.true c.are_many.ensures c.args.constants.now,
  λ _. refl,
)

pub returns-then-has_more_lists : goal.returns-then-has_more_lists
returns-then-has_more_lists c = (
  λ _. many_constants c.args.limit c.args.classes c.args.constants.now c.requires.rising
      c.in_ok-candidates.ensures.values (OnTrue_at c.if-has_more_lists.true c.has_more_lists.ensures),
  λ _. refl,
)

told : (limit n : ℕ) (cs : List ℤ) (rs : List (List ℤ)) (w : LimitedCount) (b : Bool) → AreTypes n cs rs
    → Visited Step (record { found = 0; limit = limit }) rs b w → IsTrue b ↔ MoreTypesThan limit n cs
told limit n cs rs w true are v = (
  λ _. let l = counted_past rs (record { found = 0; limit = limit }) w v in
      more_types limit n cs rs are (omega (arith, l)),
  λ _. refl,
)
told limit n cs rs w false are v = (
  λ i. absurd (true≢false (sym i)),
  λ m. absurd (let l = counted_within rs (record { found = 0; limit = limit }) w (omega arith) v in
      not_more limit n cs rs are (omega (arith, l)) m),
)

pub returns : goal.returns
returns c =
    let cs = c.args.constants.now in
    let n = c.args.classes in
    let ks = c.deref.result.now in
    let are : AreTypes n cs (lists_over ks n [] []) = lists_are n cs ks
    (let l = c.if-classes-gt-MAX_CLASSES.false in omega (arith, l)) c.requires.rising
    c.in_ok-candidates.ensures.values (subst (λ (ps : List Candidate). AreCandidates n cs ps)
    (sym c.deref.ensures.value) c.in_ok-candidates.ensures.candidates) in
    ok_then c.walk.result _ _ (λ b x. told c.args.limit n cs (lists_over ks n [] []) c.walk.new.visitor b are
    (subst (λ rs. Visited Step (record { found = 0; limit = c.args.limit }) rs b c.walk.new.visitor)
    (walked_passes (λ _. true) ks n [] [] ∙ all_pass (lists_over ks n [] [])) x))
    (rw c.new-prefix.ensures.items at c.walk.ensures.visited)

pub returns-then-are_few : goal.returns-then-are_few
returns-then-are_few c = (
  λ i. absurd (true≢false (sym i)),
  λ more. absurd (within_most c.args.limit c.args.classes c.args.constants.now c.requires.rising c.if-are_few.ensures
      more),
)
