-- The verdict as a walk over portions of overlaps finds it.
use Rattle.std.specs.Prelude.{◌≡◌, ℕ, ◌+◌, ◌*◌, ◌^◌, ◌<◌, ◌≤◌, List, [], ◌∷◌, ◌++◌, length, take, drop, get_or}
use Rattle.std.specs.List.{All}
use Rattle.std.proofs.Common.{refl, sym, ap, subst, ◌∙◌, arith, append_assoc, length-append}
use Rattle.std.proofs.lemmas.List.Elements.{All-append, All-nil}
use Rattle.chr_base.specs.declared.limits.TheConstants.{MAX_RULES}
use Rattle.chr_base.specs.declared.rule.Rule.{Rule}
use Rattle.chr_overlaps.specs.declared.overlap.Overlap.{Overlap}
use Rattle.chr_overlaps.specs.OverlapLists.{IsOverlapOf, AreOverlaps, AreOverlapsBetween}
use Rattle.chr_overlaps.proofs.Between.{joined, of_all, part_there}
use Rattle.chr_join.specs.declared.coverage.Coverage.{Coverage}
use Rattle.chr_join.specs.declared.portions.Portion.{Portion}
use Rattle.chr_join.specs.declared.refused.Cause.{Cause}
use Rattle.chr_join.specs.Explanations.{IsRefusalBy}
use Rattle.chr_join.specs.Verdicts.{HaveJoinableCasesBy, IsAcceptedBy}
use Rattle.chr_join.specs.working.Checking.{Joins, RefusesAt}
use Rattle.chr_join.specs.working.Portions.{IsPortion, HaveJoined, RefusesIn, IsSettled, HaveSettled, MOST_OF_RULE}
use Rattle.chr_join.proofs.Lists.{from_each, split_at}
use Rattle.chr_join.proofs.Verdicts.{all_few, each_joinable}

none_between : (rules : List Rule) → AreOverlapsBetween rules 0 0 []
none_between rules = record { each = λ o i. elim i [ ]; all = λ o h l m. absurd (omega (arith, l, m)); rise = tt }

-- before the first rule there is nothing
pub none_joined : (coverage : Coverage) (rules : List Rule) → HaveJoined coverage rules 0 0
none_joined coverage rules = record { overlaps = []; listed = none_between rules; few = omega arith; joinable = refl }

pub none_settled : (rules : List Rule) → HaveSettled rules 0
none_settled rules = ([], none_between rules, All-nil (IsSettled rules))

-- the overlaps of a portion are some of the rules'
pub portion_overlaps : (rules : List Rule) (a : ℕ) (p : Portion) → IsPortion rules a p
    → All (IsOverlapOf rules) p.overlaps.items
portion_overlaps rules a p is = from_each (IsOverlapOf rules) p.overlaps.items (λ o i. (is.listed.each o i).0)

pub portion_few : (rules : List Rule) (a : ℕ) (p : Portion) → length rules ≤ MAX_RULES → IsPortion rules a p
    → length p.overlaps.items ≤ MAX_RULES * MOST_OF_RULE
portion_few rules a p most is = let few = is.few in let within = is.within in omega (arith, few, within, most)

joinable_both : (coverage : Coverage) (rules : List Rule) (os ps : List Overlap) (n k : ℕ)
    → HaveJoinableCasesBy coverage rules os n → HaveJoinableCasesBy coverage rules ps k
    → HaveJoinableCasesBy coverage rules (os ++ ps) (n + k)
joinable_both coverage rules [] ps n k h g = let none : k ≡ n + k = omega (arith, h) in
    subst (HaveJoinableCasesBy coverage rules ps) none g
joinable_both coverage rules (o ∷ os) ps n k h g = let e = h.4 in
    (h.0, h.1 + k, h.2, joinable_both coverage rules os ps h.1 k h.3 g, omega (arith, e))

-- one portion more
pub portion_joined : (coverage : Coverage) (rules : List Rule) (a total k : ℕ) (p : Portion)
    → HaveJoined coverage rules a total → IsPortion rules a p → HaveJoinableCasesBy coverage rules p.overlaps.items k
    → HaveJoined coverage rules p.end (total + k)
portion_joined coverage rules a total k p h is more =
    let begins = is.begins in
    let one = h.few in
    let two = is.few in
    let both = length-append h.overlaps p.overlaps.items in
    record {
      overlaps = h.overlaps ++ p.overlaps.items;
      listed = joined rules 0 a p.end h.overlaps p.overlaps.items (omega arith)
          (omega (arith, begins)) h.listed is.listed;
      few = omega (arith, one, two, both, begins);
      joinable = joinable_both coverage rules h.overlaps p.overlaps.items total k h.joinable more;
    }

pub portion_settled : (rules : List Rule) (a : ℕ) (p : Portion) → HaveSettled rules a → IsPortion rules a p
    → All (IsSettled rules) p.overlaps.items → HaveSettled rules p.end
portion_settled rules a p h is more =
    let begins = is.begins in (
      h.0 ++ p.overlaps.items,
      joined rules 0 a p.end h.0 p.overlaps.items (omega arith) (omega (arith, begins)) h.1 is.listed,
      All-append (IsSettled rules) h.0 p.overlaps.items h.2 more,
    )

-- the number of all cases has 64 bits
pub portion_fits : (coverage : Coverage) (rules : List Rule) (a total k : ℕ) (p : Portion) → length rules ≤ MAX_RULES
    → HaveJoined coverage rules a total → IsPortion rules a p → HaveJoinableCasesBy coverage rules p.overlaps.items k
    → total + k < 2 ^ 64
portion_fits coverage rules a total k p most h is more =
    let all = portion_joined coverage rules a total k p h is more in
    let few = all_few coverage rules all.overlaps (total + k) all.joinable in
    let number = all.few in
    let within = is.within in
    omega (arith, few, number, within, most)

-- where no rule is left, the rules are accepted
pub all_joined : (coverage : Coverage) (rules : List Rule) (n total : ℕ) → length rules ≤ n
    → HaveJoined coverage rules n total → IsAcceptedBy coverage rules total
all_joined coverage rules n total most h = record {
  overlaps = h.overlaps;
  listed =
      of_all rules n h.overlaps most h.listed;
  joinable = h.joinable;
}

-- a portion that has a cause for which the rules are refused
pub portion_refuses : (coverage : Coverage) (rules : List Rule) (a total : ℕ) (p : Portion) (e : Cause)
    → HaveJoined coverage rules a total → IsPortion rules a p → RefusesIn coverage rules p.overlaps.items e
    → IsRefusalBy coverage rules e
portion_refuses coverage rules a total p e h is refuses =
    let rest = part_there rules p.end in
    let begins = is.begins in
    let after = joined rules a p.end (length rules) p.overlaps.items rest.0 (omega (arith, begins)) is.within is.listed
    rest.1 in
    let within = is.within in
    let all = joined rules 0 a (length rules) h.overlaps (p.overlaps.items ++ rest.0) (omega arith)
    (omega (arith, begins, within)) h.listed after in
    refuses h.overlaps rest.0 (of_all rules (length rules) (h.overlaps ++ (p.overlaps.items ++ rest.0))
    (omega arith) all) (each_joinable coverage rules h.overlaps total h.joinable)

-- where the first overlap with a cause is one of a portion, the portion has that cause
pub refuses_in : (coverage : Coverage) (rules : List Rule) (os : List Overlap) (i : ℕ) (o : Overlap) (n : ℕ) (e : Cause)
    → HaveJoinableCasesBy coverage rules (take i os) n → i < length os → o ≡ get_or os i o
    → RefusesAt coverage rules o e → RefusesIn coverage rules os e
refuses_in coverage rules os i o n e h l at refuses before after are joinable =
    refuses (record {
      before = before ++ take i os;
      after = drop (i + 1) os ++ after;
      listed = subst (AreOverlaps rules) (ap (λ ps. before ++ (ps ++ after)) (sym (split_at os i o l at))
          ∙ ap (λ ps. before ++ ps) (append_assoc (take i os) (o ∷ drop (i + 1) os) after)
          ∙ sym (append_assoc before (take i os) (o ∷ (drop (i + 1) os ++ after)))) are;
      joinable = All-append (Joins coverage rules) before (take i os) joinable
          (each_joinable coverage rules (take i os) n h);
    })
