-- Rules without their names. No instance, step, overlap or constant of a rule hangs on its name.
--     unnamed r        the rule r without its name
use Rattle.std.specs.Prelude.{◌≡◌, ℕ, zero, suc, ℤ, true, ◌&&◌, nat_le, List, [], ◌∷◌, ◌++◌, map, length, None, Some}
use Rattle.std.specs.Prelude.{option_map, slice_get}
use Rattle.std.proofs.Common.{refl, sym, ap, subst, ◌∙◌, arith}
use Rattle.std.proofs.lemmas.Bool.{and_from, and_parts}
use Rattle.std.proofs.lemmas.Option.{none-some, same_Some, slice_get-map}
use mathlib.Core.Bool.{Bool-set}
use mathlib.Core.HLevel.{Σ_prop_path}
use Rattle.chr_base.specs.declared.term.Comparison.{Comparison}
use Rattle.chr_base.specs.declared.term.Pattern.{Pattern}
use Rattle.chr_base.specs.declared.rule.Rule.{Rule}
use Rattle.chr_base.specs.Names.{is_label}
use Rattle.chr_base.specs.RuleTests.{is_in_bounds, is_rule}
use Rattle.chr_base.proofs.Instances.{few_rule, valued_rule}
use Rattle.chr_base.specs.Rules.{Step, StepBy, Valuation, heads_of}
use Rattle.chr_base.specs.Rewriting.{Runs, IsAtRest, IsNormalForm}
use Rattle.chr_base.specs.Stores.{Store}
use Rattle.chr_confluence.specs.Overlaps.{IsMatching, IsOverlap}
use Rattle.chr_confluence.specs.Constants.{HasConstant, IsConstantOf, AreConstants}
use Rattle.chr_base.specs.Sameness.{Parts, parts_of}

-- without a name the rule keeps within its bounds
pub bounds : (r : Rule) → is_in_bounds None (heads_of r) r.guard.items r.body.items ≡ true
unfolding is_in_bounds
bounds r =
    let name = is_label (option_map (λ n. n.bytes) r.name) in
    let guard = (and_parts name _ ((and_parts _ (nat_le (length r.body.items) 8) (few_rule r)).0)).1 in
    let body = (and_parts (name && nat_le (length r.guard.items) 8) _ (few_rule r)).1 in
    and_from _ _ (and_from _ _ guard body) (valued_rule r)

abbrev pub unnamed : Rule → Rule
unnamed r = record {
  name = None;
  kept = r.kept;
  removed = r.removed;
  guard = r.guard;
  body = r.body;
  well_formed =
      r.well_formed;
  bounded = bounds r;
}

-- the parts of a rule but for its name, and what it keeps of them
record UnnamedParts : Type 0 where
  kept : List Pattern
  removed : List Pattern
  guard : List Comparison
  body : List Pattern

abbrev Keeps : UnnamedParts → Type 0
Keeps p = (is_rule p.kept p.removed p.guard p.body ≡ true)
    × (is_in_bounds None (p.kept ++ p.removed) p.guard p.body ≡ true)

Keeps-prop : (p : UnnamedParts) → IsProp (Keeps p)
Keeps-prop p = hlevel Bool-set

abbrev unnamed_parts : Rule → (p : UnnamedParts) × Keeps p
unnamed_parts r = (
  record {
    kept = r.kept.items;
    removed = r.removed.items;
    guard = r.guard.items;
    body =
        r.body.items;
  },
  (r.well_formed, bounds r),
)

-- rules of one meaning are one without their names
pub one_unnamed : (r s : Rule) → parts_of r ≡ parts_of s → unnamed r ≡ unnamed s
one_unnamed r s e =
    let parts : (unnamed_parts r).0 ≡ (unnamed_parts s).0 =
    λ i. record { kept = (e i).kept; removed = (e i).removed; guard = (e i).guard; body = (e i).body } in
    let pairs : unnamed_parts r ≡ unnamed_parts s = Σ_prop_path Keeps-prop parts in
    λ i. record {
      name = None;
      kept = record { items = (pairs i).0.kept };
      removed = record { items = (pairs i).0.removed };
      guard = record { items = (pairs i).0.guard };
      body = record { items = (pairs i).0.body };
      well_formed = (pairs i).1.0;
      bounded = (pairs i).1.1;
    }

pub all_unnamed : (rs ss : List Rule) → map parts_of rs ≡ map parts_of ss → map unnamed rs ≡ map unnamed ss
all_unnamed [] [] e = refl
all_unnamed [] (s ∷ ss) e = absurd (let l : zero ≡ suc (length (map parts_of ss)) = ap length e in omega (arith, l))
all_unnamed (r ∷ rs) [] e = absurd (let l : suc (length (map parts_of rs)) ≡ zero = ap length e in omega (arith, l))
all_unnamed (r ∷ rs) (s ∷ ss) e =
    let first = one_unnamed r s (ap (head_or (parts_of r)) e) in
    let rest = all_unnamed rs ss (ap tail_of e) in
    λ i. first i ∷ rest i
  where
    head_or : Parts → List Parts → Parts
    head_or d [] = d
    head_or d (x ∷ xs) = x

    tail_of : List Parts → List Parts
    tail_of [] = []
    tail_of (x ∷ xs) = xs

-- ---- places

pub at_unnamed : (rules : List Rule) (i : ℕ) (r : Rule) → slice_get rules i ≡ Some r → slice_get (map unnamed rules) i
    ≡ Some (unnamed r)
at_unnamed rules i r h = slice_get-map unnamed rules i ∙ ap (option_map unnamed) h

pub from_unnamed : (rules : List Rule) (i : ℕ) (x : Rule) → slice_get (map unnamed rules) i ≡ Some x → (r : Rule)
    × (slice_get rules i ≡ Some r) × (unnamed r ≡ x)
from_unnamed [] i x h = absurd (none-some x h)
from_unnamed (r ∷ rules) zero x h = (r, refl, same_Some (unnamed r) x h)
from_unnamed (r ∷ rules) (suc i) x h = from_unnamed rules i x h

-- ---- steps

pub by_unnamed : (r : Rule) (v : Valuation) (s t : Store) → StepBy r v s t → StepBy (unnamed r) v s t
by_unnamed r v s t h = record { guard = h.guard; there = h.there; after = h.after }

pub by_named : (r : Rule) (v : Valuation) (s t : Store) → StepBy (unnamed r) v s t → StepBy r v s t
by_named r v s t h = record { guard = h.guard; there = h.there; after = h.after }

step_unnamed : (rules : List Rule) (s t : Store) → Step rules s t → Step (map unnamed rules) s t
step_unnamed rules s t h = (h.0, unnamed h.1, h.2, at_unnamed rules h.0 h.1 h.3, by_unnamed h.1 h.2 s t h.4)

step_named : (rules : List Rule) (s t : Store) → Step (map unnamed rules) s t → Step rules s t
step_named rules s t h = let r = from_unnamed rules h.0 h.1 h.3 in
    (h.0, r.0, h.2, r.1, by_named r.0 h.2 s t (subst (λ x. StepBy x h.2 s t) (sym r.2) h.4))

runs_unnamed : (rules : List Rule) (n : ℕ) (s t : Store) → Runs (Step rules) n s t
    → Runs (Step (map unnamed rules)) n s t
runs_unnamed rules zero s t h = h
runs_unnamed rules (suc n) s t h = (h.0, step_unnamed rules s h.0 h.1, runs_unnamed rules n h.0 t h.2)

pub rest_unnamed : (rules : List Rule) (t : Store) → IsAtRest (Step rules) t → IsAtRest (Step (map unnamed rules)) t
rest_unnamed rules t h u step = h u (step_named rules t u step)

pub normal_unnamed : (rules : List Rule) (s t : Store) → IsNormalForm (Step rules) s t
    → IsNormalForm (Step (map unnamed rules)) s t
normal_unnamed rules s t h = ((h.0.0, runs_unnamed rules h.0.0 s t h.0.1), rest_unnamed rules t h.1)

-- ---- overlaps and constants

matching_unnamed : (r1 r2 : Rule) (m : List ℕ) → IsMatching r1 r2 m → IsMatching (unnamed r1) (unnamed r2) m
matching_unnamed r1 r2 m h = record { symbols = h.symbols; apart = h.apart; touching = h.touching }

matching_named : (r1 r2 : Rule) (m : List ℕ) → IsMatching (unnamed r1) (unnamed r2) m → IsMatching r1 r2 m
matching_named r1 r2 m h = record { symbols = h.symbols; apart = h.apart; touching = h.touching }

pub overlap_unnamed : (rules : List Rule) (i j : ℕ) (m : List ℕ) → IsOverlap rules i j m
    → IsOverlap (map unnamed rules) i j m
overlap_unnamed rules i j m h = record {
  rule1 = unnamed h.rule1;
  rule2 = unnamed h.rule2;
  first = at_unnamed rules i h.rule1 h.first;
  second = at_unnamed rules j h.rule2 h.second;
  ordered = h.ordered;
  matching = matching_unnamed h.rule1 h.rule2 m h.matching;
}

pub overlap_named : (rules : List Rule) (i j : ℕ) (m : List ℕ) → IsOverlap (map unnamed rules) i j m
    → IsOverlap rules i j m
overlap_named rules i j m h =
    let r = from_unnamed rules i h.rule1 h.first in
    let s = from_unnamed rules j h.rule2 h.second in
    record {
      rule1 = r.0;
      rule2 = s.0;
      first = r.1;
      second = s.1;
      ordered = h.ordered;
      matching = matching_named r.0 s.0 m (subst (λ x. IsMatching (unnamed r.0) x m) (sym s.2)
          (subst (λ x. IsMatching x h.rule2 m) (sym r.2) h.matching));
    }

constant_unnamed : (rules : List Rule) (c : ℤ) → IsConstantOf rules c → IsConstantOf (map unnamed rules) c
constant_unnamed rules c h = (h.0, unnamed h.1, at_unnamed rules h.0 h.1 h.2, h.3)

constant_named : (rules : List Rule) (c : ℤ) → IsConstantOf (map unnamed rules) c → IsConstantOf rules c
constant_named rules c h = let r = from_unnamed rules h.0 h.1 h.2 in
    (h.0, r.0, r.1, subst (λ x. HasConstant x c) (sym r.2) h.3)

pub constants_unnamed : (rules : List Rule) (cs : List ℤ) → AreConstants rules cs → AreConstants (map unnamed rules) cs
constants_unnamed rules cs h = record {
  rise = h.rise;
  stand = λ c i. constant_unnamed rules c (h.stand c i);
  all =
      λ c k. h.all c (constant_named rules c k);
}
