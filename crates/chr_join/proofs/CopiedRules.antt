-- Sorted cases of an overlap are those of its original, where copies of both rules make it.
use Rattle.std.specs.Prelude.{◌≡◌, ℕ, zero, suc, ◌+◌, ◌-◌, ◌<◌, ◌≤◌, ◌⊎◌, ℤ, List, [], ◌∷◌, ◌++◌, length, map, Bool}
use Rattle.std.specs.Prelude.{true, Option, Some, None, option_map, slice_get, get_or, take, drop}
use Rattle.std.specs.List.{All, filter}
use Rattle.std.proofs.Common.{eqb, length-append, refl, sym, ap, subst, ◌∙◌, arith, inl, inr}
use Rattle.std.proofs.lemmas.Bool.{cases_lt, eqb-true}
use Rattle.std.proofs.lemmas.List.{length-drop, length-take, get_or-take, get_or-drop}
use Rattle.std.proofs.lemmas.List.Elements.{All-cons, All-nil}
use Rattle.std.proofs.lemmas.Option.{none-some, same_Some, slice_get-get_or, slice_get-map, slice_get_read}
use Rattle.std.proofs.lemmas.Option.{slice_get_within}
use Rattle.chr_base.specs.declared.atom.Atom.{Atom}
use Rattle.chr_base.specs.declared.rule.Rule.{Rule}
use Rattle.chr_base.specs.contracts.rule.RulePartialEq.TheImpl.{eq-value}
use Rattle.chr_base.specs.Rules.{HasInstance, StepOn}
use Rattle.chr_base.specs.Sameness.{parts_of}
use Rattle.chr_base.proofs.SameRules.{parts_decide, pattern_decides, comparison_decides}
use Rattle.chr_base.specs.Stores.{Store}
use Rattle.chr_confluence.specs.Overlaps.{IsOverlap}
use Rattle.chr_confluence.specs.Representatives.{guards_hold}
use Rattle.chr_confluence.specs.Unifiers.{Substitution, IsMostGeneralUnifier, HasNoUnifier}
use Rattle.chr_confluence.specs.Sorts.{Sorts}
use Rattle.chr_confluence.specs.SortedCases.{all_equations}
use Rattle.chr_sorting.specs.FinestSorts.{AreFinest}
use Rattle.chr_rewrite.specs.Derivations.{LeadsTo}
use Rattle.chr_sorting.specs.SortedCaseLists.{AreSortedListed}
use Rattle.chr_overlaps.specs.declared.overlap.Overlap.{Overlap}
use Rattle.chr_overlaps.specs.declared.cases.Case.{Case}
use Rattle.chr_overlaps.specs.CaseLists.{case_at}
use Rattle.chr_overlaps.specs.OverlapLists.{IsOverlapOf, AreOverlaps}
use Rattle.chr_overlaps.proofs.Between.{of_all}
use Rattle.chr_join.specs.declared.coverage.Coverage.TheVariants.{Sorted}
use Rattle.chr_join.specs.Sides.{SideEnds, IsJoinable}
use Rattle.chr_join.specs.Verdicts.{IsAcceptedBy}
use Rattle.chr_join.specs.working.Checking.{Joins}
use Rattle.chr_join.specs.working.Portions.{AreCopies, AreOriginals, IsCopy, IsSettled, HaveSettled}
use Rattle.chr_join.proofs.Lists.{all_in, all_rest, from_each}
use Rattle.chr_join.proofs.UnnamedRules.{unnamed, one_unnamed, at_unnamed, from_unnamed, by_unnamed, by_named}
use Rattle.chr_join.proofs.UnnamedRules.{overlap_unnamed, overlap_named}
use Rattle.chr_join.proofs.Verdicts.{all_counted}

-- ---- rules that say the same

pub copies_unnamed : (rules : List Rule) (k i : ℕ) → AreCopies rules k i → slice_get (map unnamed rules) k
    ≡ slice_get (map unnamed rules) i
copies_unnamed rules k i same =
    slice_get-map unnamed rules k
    ∙ by (slice_get rules k) (slice_get rules i) (sym (slice_get-map parts_of rules k) ∙ same
    ∙ slice_get-map parts_of rules i)
    ∙ sym (slice_get-map unnamed rules i)
  where
    by : (a b : Option Rule) → option_map parts_of a ≡ option_map parts_of b → option_map unnamed a
        ≡ option_map unnamed b
    by None None e = refl
    by None (Some s) e = absurd (none-some (parts_of s) e)
    by (Some r) None e = absurd (none-some (parts_of r) (sym e))
    by (Some r) (Some s) e = ap Some (one_unnamed r s (same_Some (parts_of r) (parts_of s) e))

-- rules that the code's test finds equal are copies
pub equal_rules : (rules : List Rule) (k i : ℕ) (r s : Rule) (b : Bool) → k < length rules → i < length rules
    → r ≡ get_or rules k r → s ≡ get_or rules i s → b ≡ eq-value.it r s → b ≡ true → AreCopies rules k i
equal_rules rules k i r s b within there is_r is_s e t =
    let parts : parts_of r ≡ parts_of s = (parts_decide _ _ pattern_decides comparison_decides r s b e).0 t in
    slice_get-map parts_of rules k ∙ ap (option_map parts_of) (slice_get_read rules (length rules) k r refl within is_r)
    ∙ ap Some parts
    ∙ sym (slice_get-map parts_of rules i ∙ ap (option_map parts_of)
    (slice_get_read rules (length rules) i s refl there is_s))

-- ---- a step of a copy

module _ (rules : List Rule) where
  step_of_copy : (s t : Store) (heads : List Atom) (k l : ℕ) → 0 < l → slice_get (map unnamed rules) (k - 1)
      ≡ slice_get (map unnamed rules) (l - 1)
      → LeadsTo rules (record { rule = k; heads = record { items = heads } }) s t
      → LeadsTo rules (record { rule = l; heads = record { items = heads } }) s t
  step_of_copy s t heads k l numbered same step =
      let r = step.0.rule in
      let f = from_unnamed rules (l - 1) (unnamed r) (sym same ∙ at_unnamed rules (k - 1) r step.0.named) in
      let on : StepOn (unnamed r) heads s t = (step.1.0, step.1.1, by_unnamed r step.1.0 s t step.1.2) in
      let copied : StepOn (unnamed f.0) heads s t = subst (λ x. StepOn x heads s t) (sym f.2) on in (
        record {
          rule = f.0;
          numbered = numbered;
          named = f.1;
          instance = subst (λ x. HasInstance x heads) (sym f.2) step.0.instance;
          there = step.0.there;
        },
        (copied.0, copied.1, by_named f.0 copied.0 s t copied.2),
      )

  side_of_copy : (s t : Store) (heads : List Atom) (k l : ℕ) → 0 < l → slice_get (map unnamed rules) (k - 1)
      ≡ slice_get (map unnamed rules) (l - 1)
      → SideEnds rules s (record { rule = k; heads = record { items = heads } }) t
      → SideEnds rules s (record { rule = l; heads = record { items = heads } }) t
  side_of_copy s t heads k l numbered same side = (
    side.0,
    (side.1.0, step_of_copy s side.1.0 heads k l numbered same side.1.1, side.1.2),
  )

  -- ---- a case of a copy

  -- the same matching of rules that say the same
  record AreAlike (p o : Overlap) : Type 0 where
    first : slice_get (map unnamed rules) (p.first - 1) ≡ slice_get (map unnamed rules) (o.first - 1)
    second : slice_get (map unnamed rules) (p.second - 1) ≡ slice_get (map unnamed rules) (o.second - 1)
    matching : p.matching.items ≡ o.matching.items
    numbered : (0 < o.first) × (0 < o.second)

  case_of_copy : (p o : Overlap) → AreAlike p o → (r1 r2 : Rule) (σ : Substitution) (zs : List ℤ)
      → IsJoinable rules (case_at p r1 r2 σ zs) → IsJoinable rules (case_at o r1 r2 σ zs)
  case_of_copy p o like r1 r2 σ zs h =
      let here : IsJoinable rules (case_at (record p { matching = o.matching }) r1 r2 σ zs) =
      subst (λ m. IsJoinable rules (case_at (record p { matching = record { items = m } }) r1 r2 σ zs))
      like.matching h in
      record {
        end = here.end;
        left = side_of_copy _ here.end _ p.first o.first like.numbered.0 like.first here.left;
        right = side_of_copy _ here.end _ p.second o.second like.numbered.1 like.second here.right;
      }

  cases_of_copy : (p o : Overlap) → AreAlike p o → (r1 r2 : Rule) (σ : Substitution) (rs : List (List ℤ))
      → All (IsJoinable rules) (map (case_at p r1 r2 σ) rs) → All (IsJoinable rules) (map (case_at o r1 r2 σ) rs)
  cases_of_copy p o like r1 r2 σ [] all = All-nil (IsJoinable rules)
  cases_of_copy p o like r1 r2 σ (zs ∷ rs) all =
      All-cons (IsJoinable rules) (case_at o r1 r2 σ zs) (map (case_at o r1 r2 σ) rs)
      (case_of_copy p o like r1 r2 σ zs (all 0 (case_at p r1 r2 σ zs) (omega arith)))
      (cases_of_copy p o like r1 r2 σ rs (all_rest (IsJoinable rules) (case_at p r1 r2 σ zs)
      (map (case_at p r1 r2 σ) rs) all))

  -- the list of an overlap's sorted cases, by its rules
  abbrev ListedBy : Sorts → Overlap → List Case → Rule → Rule → Type 0
  ListedBy s o cs r1 r2 = (HasNoUnifier (all_equations r1 r2 o.matching.items) × (cs ≡ []))
      ⊎ AreSortedListed s o r1 r2 cs

  listed_unnamed : (s : Sorts) (o : Overlap) (cs : List Case) (r1 r2 : Rule) → ListedBy s o cs r1 r2
      → ListedBy s o cs (unnamed r1) (unnamed r2)
  listed_unnamed s o cs r1 r2 (inl n) = inl n
  listed_unnamed s o cs r1 r2 (inr l) = inr (record {
    classes = l.classes;
    combinations = l.combinations;
    solves =
        l.solves;
    all = l.all;
    within = l.within;
    cases_are = l.cases_are;
  })

  listed_named : (s : Sorts) (o : Overlap) (cs : List Case) (r1 r2 : Rule) → ListedBy s o cs (unnamed r1) (unnamed r2)
      → ListedBy s o cs r1 r2
  listed_named s o cs r1 r2 (inl n) = inl n
  listed_named s o cs r1 r2 (inr l) = inr (record {
    classes = l.classes;
    combinations = l.combinations;
    solves =
        l.solves;
    all = l.all;
    within = l.within;
    cases_are = l.cases_are;
  })

  -- where the cases of p are listed by the rules r1 and r2
  joins_by : (p o : Overlap) → AreAlike p o → (s : Sorts) → AreFinest rules s → (r1 r2 : Rule)
      → slice_get rules (p.first - 1) ≡ Some r1 → slice_get rules (p.second - 1) ≡ Some r2
      → (cs : List Case) → All (IsJoinable rules) cs → ListedBy s o cs r1 r2 → Joins Sorted rules o
  joins_by p o like s finest r1 r2 first second cs joinable listed =
      let f = from_unnamed rules (o.first - 1) (unnamed r1)
      (sym like.first ∙ at_unnamed rules (p.first - 1) r1 first) in
      let g = from_unnamed rules (o.second - 1) (unnamed r2)
      (sym like.second ∙ at_unnamed rules (p.second - 1) r2 second) in
      let copied : ListedBy s o cs (unnamed f.0) (unnamed g.0) = subst (λ x. ListedBy s o cs x (unnamed g.0)) (sym f.2)
      (subst (λ x. ListedBy s o cs (unnamed r1) x) (sym g.2) (listed_unnamed s o cs r1 r2 listed)) in (
        length cs,
        record {
          cases = cs;
          listed = (
            s,
            finest,
            record {
              rule1 = f.0;
              rule2 = g.0;
              first = f.1;
              second = g.1;
              listed =
                  listed_named s o cs f.0 g.0 copied;
            },
          );
          joinable = joinable;
          number = refl;
        },
      )

  copy_joins : (p o : Overlap) → AreAlike p o → Joins Sorted rules p → Joins Sorted rules o
  copy_joins p o like h = by h.1.listed.2.listed
    where
      s : Sorts
      s = h.1.listed.0

      r1 : Rule
      r1 = h.1.listed.2.rule1

      r2 : Rule
      r2 = h.1.listed.2.rule2

      by : ListedBy s p h.1.cases r1 r2 → Joins Sorted rules o
      by (inl none) =
          joins_by p o like s h.1.listed.1 r1 r2 h.1.listed.2.first h.1.listed.2.second []
          (All-nil (IsJoinable rules)) (inl (
            subst (λ m. HasNoUnifier (all_equations r1 r2 m)) like.matching none.0,
            refl,
          ))
      by (inr x) =
          let rs = filter (guards_hold x.classes r1 r2) x.combinations in
          let joinable = cases_of_copy p o like r1 r2 x.classes rs
          (subst (All (IsJoinable rules)) x.cases_are h.1.joinable) in
          joins_by p o like s h.1.listed.1 r1 r2 h.1.listed.2.first h.1.listed.2.second
          (map (case_at o r1 r2 x.classes) rs) joinable (inr (record {
            classes = x.classes;
            combinations = x.combinations;
            solves = subst (λ m. IsMostGeneralUnifier x.classes (all_equations r1 r2 m)) like.matching x.solves;
            all = x.all;
            within = x.within;
            cases_are = refl;
          }))

  -- ---- all overlaps

  alike : (o : Overlap) (c : IsCopy rules o) → IsOverlapOf rules o → AreAlike c.original o
  alike o c h =
      let one = h.2.0 in
      let two = h.2.1 in
      record {
        first = copies_unnamed rules _ _ c.first;
        second = copies_unnamed rules _ _ c.second;
        matching =
            c.matching;
        numbered = (omega (arith, one), omega (arith, two));
      }

  -- all sorted cases of the overlaps join, by induction on the sum of the numbers of both rules
  joins_below : (os : List Overlap) → AreOverlaps rules os → All (IsSettled rules) os → (n : ℕ) (o : Overlap)
      → o.first + o.second ≤ n → IsOverlapOf rules o → Joins Sorted rules o
  joins_below os are settled zero o l h = let one = h.2.0 in absurd (omega (arith, one, l))
  joins_below os are settled (suc n) o l h =
      elim (all_in (IsSettled rules) os o settled (are.all o h)) as (λ _. Joins Sorted rules o) [
        | inl joins ↦ joins
        | inr c ↦ (let less = c.lesser in copy_joins c.original o (alike o c h)
            (joins_below os are settled n c.original (omega (arith, less, l)) c.overlap))
      ]

-- ---- copies of rules

-- an overlap of copies is an overlap
copied_overlap : (rules : List Rule) (i j k l : ℕ) (m : List ℕ) → IsOverlap rules i j m → AreCopies rules k i
    → AreCopies rules l j → k ≤ l → IsOverlap rules k l m
copied_overlap rules i j k l m h first second ordered =
    let u = overlap_unnamed rules i j m h in
    overlap_named rules k l m (record {
      rule1 = u.rule1;
      rule2 = u.rule2;
      first = copies_unnamed rules k i first ∙ u.first;
      second = copies_unnamed rules l j second ∙ u.second;
      ordered = ordered;
      matching = u.matching;
    })

-- a rule whose original stands earlier
pub first_copied : (rules : List Rule) (ks : List ℕ) (o : Overlap) (k : ℕ) → AreOriginals rules ks → IsOverlapOf rules o
    → slice_get ks (o.first - 1) ≡ Some k → k < o.first - 1 → IsCopy rules o
first_copied rules ks o k are h at earlier =
    let one = h.2.0 in
    let here : o.first - 1 ≡ h.0 = omega (arith, one) in
    let back : k + 1 - 1 ≡ k = omega arith in
    let ordered = h.2.2.ordered in
    let same = (are.same (o.first - 1) k at).1 in
    record {
      original = record { first = k + 1; second = o.second; matching = o.matching };
      overlap = (
        k,
        h.1,
        (
          refl,
          h.2.1,
          copied_overlap rules h.0 h.1 k h.1 o.matching.items h.2.2
              (subst (AreCopies rules k) here same) refl (omega (arith, earlier, here, ordered)),
        ),
      );
      lesser = omega (arith, earlier);
      first = subst (λ n. AreCopies rules n (o.first - 1)) (sym back) same;
      second = refl;
      matching = refl;
    }

-- a rule like the second between both
second_copied : (rules : List Rule) (ks : List ℕ) (o : Overlap) (e k : ℕ) → AreOriginals rules ks → IsOverlapOf rules o
    → slice_get ks e ≡ Some k → slice_get ks (o.second - 1) ≡ Some k → o.first - 1 ≤ e → e < o.second - 1
    → IsCopy rules o
second_copied rules ks o e k are h at there from earlier =
    let one = h.2.0 in
    let two = h.2.1 in
    let here : o.second - 1 ≡ h.1 = omega (arith, two) in
    let back : e + 1 - 1 ≡ e = omega arith in
    let same : AreCopies rules e (o.second - 1) = sym (are.same e k at).1 ∙ (are.same (o.second - 1) k there).1 in
    record {
      original = record { first = o.first; second = e + 1; matching = o.matching };
      overlap = (
        h.0,
        e,
        (
          one,
          refl,
          copied_overlap rules h.0 h.1 h.0 e o.matching.items h.2.2 refl
              (subst (AreCopies rules e) here same) (omega (arith, from, one)),
        ),
      );
      lesser = omega (arith, earlier);
      first = refl;
      second = subst (λ n. AreCopies rules n (o.second - 1)) (sym back) same;
      matching = refl;
    }

pub second_among : (rules : List Rule) (ks : List ℕ) (o : Overlap) (x : ℕ) → AreOriginals rules ks → IsOverlapOf rules o
    → x < length (take (o.second - 1 - (o.first - 1)) (drop (o.first - 1) ks))
    → ((d : ℕ) → eqb (get_or (take (o.second - 1 - (o.first - 1)) (drop (o.first - 1) ks)) x d)
    (get_or ks (o.second - 1) 0) ≡ true) → IsCopy rules o
second_among rules ks o x are h within same =
    let two = h.2.1 in
    let there = slice_get_within rules h.1 h.2.2.rule2 h.2.2.second in
    let number = are.number in
    let n = o.second - 1 - (o.first - 1) in
    let e = o.first - 1 + x in
    let front = length-drop (o.first - 1) ks in
    let taken = length-take n (drop (o.first - 1) ks) in
    let less : x < n = omega (arith, within, taken) in
    let inside : e < length ks = omega (arith, within, taken, front, less) in
    let k = get_or ks (o.second - 1) 0 in
    let equal : get_or ks e 0 ≡ k = sym (get_or-take n (drop (o.first - 1) ks) x 0 less
    ∙ get_or-drop (o.first - 1) ks x 0) ∙ eqb-true _ _ (same 0) in
    second_copied rules ks o e k are h (slice_get-get_or ks e 0 inside ∙ ap Some equal)
    (slice_get-get_or ks (o.second - 1) 0 (omega (arith, two, there, number))) (omega arith) (omega (arith, less))

in_front : (ks : List ℕ) (m i : ℕ) → i < length ks → slice_get (ks ++ m ∷ []) i ≡ slice_get ks i
in_front [] m i l = absurd (omega (arith, l))
in_front (k ∷ ks) m zero l = refl
in_front (k ∷ ks) m (suc i) l = in_front ks m i (omega (arith, l))

at_end : (ks : List ℕ) (m : ℕ) → slice_get (ks ++ m ∷ []) (length ks) ≡ Some m
at_end [] m = refl
at_end (k ∷ ks) m = at_end ks m

-- the original of one rule more
pub one_more : (rules : List Rule) (ks ls : List ℕ) (n m : ℕ) → length ks ≡ n → ls ≡ ks ++ m ∷ []
    → ((i k : ℕ) → slice_get ks i ≡ Some k → (k ≤ i) × AreCopies rules k i)
    → m ≤ n → AreCopies rules m n → (i k : ℕ) → slice_get ls i ≡ Some k → (k ≤ i) × AreCopies rules k i
one_more rules ks ls n m number more same at is i k h = by (cases_lt i n)
  where
    by : (i < n) ⊎ (n ≤ i) → (k ≤ i) × AreCopies rules k i
    by (inl l) = same i k (sym (in_front ks m i (omega (arith, l, number))) ∙ ap (λ xs. slice_get xs i) (sym more) ∙ h)
    by (inr l) =
        let within = slice_get_within ls i k h in
        let long = ap length more in
        let both = length-append ks (m ∷ []) in
        let here : i ≡ length ks = omega (arith, within, long, both, l, number) in
        let new : Some m ≡ Some k = sym (at_end ks m) ∙ ap (slice_get (ks ++ m ∷ [])) (sym here)
        ∙ ap (λ xs. slice_get xs i) (sym more) ∙ h in
        let old : m ≡ k = same_Some m k new in
        let place : i ≡ n = omega (arith, here, number) in
        (omega (arith, old, place, at), subst (λ x. AreCopies rules x i) old (subst (AreCopies rules m) (sym place) is))

-- where all overlaps are settled, all sorted cases are joinable
pub all_settled : (rules : List Rule) (n : ℕ) → length rules ≤ n → HaveSettled rules n → (total : ℕ)
    × IsAcceptedBy Sorted rules total
all_settled rules n most h =
    let are = of_all rules n h.0 most h.1 in
    let all = from_each (Joins Sorted rules) h.0 (λ o i. joins_below rules h.0 are h.2 (o.first + o.second) o
    (omega arith) (are.each o i)) in
    let total = all_counted Sorted rules h.0 all in
    (total.0, record { overlaps = h.0; listed = are; joinable = total.1 })
