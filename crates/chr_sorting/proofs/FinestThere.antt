-- Each program has finest sorts.
use Rattle.std.specs.Prelude.{◌≡◌, ℕ, ◌+◌, ◌≤◌, ◌⊎◌, ℤ, Bool, true, false, cond, nat_eq, List, [], ◌∷◌, ◌++◌, map}
use Rattle.std.specs.Prelude.{length, get_or, min, max}
use Rattle.std.specs.List.{flat_map, range_with_len}
use Rattle.std.proofs.Common.{refl, sym, ap, subst, ◌∙◌, arith, inl, inr}
use Rattle.std.proofs.lemmas.Bool.{eqb-true, eqb-false}
use Rattle.std.proofs.lemmas.List.{append-nil, append_assoc, length-map}
use Rattle.std.proofs.lemmas.List.FromFn.{length-range_with_len}
use Rattle.chr_base.specs.declared.term.Term.{Term}
use Rattle.chr_base.specs.declared.term.Term.TheVariants.{Variable, Constant}
use Rattle.chr_base.specs.declared.term.Cmp.{Cmp}
use Rattle.chr_base.specs.declared.term.Comparison.{Comparison}
use Rattle.chr_base.specs.declared.rule.Rule.{Rule}
use Rattle.chr_base.specs.RuleTests.{terms_of}
use Rattle.chr_base.specs.Programs.{rules_of}
use Rattle.chr_base.specs.Rules.{heads_of}
use Rattle.chr_types.specs.OrderTypes.{In, IsValue}
use Rattle.chr_types.proofs.Members.{in_first, in_second, in_either}
use Rattle.chr_confluence.specs.Constants.{guard_terms, rule_terms}
use Rattle.chr_confluence.proofs.ConstantLaws.{constants_fit}
use Rattle.chr_confluence.proofs.Frees.{in_map}
use Rattle.chr_confluence.proofs.Listed.{value_is}
use Rattle.chr_confluence.specs.Sorts.{Kind, free, sorted_terms, first_sort}
use Rattle.chr_confluence.proofs.SortPlaces.{term_in}
use Rattle.chr_overlaps.specs.working.Gathering.{AreConstantsIn}
use Rattle.chr_overlaps.proofs.CasesThere.{constants_in}
use Rattle.chr_sorting.specs.declared.notes.Note.{Note}
use Rattle.chr_sorting.specs.declared.notes.Note.TheVariants.{Joined, Stands, Compared}
use Rattle.chr_sorting.specs.FinestSorts.{sort_in}
use Rattle.chr_sorting.specs.working.Notes.{IsBelow, Joins, IsLeastKind, merged, raised, numbering, placed_heads}
use Rattle.chr_sorting.specs.working.Notes.{term_note, bound_notes, comparison_notes, guard_notes, rule_notes, terms_at}
use Rattle.chr_sorting.specs.laws.FinestSorts.{FinestExist}
use Rattle.chr_sorting.proofs.Fitting.{in_flat}
use Rattle.chr_sorting.proofs.Finest.{in_place, stands_in, sorts_by_notes, finest_by_notes}
use Rattle.chr_sorting.proofs.Joining.{none_joined, other_joined, pair_in_order}
use Rattle.chr_sorting.proofs.LeastKinds.{no_kind_yet, kind_raised, elsewhere_passed, other_kept}

-- ---- a bound of all positions

abbrev bound_of : Note → ℕ
bound_of (Joined p q) = max (p + 1) (q + 1)
bound_of (Stands p c) = p + 1
bound_of (Compared p s) = p + 1

below_bound : (n : ℕ) (e : Note) → bound_of e ≤ n → IsBelow n e
below_bound n (Joined p q) l = (omega (arith, l), omega (arith, l))
below_bound n (Stands p c) l = omega (arith, l)
below_bound n (Compared p s) l = omega (arith, l)

bounded : (notes : List Note) → (n : ℕ) × ((e : Note) → In e notes → bound_of e ≤ n)
bounded [] = (0, λ e i. absurd i)
bounded (d ∷ notes) =
    let w = bounded notes in (
      max (bound_of d) w.0,
      λ e i. elim i as (λ _. bound_of e ≤ max (bound_of d) w.0) [
        | inl q ↦ (let h = ap bound_of q in omega (arith, h))
        | inr j ↦ (let h = w.1 e j in omega (arith, h))
      ],
    )

-- ---- sorts that join what the notes join

module _ (n : ℕ) where
  abbrev Sorted : List Note → Type 0
  Sorted notes = (ts : List ℕ) × Joins notes ts × (length ts ≡ n)

  one_more : (done : List Note) (e : Note) → IsBelow n e → Sorted done → Sorted (done ++ e ∷ [])
  one_more done (Joined p q) b w =
      let b1 = b.0 in
      let b2 = b.1 in
      let len = w.2 in
      let low = min (get_or w.0 p 0) (get_or w.0 q 0) in
      let high = max (get_or w.0 p 0) (get_or w.0 q 0) in (
        map (merged low high) w.0,
        pair_in_order done w.0 p q low high w.1 (omega (arith, b1, len))
            (omega (arith, b2, len)) refl refl,
        length-map w.0 (merged low high) ∙ len,
      )
  one_more done (Stands p c) b w = (
    w.0,
    other_joined done w.0 (Stands p c) w.1
        (λ x y e. (let q : Stands p c ≡ Joined x y = e in cc)),
    w.2,
  )
  one_more done (Compared p s) b w = (
    w.0,
    other_joined done w.0 (Compared p s) w.1
        (λ x y e. (let q : Compared p s ≡ Joined x y = e in cc)),
    w.2,
  )

  all_joined : (done rest : List Note) → ((e : Note) → In e rest → IsBelow n e) → Sorted done → Sorted (done ++ rest)
  all_joined done [] below w = subst Sorted (sym (append-nil done)) w
  all_joined done (e ∷ rest) below w = subst Sorted (append_assoc done (e ∷ []) rest)
      (all_joined (done ++ e ∷ []) rest (λ d i. below d (inr i)) (one_more done e (below e (inl refl)) w))

sorts_there : (notes : List Note) → (ts : List ℕ) × Joins notes ts
sorts_there notes =
    let n = bounded notes in
    let w = all_joined n.0 [] notes (λ e i. below_bound n.0 e (n.1 e i))
    (range_with_len 0 n.0, none_joined n.0, length-range_with_len 0 n.0) in
    (w.0, w.1)

-- ---- the least kind of a sort

module _ (f : ℕ → ℕ) (n : ℕ) where
  kind_more : (done : List Note) (e : Note) → (k : Kind) × IsLeastKind done f n k → (k : Kind)
      × IsLeastKind (done ++ e ∷ []) f n k
  kind_more done (Joined p q) w = (
    w.0,
    other_kept f n done w.0 (Joined p q) w.1
        (λ x y e. (let h : Joined p q ≡ Compared x y = e in cc)),
  )
  kind_more done (Stands p c) w = (
    w.0,
    other_kept f n done w.0 (Stands p c) w.1
        (λ x y e. (let h : Stands p c ≡ Compared x y = e in cc)),
  )
  kind_more done (Compared p s) w = by (nat_eq (f p) n) refl
    where
      by : (b : Bool) → nat_eq (f p) n ≡ b → (k : Kind) × IsLeastKind (done ++ Compared p s ∷ []) f n k
      by true e = (raised w.0 s, kind_raised f n done w.0 p s w.1 (eqb-true (f p) n e))
      by false e = (w.0, elsewhere_passed f n done w.0 p s w.1 (eqb-false (f p) n e))

  kind_all : (done rest : List Note) → (k : Kind) × IsLeastKind done f n k → (k : Kind)
      × IsLeastKind (done ++ rest) f n k
  kind_all done [] w = subst (λ ns. (k : Kind) × IsLeastKind ns f n k) (sym (append-nil done)) w
  kind_all done (e ∷ rest) w = subst (λ ns. (k : Kind) × IsLeastKind ns f n k) (append_assoc done (e ∷ []) rest)
      (kind_all (done ++ e ∷ []) rest (kind_more done e w))

  kind_there : (notes : List Note) → (k : Kind) × IsLeastKind notes f n k
  kind_there notes = kind_all [] notes (free, no_kind_yet f n)

-- ---- a constant of a note is one of the rules

guard_left : (c : Comparison) (cs : List Comparison) → In c cs → In c.left (guard_terms cs)
guard_left c [] i = absurd i
guard_left c (d ∷ cs) (inl e) = inl (ap (λ (x : Comparison). x.left) e)
guard_left c (d ∷ cs) (inr i) = inr (inr (guard_left c cs i))

guard_right : (c : Comparison) (cs : List Comparison) → In c cs → In c.right (guard_terms cs)
guard_right c [] i = absurd i
guard_right c (d ∷ cs) (inl e) = inr (inl (ap (λ (x : Comparison). x.right) e))
guard_right c (d ∷ cs) (inr i) = inr (inr (guard_right c cs i))

module _ (r : Rule) (p : ℕ) (c : ℤ) where
  abbrev hs : List (ℕ × Term)
  hs = placed_heads r

  of_term : (q : ℕ × Term) → Stands p c ≡ term_note hs q → q.1 ≡ Constant c
  of_term q e = by q.1 refl
    where
      by : (t : Term) → q.1 ≡ t → t ≡ Constant c
      by (Variable x) g = absurd (let h : Stands p c ≡ term_note hs (q.0, Variable x) =
          e ∙ ap (λ t. term_note hs (q.0, t)) g in cc)
      by (Constant d) g = let h : Stands p c ≡ Stands q.0 d = e ∙ ap (λ t. term_note hs (q.0, t)) g in
          let same : d ≡ c = cc in ap Constant same

  of_bound : (x : ℕ) (s : Cmp) (k : ℤ) → In (Stands p c) (bound_notes x s k) → Constant k ≡ Constant c
  of_bound x s k (inl e) = let same : k ≡ c = cc in ap Constant same
  of_bound x s k (inr (inl e)) = absurd cc
  of_bound x s k (inr (inr e)) = absurd e

  of_comparison : (s : Cmp) (t u : Term) → In (Stands p c) (comparison_notes hs s t u) → (t ≡ Constant c)
      ⊎ (u ≡ Constant c)
  of_comparison s (Variable x) (Variable y) (inl e) = absurd cc
  of_comparison s (Variable x) (Variable y) (inr i) = by (nat_eq x y) i
    where
      by : (b : Bool) → In (Stands p c) (cond b [] (Compared (first_sort hs x) s ∷ [])) → (Variable x ≡ Constant c)
          ⊎ (Variable y ≡ Constant c)
      by true j = absurd j
      by false (inl e) = absurd cc
      by false (inr e) = absurd e
  of_comparison s (Variable x) (Constant d) i = inr (of_bound (first_sort hs x) s d i)
  of_comparison s (Constant d) (Variable y) i = inl (of_bound (first_sort hs y) s d i)
  of_comparison s (Constant d) (Constant e) i = absurd i

  in_head : In (Constant c) (terms_of (heads_of r)) → In (Constant c) (rule_terms r)
  in_head i = in_first (Constant c) (terms_of (heads_of r) ++ guard_terms r.guard.items) (terms_of r.body.items)
      (in_first (Constant c) (terms_of (heads_of r)) (guard_terms r.guard.items) i)

  in_guard : In (Constant c) (guard_terms r.guard.items) → In (Constant c) (rule_terms r)
  in_guard i = in_first (Constant c) (terms_of (heads_of r) ++ guard_terms r.guard.items) (terms_of r.body.items)
      (in_second (Constant c) (terms_of (heads_of r)) (guard_terms r.guard.items) i)

  in_body : In (Constant c) (terms_of r.body.items) → In (Constant c) (rule_terms r)
  in_body i = in_second (Constant c) (terms_of (heads_of r) ++ guard_terms r.guard.items) (terms_of r.body.items) i

  of_rule : In (Stands p c) (rule_notes r) → In (Constant c) (rule_terms r)
  of_rule i = elim (in_either (Stands p c) (map (term_note hs) hs
      ++ map (term_note hs) (sorted_terms numbering r.body.items)) (guard_notes hs r.guard.items) i) as (λ _. In
      (Constant c) (rule_terms r)) [
        | inl j ↦ elim (in_either (Stands p c) (map (term_note hs) hs)
            (map (term_note hs) (sorted_terms numbering r.body.items)) j) as (λ _. In (Constant c) (rule_terms r)) [
              | inl k ↦ (let w = in_map (term_note hs) (Stands p c) hs k in
                  in_head (term_in numbering (heads_of r) w.0.0 (Constant c)
                  (subst (λ t. In (w.0.0, t) hs) (of_term w.0 w.2) w.1)))
              | inr k ↦ (let w = in_map (term_note hs) (Stands p c) (sorted_terms numbering r.body.items) k in
                  in_body (term_in numbering r.body.items w.0.0 (Constant c)
                  (subst (λ t. In (w.0.0, t) (sorted_terms numbering r.body.items)) (of_term w.0 w.2) w.1)))
            ]
        | inr j ↦ (let w = in_flat (λ (d : Comparison). comparison_notes hs d.cmp d.left d.right)
            (Stands p c) r.guard.items j in in_guard (elim
            (of_comparison w.0.cmp w.0.left w.0.right w.2) as (λ _. In (Constant c) (guard_terms r.guard.items)) [
              | inl e ↦ subst (λ t. In t (guard_terms r.guard.items)) e (guard_left w.0 r.guard.items w.1)
              | inr e ↦ subst (λ t. In t (guard_terms r.guard.items)) e (guard_right w.0 r.guard.items w.1)
            ]))
      ]

note_value : (rules : List Rule) (f : ℕ → ℕ) (n : ℕ) (c : ℤ)
    → In (Constant c) (terms_at f n (flat_map rule_notes rules)) → IsValue c
note_value rules f n c i =
    let w = stands_in f n c (flat_map rule_notes rules) i in
    let v = in_flat rule_notes (Stands w.0 c) rules w.1 in
    let place = in_place rules v.0 v.1 in
    value_is c (constants_fit rules c (place.0, v.0, place.1, of_rule v.0 w.0 c v.2))

pub finest_exist : FinestExist
finest_exist p =
    let notes = flat_map rule_notes (rules_of p) in
    let w = sorts_there notes in
    let f = sort_in w.0 in
    let constants : (n : ℕ) → (cs : List ℤ) × AreConstantsIn (terms_at f n notes) cs =
    λ n. constants_in (terms_at f n notes) (λ c i. note_value (rules_of p) f n c i) in
    let kinds : (n : ℕ) → (k : Kind) × IsLeastKind notes f n k = λ n. kind_there f n notes in (
      sorts_by_notes p notes refl w.0 w.1 (λ n. (kinds n).0) (λ n. (kinds n).1) (λ n. (constants n).0)
          (λ n. (constants n).1),
      finest_by_notes p notes refl w.0 w.1 (λ n. (kinds n).0) (λ n. (kinds n).1) (λ n. (constants n).0)
          (λ n. (constants n).1),
    )
