-- Two steps from one store: they commute, or the store holds a case of theirs, and then the case's join is a join in
-- the store.
use Rattle.std.specs.Prelude.{◌≡◌, ℕ, ◌+◌, ◌-◌, ◌≤◌, max, List, ◌++◌, cond}
use Rattle.std.proofs.Common.{refl, sym, ap, subst, ◌∙◌, arith, inl, inr, ◌⊎◌}
use Rattle.std.specs.Ordering.{eq_by_cmp}
use Rattle.chr_base.specs.declared.atom.Atom.{Atom}
use Rattle.chr_base.specs.declared.rule.Rule.{Rule}
use Rattle.chr_base.specs.Atoms.{atom_cmp}
use Rattle.chr_base.proofs.Atoms.{atom_total}
use Rattle.chr_base.specs.Stores.{Store, store_of, count}
use Rattle.chr_base.proofs.Stores.{count_plus, count_minus, same_store, split, plus_comm}
use Rattle.chr_base.specs.Rules.{Step, StepBy, Valuation, atoms_at, atom_at, heads_at}
use Rattle.chr_base.proofs.Steps.{grows, StepBy-grows}
use Rattle.std.proofs.lemmas.List.{map-append}
use Rattle.chr_base.specs.FinBag as bag
use Rattle.chr_base.proofs.FinBags as bag_laws
use Rattle.chr_base.specs.FinBag.{◌⊕◌, ◌⊖◌, IsWithin, count_in}
use Rattle.chr_base.proofs.FinBags.{total-append}
use Rattle.chr_base.specs.Rewriting.{AreJoinable, Reaches}
use Rattle.chr_base.proofs.Rewriting.{reaches_grows}
use Rattle.chr_confluence.specs.Matchings.{left_over}
use Rattle.chr_confluence.specs.Cases.{side, both_heads, IsCase, case_store}
use Rattle.chr_confluence.specs.Peaks.{Commute, HoldsCase}
use Rattle.chr_confluence.proofs.Peaks.{count_of, touching_or_apart, second_there}

counted : (xs : List Atom) (q : Atom) → count (store_of xs) q ≡ count_of q xs
counted xs q = bag_laws.count-of_list atom_total xs q

counted_both : (xs ys : List Atom) (q : Atom) → count_of q (xs ++ ys) ≡ count_of q xs + count_of q ys
counted_both xs ys q = total-append (λ x. cond (eq_by_cmp atom_cmp q x) 1 0) xs ys

heads_counted : (r : Rule) (v : Valuation) (q : Atom) → count (store_of (heads_at v r)) q ≡ count_of q (both_heads r v)
heads_counted r v q = counted (heads_at v r) q ∙ ap (count_of q) (map-append (atom_at v) r.kept.items r.removed.items)

heads_there : (r : Rule) (v : Valuation) (s : Store) → ((q : Atom) → count_of q (both_heads r v) ≤ count s q)
    → IsWithin (store_of (heads_at v r)) s
heads_there r v s h q = let a = heads_counted r v q in let b = h q in omega (arith, a, b)

there_heads : (r : Rule) (v : Valuation) (s t : Store) → StepBy r v s t → (q : Atom)
    → count_of q (both_heads r v) ≤ count s q
there_heads r v s t st q = let a = heads_counted r v q in let b = st.there q in omega (arith, a, b)

module _ (r1 r2 : Rule) (m : List ℕ) (v1 v2 : Valuation) where
  case_counted : (q : Atom) → count (case_store r1 r2 m v1 v2) q ≡ count_of q (both_heads r1 v1) + count_of q
      (left_over m 0 (both_heads r2 v2))
  case_counted q = counted (both_heads r1 v1 ++ left_over m 0 (both_heads r2 v2)) q
      ∙ counted_both (both_heads r1 v1) (left_over m 0 (both_heads r2 v2)) q

  -- both instances are steps from their case's store
  pub left_step : IsCase r1 r2 m v1 v2 → StepBy r1 v1 (case_store r1 r2 m v1 v2) (side r1 v1 (case_store r1 r2 m v1 v2))
  left_step case = record {
    guard = case.guard1;
    there =
        heads_there r1 v1 _ (λ q. (let a = case_counted q in omega (arith, a)));
    after = refl;
  }

  pub right_step : IsCase r1 r2 m v1 v2 → StepBy r2 v2 (case_store r1 r2 m v1 v2)
      (side r2 v2 (case_store r1 r2 m v1 v2))
  right_step case = record {
    guard = case.guard2;
    there = heads_there r2 v2 _ (λ q. (let a = case_counted q in let b =
        second_there (both_heads r2 v2) m (both_heads r1 v1) q case.matches.agrees in omega (arith, a, b)));
    after = refl;
  }

-- what an instance leaves of a store and some atoms more, where it takes only from the store
moved : (r : Rule) (v : Valuation) (s t : Store) → t ≡ side r v s → (q : Atom) → count t q
    ≡ (count s q - count_of q (atoms_at v r.removed.items)) + count (store_of (atoms_at v r.body.items)) q
moved r v s t e q =
    let a = ap (λ x. count x q) e in
    let b = count_plus (s ⊖ store_of (atoms_at v r.removed.items)) (store_of (atoms_at v r.body.items)) q in
    let d = count_minus s (store_of (atoms_at v r.removed.items)) q in
    let f = counted (atoms_at v r.removed.items) q in
    omega (arith, a, b, d, f)

module _ (r1 r2 : Rule) (v1 v2 : Valuation) (s t u : Store) (st1 : StepBy r1 v1 s t) (st2 : StepBy r2 v2 s u) where
  abbrev Most : Atom → ℕ
  Most q = max (count_of q (both_heads r1 v1)) (count_of q (both_heads r2 v2))

  apart : ((q : Atom) → (count_of q (both_heads r2 v2) + count_of q (atoms_at v1 r1.removed.items) ≤ Most q)
      × (count_of q (both_heads r1 v1) + count_of q (atoms_at v2 r2.removed.items) ≤ Most q)) → Commute r1 r2 v1 v2 t u
  apart c =
      let w = side r2 v2 t in
      let a1 = moved r1 v1 s t st1.after in
      let a2 = moved r2 v2 s u st2.after in
      let there2 = heads_there r2 v2 t (λ q. (let a = a1 q in let b = (c q).0 in let x = there_heads r1 v1 s t st1 q in
      let y = there_heads r2 v2 s u st2 q in omega (arith, a, b, x, y))) in
      let there1 = heads_there r1 v1 u (λ q. (let a = a2 q in let b = (c q).1 in let x = there_heads r1 v1 s t st1 q in
      let y = there_heads r2 v2 s u st2 q in omega (arith, a, b, x, y))) in
      let same : w ≡ side r1 v1 u = same_store _ _ (λ q.
      (let a = a1 q in let b = a2 q in let d = moved r2 v2 t w refl q in let e = moved r1 v1 u (side r1 v1 u) refl q in
      let x = there_heads r1 v1 s t st1 q in let y = there_heads r2 v2 s u st2 q in let z = (c q).0 in let g =
      (c q).1 in
      let r = counted_both (atoms_at v1 r1.kept.items) (atoms_at v1 r1.removed.items) q in
      let k = counted_both (atoms_at v2 r2.kept.items) (atoms_at v2 r2.removed.items) q in
      omega (arith, a, b, d, e, x, y, z, g, r, k))) in (
        w,
        record { guard = st2.guard; there = there2; after = refl },
        record { guard = st1.guard; there = there1; after = same },
      )

  inside : (m : List ℕ) → ((q : Atom) → count_of q (both_heads r1 v1) + count_of q
      (left_over m 0 (both_heads r2 v2)) ≤ Most q) → IsWithin (case_store r1 r2 m v1 v2) s
  inside m bound q =
      let a = case_counted r1 r2 m v1 v2 q in let b = bound q in let x = there_heads r1 v1 s t st1 q in let y =
      there_heads r2 v2 s u st2 q in
      omega (arith, a, b, x, y)

  -- Two steps from one store commute, or it holds a case of their instances.
  pub peak : Commute r1 r2 v1 v2 t u ⊎ HoldsCase r1 r2 v1 v2 s
  peak =
      elim (touching_or_apart (atoms_at v1 r1.kept.items) (atoms_at v1 r1.removed.items) (atoms_at v2 r2.kept.items)
      (atoms_at v2 r2.removed.items)) as (λ _. Commute r1 r2 v1 v2 t u ⊎ HoldsCase r1 r2 v1 v2 s) [
        | inl w ↦ inr (w.0, record { matches = w.1; guard1 = st1.guard; guard2 = st2.guard }, inside w.0 w.2)
        | inr c ↦ inl (apart c)
      ]

  -- a join of the sides of the case is one of the two steps' ends
  pub case_joins : (rules : List Rule) (m : List ℕ) → IsCase r1 r2 m v1 v2 → IsWithin (case_store r1 r2 m v1 v2) s
      → AreJoinable (Step rules) (side r1 v1 (case_store r1 r2 m v1 v2)) (side r2 v2 (case_store r1 r2 m v1 v2))
      → AreJoinable (Step rules) t u
  case_joins rules m case within j =
      let c = case_store r1 r2 m v1 v2 in
      let x = s ⊖ c in
      let whole : c ⊕ x ≡ s = plus_comm c x ∙ split s c within in
      let e1 : side r1 v1 c ⊕ x ≡ t = (StepBy-grows r1 v1 c (side r1 v1 c) x (left_step r1 r2 m v1 v2 case)).after
      ∙ ap (side r1 v1) whole ∙ sym st1.after in
      let e2 : side r2 v2 c ⊕ x ≡ u = (StepBy-grows r2 v2 c (side r2 v2 c) x (right_step r1 r2 m v1 v2 case)).after
      ∙ ap (side r2 v2) whole ∙ sym st2.after in (
        j.0 ⊕ x,
        subst (λ y. Reaches (Step rules) y (j.0 ⊕ x)) e1
            (reaches_grows (Step rules) bag.empty ◌⊕◌ (grows rules) plus_comm (side r1 v1 c) j.0 x j.1),
        subst (λ y. Reaches (Step rules) y (j.0 ⊕ x)) e2
            (reaches_grows (Step rules) bag.empty ◌⊕◌ (grows rules) plus_comm (side r2 v2 c) j.0 x j.2),
      )
