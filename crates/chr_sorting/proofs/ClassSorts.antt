-- The sorts of classes, as the heads' placed terms have them.
use Rattle.std.specs.Prelude.{◌≡◌, ℕ, ◌+◌, ◌-◌, ◌<◌, ◌≤◌, Bool, true, false, cond, nat_le, List, [], ◌∷◌, ◌++◌, map}
use Rattle.std.specs.Prelude.{length, take, get_or}
use Rattle.std.proofs.Common.{refl, sym, ap, subst, ◌∙◌, arith}
use Rattle.std.proofs.lemmas.Bool.{leb-true, leb-false}
use Rattle.std.proofs.lemmas.List.{take_more, map-append}
use Rattle.chr_base.specs.declared.term.Term.TheVariants.{Variable}
use Rattle.chr_base.specs.declared.rule.Rule.{Rule}
use Rattle.chr_base.specs.RuleTests.{terms_of}
use Rattle.chr_base.specs.Rules.{heads_of}
use Rattle.chr_types.specs.OrderTypes.{In}
use Rattle.chr_types.proofs.Members.{in_at}
use Rattle.chr_confluence.specs.Overlaps.{variables_of}
use Rattle.chr_confluence.specs.Unifiers.{Substitution}
use Rattle.chr_confluence.specs.Representatives.{free_variables}
use Rattle.chr_confluence.proofs.Frees.{free_is}
use Rattle.chr_confluence.proofs.Numbered.{variable_stands}
use Rattle.chr_confluence.specs.Sorts.{first_sort, sort_of}
use Rattle.chr_confluence.specs.SortedCases.{joint_sort}
use Rattle.chr_confluence.proofs.SortPlaces.{term_at}
use Rattle.chr_sorting.specs.declared.sorting.Sorting.{Sorting}
use Rattle.chr_sorting.specs.FinestSorts.{AreShort, sort_in, sorts_of}
use Rattle.chr_sorting.specs.working.Notes.{numbering, placed_heads}
use Rattle.chr_sorting.proofs.Fitting.{terms_moved, first_moved}

module _ (s : Sorting) (r1 r2 : Rule) (short1 : AreShort (heads_of r1)) (short2 : AreShort (heads_of r2)) where
  -- the sort of a head's variable
  own_sort : (r : Rule) → AreShort (heads_of r) → (x : ℕ) → In (Variable x) (terms_of (heads_of r))
      → sort_of (sorts_of s) r x ≡ sort_in s.sorts.items (first_sort (placed_heads r) x)
  own_sort r short x i =
      let w = term_at numbering (heads_of r) (Variable x) i in
      ap (λ qs. first_sort qs x) (terms_moved (sorts_of s) (sort_in s.sorts.items) (λ a k l. refl) (heads_of r) short)
      ∙ first_moved (sorts_of s) (sort_in s.sorts.items) (λ a k l. refl) (placed_heads r) w.0 x w.1

  pub class_sort : (x p : ℕ) → 0 < x → x ≤ variables_of r1 + variables_of r2 → p ≡ cond (nat_le x (variables_of r1))
      (first_sort (placed_heads r1) x) (first_sort (placed_heads r2) (x - variables_of r1))
      → sort_in s.sorts.items p ≡ joint_sort (sorts_of s) r1 r2 x
  class_sort x p l g e = ap (sort_in s.sorts.items) e ∙ by (nat_le x (variables_of r1)) refl
    where
      by : (b : Bool) → nat_le x (variables_of r1) ≡ b
          → sort_in s.sorts.items (cond b (first_sort (placed_heads r1) x)
          (first_sort (placed_heads r2) (x - variables_of r1))) ≡ cond b (sort_of (sorts_of s) r1 x)
          (sort_of (sorts_of s) r2 (x - variables_of r1))
      by true t = sym (own_sort r1 short1 x (variable_stands r1 x l (leb-true x (variables_of r1) t)))
      by false t = let n = leb-false x (variables_of r1) t in
          sym (own_sort r2 short2 (x - variables_of r1)
          (variable_stands r2 (x - variables_of r1) (omega (arith, n)) (omega (arith, n, g))))

  -- one class more
  pub next_sort : (σ : Substitution) (xs : List ℕ) (i p : ℕ) (done now : List ℕ) → xs ≡ free_variables σ r1 r2
      → i < length xs
      → p ≡ cond (nat_le (get_or xs i 0) (variables_of r1)) (first_sort (placed_heads r1) (get_or xs i 0))
      (first_sort (placed_heads r2) (get_or xs i 0 - variables_of r1))
      → done ≡ map (joint_sort (sorts_of s) r1 r2) (take i xs) → now ≡ done ++ sort_in s.sorts.items p ∷ []
      → now ≡ map (joint_sort (sorts_of s) r1 r2) (take (i + 1) xs)
  next_sort σ xs i p done now all l is d n =
      let x = get_or xs i 0 in
      let f = free_is σ r1 r2 x (subst (In x) all (in_at xs i 0 l)) in
      let sort = class_sort x p f.0 f.1 is in
      let joined : map (joint_sort (sorts_of s) r1 r2) (take i xs ++ x ∷ []) ≡ map (joint_sort (sorts_of s) r1 r2)
      (take i xs) ++ joint_sort (sorts_of s) r1 r2 x ∷ [] = map-append (joint_sort (sorts_of s) r1 r2) (take i xs)
      (x ∷ []) in
      n ∙ (λ j. d j ++ sort j ∷ []) ∙ sym joined ∙ ap (map (joint_sort (sorts_of s) r1 r2)) (sym (take_more xs i 0 l))
