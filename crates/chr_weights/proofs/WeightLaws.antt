-- The most that atoms and stores weigh.
use Rattle.std.proofs.lemmas.Bool.{and_parts}
use Rattle.std.specs.Prelude.{◌≡◌, ℕ, ◌*◌, ◌≤◌, true, false, Bool, not, ◌&&◌, cond, zero, suc, nat_eq, nat_le, List, []}
use Rattle.std.specs.Prelude.{◌∷◌, length, Option, Some, None, option_map, slice_get}
use Rattle.std.specs.List.{list_all}
use Rattle.std.proofs.Common.{arith, refl, subst}
use Rattle.std.proofs.Math.Nat.{mul-suc}
use Rattle.std.proofs.lemmas.Bool.Decides.{nat_tests}
use Rattle.chr_base.specs.declared.limits.TheConstants.{MAX_ARITY, MAX_NAME, MAX_RULES, MAX_SYMBOLS, MAX_WEIGHT}
use Rattle.chr_base.specs.declared.atom.Atom.{Atom}
use Rattle.chr_base.specs.declared.program.Program.{Program}
use Rattle.chr_base.specs.declared.weight.Weight.{Weight}
use Rattle.chr_base.specs.FinBag.{total, items}
use Rattle.chr_base.proofs.FinBags.{sum_over-items}
use Rattle.chr_base.specs.Stores.{Store}
use Rattle.chr_base.specs.Names.{is_name}
use Rattle.chr_base.specs.ProgramTests.{Declaration, is_in_range, are_distinct, fits}
use Rattle.chr_base.specs.Programs.{declarations, rules_of}
use Rattle.chr_base.specs.Weights.{is_weight}
use Rattle.chr_weights.specs.Weights.{declared_weight, weight_in, store_weight}

-- both numbers are those of a symbol
abbrev pub IsSmall : Weight → Type 0
IsSmall w = (w.first ≤ MAX_WEIGHT) × (w.second ≤ MAX_WEIGHT)

weight_small : (w : Weight) → is_weight w ≡ true → IsSmall w
weight_small w h =
    let both = (and_parts (nat_le w.first MAX_WEIGHT && nat_le w.second MAX_WEIGHT)
    (not (nat_eq w.first 0 && nat_eq w.second 0)) h).0 in
    let a = (and_parts (nat_le w.first MAX_WEIGHT) (nat_le w.second MAX_WEIGHT) both).0 in
    let b = (and_parts (nat_le w.first MAX_WEIGHT) (nat_le w.second MAX_WEIGHT) both).1 in
    (grind (arith, nat_tests), grind (arith, nat_tests))

range_small : (d : Declaration) → is_in_range d ≡ true → IsSmall d.weight
range_small d h = weight_small d.weight ((and_parts (is_name d.name && nat_le (length d.name) MAX_NAME
    && nat_le d.arity MAX_ARITY) _ h).1)

declared_small : (ds : List Declaration) (i n : ℕ) → list_all is_in_range ds ≡ true
    → IsSmall (declared_weight (slice_get ds i) n)
declared_small [] i n h = (omega arith, omega arith)
declared_small (d ∷ ds) zero n h = by (nat_eq d.arity n) refl
  where
    by : (b : Bool) → nat_eq d.arity n ≡ b → IsSmall (declared_weight (Some d) n)
    by true e = rw e (range_small d ((and_parts _ _ h).0))
    by false e = rw e (omega arith, omega arith)
declared_small (d ∷ ds) (suc i) n h = declared_small ds i n ((and_parts _ _ h).1)

ranges : (p : Program) → list_all is_in_range (declarations p) ≡ true
ranges p =
    let ds = declarations p in
    let distinct = (and_parts _ (list_all (fits ds) (rules_of p)) p.well_formed).0 in
    (and_parts (nat_le (length ds) MAX_SYMBOLS && nat_le (length (rules_of p)) MAX_RULES) _
    ((and_parts _ (are_distinct ds) distinct).0)).1

pub weight_at_most : (p : Program) (a : Atom) → IsSmall (weight_in p a)
weight_at_most p a = declared_small (declarations p) a.symbol.0 (length a.args.items) (ranges p)

-- what stands in the table is small
pub found_at_most : (p : Program) (i : ℕ) (w : Weight) → Some w ≡ option_map (λ d. d.weight)
    (slice_get (declarations p) i) → IsSmall w
found_at_most p i w h = by (declarations p) i (ranges p) h
  where
    by : (ds : List Declaration) (i : ℕ) → list_all is_in_range ds ≡ true → Some w ≡ option_map (λ d. d.weight)
        (slice_get ds i) → IsSmall w
    by [] i r e = absurd (let f : ◌≡◌ {A = Option Weight} (Some w) None = e in cc)
    by (d ∷ ds) zero r e = (let f : ◌≡◌ {A = Option Weight} (Some w) (Some d.weight) = e in let g : d.weight ≡ w = cc in
        subst IsSmall g (range_small d ((and_parts _ (list_all is_in_range ds) r).0)))
    by (d ∷ ds) (suc i) r e = by ds i ((and_parts (is_in_range d) _ r).1) e

pub total_at_most : (w : Atom → ℕ) (m : ℕ) → ((a : Atom) → w a ≤ m) → (xs : List Atom) → total w xs ≤ m * length xs
total_at_most w m h [] = omega arith
total_at_most w m h (x ∷ xs) = let a = h x in let b = total_at_most w m h xs in let c = mul-suc m (length xs) in
    omega (arith, a, b, c)

pub first_at_most : (p : Program) (s : Store) → (store_weight p s).first ≤ MAX_WEIGHT * length (items s)
first_at_most p s =
    let w : Atom → ℕ = λ a. (weight_in p a).first in let a = sum_over-items w s in let b =
    total_at_most w MAX_WEIGHT (λ q. (weight_at_most p q).0) (items s) in omega (arith, a, b)

pub second_at_most : (p : Program) (s : Store) → (store_weight p s).second ≤ MAX_WEIGHT * length (items s)
second_at_most p s =
    let w : Atom → ℕ = λ a. (weight_in p a).second in let a = sum_over-items w s in let b =
    total_at_most w MAX_WEIGHT (λ q. (weight_at_most p q).1) (items s) in omega (arith, a, b)
