-- One number for a pair: rules that lower pairs lower it.
use Rattle.std.proofs.lemmas.Bool.{and_parts, or_parts}
use Rattle.std.specs.Prelude.{◌≡◌, ℕ, zero, suc, ◌+◌, ◌*◌, ◌<◌, ◌≤◌, ◌⊎◌, Bool, true, false, ◌&&◌, nat_eq, nat_le, List}
use Rattle.std.specs.Prelude.{[], ◌∷◌, length, map, Option, Some, None, slice_get}
use Rattle.std.specs.List.{list_any}
use Rattle.std.proofs.Common.{arith, inl, inr, refl, sym, ap, subst, ◌∙◌}
use Rattle.std.proofs.Math.Nat.{mul-add, mul-suc, mul-le-mul_left}
use Rattle.std.proofs.lemmas.Bool.Decides.{nat_tests}
use Rattle.std.proofs.lemmas.List.{length-map}
use Rattle.chr_base.specs.declared.limits.TheConstants.{MAX_BODY, MAX_WEIGHT}
use Rattle.chr_base.specs.declared.atom.Atom.{Atom}
use Rattle.chr_base.specs.declared.rule.Rule.{Rule}
use Rattle.chr_base.specs.declared.program.Program.{Program}
use Rattle.chr_base.specs.declared.weight.Weight.{Weight}
use Rattle.chr_base.specs.FinBag.{total, items}
use Rattle.chr_base.specs.ProgramTests.{Declaration, some_paired}
use Rattle.chr_base.specs.Programs.{declarations, rules_of}
use Rattle.chr_base.specs.Rules.{RuleLowers, Valuation, atom_at, atoms_at}
use Rattle.chr_base.specs.Stores.{Store, size, weight_of}
use Rattle.chr_base.specs.Weights.{IsLighter, is_paired, rank, total_weight}
use Rattle.chr_base.proofs.FinBags.{sum_over-items}
use Rattle.chr_base.proofs.Instances.{few_rule}
use Rattle.chr_weights.specs.Weights.{AreLowering, ProgramLowers, declared_weight, store_rank, store_weight, weight_by}
use Rattle.chr_weights.specs.Weights.{weight_in}
use Rattle.chr_weights.proofs.WeightLaws.{first_at_most, second_at_most, total_at_most, weight_at_most}

-- a weight as one number: k for each of its first number, and its second number
abbrev pub ranked : ℕ → (Atom → Weight) → Atom → ℕ
ranked k w a = k * (w a).first + (w a).second

-- the rank of an atom in the program
abbrev pub rank_in : Program → Atom → ℕ
rank_in p a = rank (weight_in p a)

-- ranks sum as pairs do
total_ranked : (k : ℕ) (w : Atom → Weight) (xs : List Atom) → total (ranked k w) xs
    ≡ k * total (λ a. (w a).first) xs + total (λ a. (w a).second) xs
total_ranked k w [] = omega arith
total_ranked k w (x ∷ xs) =
    let a = total_ranked k w xs in
    let b = mul-add k ((w x).first) (total (λ q. (w q).first) xs) in
    omega (arith, a, b)

-- the lighter of two has the lower rank, where its second number is small
lighter_ranks : (k : ℕ) (v w : Weight) → IsLighter v w → v.second < k → k * v.first + v.second < k * w.first + w.second
lighter_ranks k v w (inl h) l = let a = mul-le-mul_left {m = suc (v.first)} {n = w.first} k h in let b =
    mul-suc k (v.first) in omega (arith, a, b, l)
lighter_ranks k v w (inr h) l = let a = ap (λ n. k * n) h.0 in let b = h.1 in omega (arith, a, b, l)

few_in_body : (r : Rule) → length r.body.items ≤ MAX_BODY
few_in_body r = let h = (and_parts _ (nat_le (length r.body.items) MAX_BODY) (few_rule r)).1 in grind (arith, nat_tests)

-- rules that lower pairs lower their rank, where no second number is greater than m
pub lowering_ranks : (m : ℕ) (w : Atom → Weight) → ((a : Atom) → (w a).second ≤ m) → (rules : List Rule)
    → AreLowering w rules → (i : ℕ) (r : Rule) → slice_get rules i ≡ Some r → RuleLowers (ranked (MAX_BODY * m + 1) w) r
lowering_ranks m w small rules lowers i r e v =
    let k = MAX_BODY * m + 1 in
    let body = atoms_at v r.body.items in
    let a = total_ranked k w body in
    let b = total_ranked k w (atoms_at v r.removed.items) in
    let c = total_at_most (λ q. (w q).second) m small body in
    let few : length body ≤ MAX_BODY = (let n = length-map r.body.items (atom_at v) in let f = few_in_body r in
    omega (arith, n, f)) in
    let d = mul-le-mul_left {m = length body} {n = MAX_BODY} m few in
    let s : total (λ q. (w q).second) body < k = omega (arith, c, d) in
    let l = lighter_ranks k _ _ (lowers i r e v) s in
    omega (arith, a, b, l)

-- a program that lowers lowers the rank
pub lowers_rank : (p : Program) → ProgramLowers p → (i : ℕ) (r : Rule) → slice_get (rules_of p) i ≡ Some r
    → RuleLowers (rank_in p) r
lowers_rank p lowers = lowering_ranks MAX_WEIGHT (weight_in p) (λ a. (weight_at_most p a).1) (rules_of p) lowers

-- the rank of a store is that of its atoms summed
pub store_ranks : (p : Program) (s : Store) → weight_of (rank_in p) s ≡ store_rank p s
store_ranks p s =
    let a = sum_over-items (rank_in p) s in
    let b = total_ranked (MAX_BODY * MAX_WEIGHT + 1) (weight_in p) (items s) in
    let c = sum_over-items (λ q. (weight_in p q).first) s in
    let d = sum_over-items (λ q. (weight_in p q).second) s in
    omega (arith, a, b, c, d)

pub ranks_bounded : (p : Program) (s : Store) → store_rank p s ≤ 8000002000000 * size s
ranks_bounded p s =
    let a = first_at_most p s in
    let b = second_at_most p s in
    omega (arith, a, b)

-- ---- where all second numbers are 0

unpaired_declared : (ds : List Declaration) (i n : ℕ) → some_paired ds ≡ false
    → (declared_weight (slice_get ds i) n).second ≡ 0
unpaired_declared [] i n h = refl
unpaired_declared (d ∷ ds) zero n h = by (nat_eq d.arity n) refl
  where
    none : d.weight.second ≡ 0
    none = (let a = (or_parts (is_paired d.weight) (some_paired ds) h).0 in grind (arith, nat_tests))

    by : (b : Bool) → nat_eq d.arity n ≡ b → (declared_weight (Some d) n).second ≡ 0
    by true e = rw e none
    by false e = rw e refl
unpaired_declared (d ∷ ds) (suc i) n h = unpaired_declared ds i n ((or_parts (is_paired d.weight) (some_paired ds) h).1)

-- where no declared weight has a second number, each rule lowers the sum of the first numbers
pub lowers_first : (p : Program) → some_paired (declarations p) ≡ false → ProgramLowers p → (i : ℕ) (r : Rule)
    → slice_get (rules_of p) i ≡ Some r → RuleLowers (λ a. (weight_in p a).first) r
lowers_first p none lowers i r e v = by (lowers i r e v)
  where
    w : Atom → Weight
    w = weight_in p

    nothing : (xs : List Atom) → total (λ q. (weight_in p q).second) xs ≡ 0
    nothing [] = refl
    nothing (x ∷ xs) = let a = unpaired_declared (declarations p) x.symbol.0 (length x.args.items) none in let b =
        nothing xs in omega (arith, a, b)

    by : IsLighter (total_weight (weight_in p) (atoms_at v r.body.items))
        (total_weight (weight_in p) (atoms_at v r.removed.items))
        → total (λ q. (weight_in p q).first) (atoms_at v r.body.items) < total (λ q. (weight_in p q).first)
        (atoms_at v r.removed.items)
    by (inl h) = h
    by (inr h) = absurd (let a = nothing (atoms_at v r.removed.items) in let b = h.1 in omega (arith, a, b))

-- ---- weights that any declarations give

-- no second number is greater than all of them together
second_within : (ds : List Declaration) (i n : ℕ) → (declared_weight (slice_get ds i) n).second ≤ total
    (λ (d : Declaration). d.weight.second) ds
second_within [] i n = omega arith
second_within (d ∷ ds) zero n = by (nat_eq d.arity n) refl
  where
    by : (b : Bool) → nat_eq d.arity n ≡ b → (declared_weight (Some d) n).second ≤ d.weight.second + total
        (λ (d : Declaration). d.weight.second) ds
    by true e = rw e (omega arith)
    by false e = rw e (omega arith)
second_within (d ∷ ds) (suc i) n = let a = second_within ds i n in omega (arith, a)

-- the rank by these declarations
abbrev pub rank_by : List Declaration → Atom → ℕ
rank_by ds = ranked (MAX_BODY * total (λ (d : Declaration). d.weight.second) ds + 1) (weight_by ds)

pub lowers_rank_by : (ds : List Declaration) (rules : List Rule) → AreLowering (weight_by ds) rules → (i : ℕ) (r : Rule)
    → slice_get rules i ≡ Some r → RuleLowers (rank_by ds) r
lowers_rank_by ds rules lowers = lowering_ranks (total (λ (d : Declaration). d.weight.second) ds) (weight_by ds)
    (λ a. second_within ds a.symbol.0 (length a.args.items)) rules lowers
