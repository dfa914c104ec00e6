-- Entries in order of a tree of leases: the map that they make.
use Rattle.std.specs.Prelude.{◌≡◌, ℕ, List, [], ◌∷◌, Some, None, Option, cond, T, length}
use Rattle.std.proofs.Common.{refl, sym, ap, ◌∙◌, subst, arith}
use Rattle.std.specs.declared.cmp.Ordering.TheVariants.{Less}
use Rattle.std.specs.Ordering.{nat_cmp, eq_by_cmp, is_lt}
use Rattle.std.specs.Cmp.{nat_cmp_total, eq_by_cmp_equiv}
use Rattle.std.specs.Map.{lookup, keys_of}
use Rattle.std.specs.List.{AllByRecursion}
use Rattle.std.specs.List.Sorted.{IsStrictlySortedBy}
use Rattle.std.proofs.lemmas.Map.Keys.{sorted_head, sorted_tail}
use Rattle.std.specs.BTreeMap.{is_at}
use Rattle.std.specs.FinMap as map
use Rattle.std.specs.FinMap.{find, is_sorted, nat_cmp-IsAntisymmetric}
use Rattle.std.specs.FinMap.Entries.{below_all, same_entries as same_lists}
use Rattle.chr_base.proofs.FinBags.{both}
use Rattle.chr_base.specs.Stores.{Store}
use Rattle.chr_replica.specs.Leases.{Leases}

abbrev Parts : Type 0
Parts = List (ℕ × Store)

-- what a tree's look-up finds
abbrev pub part_at : Parts → ℕ → Option Store
part_at es q = lookup (is_at (nat_cmp q)) es

abbrev pub leases_of : Parts → Leases
leases_of es = map.from_entries es

find_part : (es : Parts) (q : ℕ) → find nat_cmp q es ≡ part_at es q
find_part [] q = refl
find_part (e ∷ es) q = ap (cond (is_at (nat_cmp q) e.0) (Some e.1)) (find_part es q)

pub get_part : (es : Parts) (q : ℕ) → map.get (leases_of es) q ≡ part_at es q
get_part es q = map.get-from_entries nat_cmp_total es q ∙ find_part es q

-- entries that differ at one number make leases that differ there
pub one_inserted : (es fs : Parts) (k : ℕ) (v : Store)
    → ((q : ℕ) → part_at fs q ≡ cond (is_at (nat_cmp k) q) (Some v) (part_at es q))
    → leases_of fs ≡ map.insert (leases_of es) k v
one_inserted es fs k v h = map.same_map nat_cmp_total nat_cmp-IsAntisymmetric _ _ (λ q.
    get_part fs q ∙ h q ∙ ap (λ b. cond b (Some v) (part_at es q)) ((eq_by_cmp_equiv nat_cmp_total).symm k q)
    ∙ sym (map.get-insert nat_cmp_total (leases_of es) k v q ∙ ap (cond (eq_by_cmp nat_cmp q k) (Some v))
    (get_part es q)))

-- entries of which one list has nothing at a number make leases of which one has nothing there
pub one_removed : (es fs : Parts) (k : ℕ) → ((q : ℕ) → part_at fs q ≡ cond (is_at (nat_cmp k) q) None (part_at es q))
    → leases_of fs ≡ map.remove (leases_of es) k
one_removed es fs k h = map.same_map nat_cmp_total nat_cmp-IsAntisymmetric _ _ (λ q.
    get_part fs q ∙ h q ∙ ap (λ b. cond b None (part_at es q)) ((eq_by_cmp_equiv nat_cmp_total).symm k q)
    ∙ sym (map.get-remove nat_cmp_total (leases_of es) k q ∙ ap (cond (eq_by_cmp nat_cmp q k) None) (get_part es q)))

below_from : (k : ℕ) (es : Parts) → AllByRecursion (λ q. nat_cmp k q ≡ Less) (keys_of es) → T (below_all nat_cmp k es)
below_from k [] h = tt
below_from k (e ∷ es) h = both _ _ (subst (λ r. T (is_lt r)) (sym h.0) tt) (below_from k es h.1)

sorted_from : (es : Parts) → IsStrictlySortedBy nat_cmp (keys_of es) → T (is_sorted nat_cmp es)
sorted_from [] h = tt
sorted_from (e ∷ es) h =
    both _ _ (below_from e.0 es (sorted_head nat_cmp e.0 (keys_of es) h))
    (sorted_from es (sorted_tail nat_cmp e.0 (keys_of es) h))

-- entries in order are those of the leases that they make
entries_of : (es : Parts) → IsStrictlySortedBy nat_cmp (keys_of es) → map.entries (leases_of es) ≡ es
entries_of es h =
    same_lists nat_cmp nat_cmp_total nat_cmp-IsAntisymmetric (map.entries (leases_of es)) es
    (map.entries_sorted (leases_of es)) (sorted_from es h)
    (λ q. sym (map.get-entries (leases_of es) q) ∙ map.get-from_entries nat_cmp_total es q)

pub leases_len : (es : Parts) → IsStrictlySortedBy nat_cmp (keys_of es) → map.len (leases_of es) ≡ length es
leases_len es h = map.len-entries (leases_of es) ∙ ap length (entries_of es h)

pub no_leases : (es : Parts) → length es ≡ 0 → leases_of es ≡ map.empty
no_leases [] h = refl
no_leases (e ∷ es) h = absurd (omega (arith, h))
