-- Entries in order: the set that they make, and those of a set.
use Rattle.std.specs.Prelude.{◌≡◌, ℕ, zero, suc, List, [], ◌∷◌, Some, None, slice_get, Option, cond, false, T}
use Rattle.std.specs.Option.{IfSome, is_some, unwrap_or}
use mathlib.Core.Bool.{true≢false}
use Rattle.std.proofs.Common.{refl, sym, ap, ◌∙◌, subst}
use Rattle.std.specs.declared.cmp.Ordering.{Ordering}
use Rattle.std.specs.declared.cmp.Ordering.TheVariants.{Less, Equal, Greater}
use Rattle.std.specs.Ordering.{eq_by_cmp, is_eq, is_lt}
use Rattle.std.specs.Cmp.{eq_by_cmp_equiv, tied_itself}
use Rattle.std.specs.Map.{lookup, keys_of, values_of}
use Rattle.std.specs.List.{AllByRecursion}
use Rattle.std.specs.List.Sorted.{IsStrictlySortedBy}
use Rattle.std.proofs.lemmas.Map.Keys.{sorted_head, sorted_tail, IsDistinct-from_sorted}
use Rattle.std.proofs.lemmas.Map.Views.{All-values_from_lookup}
use Rattle.std.proofs.lemmas.List.Elements.{recursion_from_All}
use Rattle.std.specs.BTreeMap.{is_at}
use Rattle.std.specs.FinMap as map
use Rattle.std.specs.FinMap.{find, is_sorted}
use Rattle.std.specs.FinMap.Entries.{below_all, same_entries as same_lists}
use Rattle.chr_base.proofs.FinBags.{both, first, second}
use Rattle.chr_ops.specs.declared.id.OpId.{OpId}
use Rattle.chr_ops.specs.Ids.{id_cmp}
use Rattle.chr_ops.proofs.IdOrder.{id_total, id_exact}

abbrev map_of : {X : Type 0} → List (OpId × X) → map.FinMap id_cmp X
map_of es = map.from_entries es

-- what a tree's look-up finds
abbrev pub value_at : {X : Type 0} → List (OpId × X) → OpId → Option X
value_at es q = lookup (is_at (id_cmp q)) es

find_value : {X : Type 0} (es : List (OpId × X)) (q : OpId) → find id_cmp q es ≡ value_at es q
find_value [] q = refl
find_value (e ∷ es) q = ap (cond (is_at (id_cmp q) e.0) (Some e.1)) (find_value es q)

pub get_value : {X : Type 0} (es : List (OpId × X)) (q : OpId) → map.get (map_of es) q ≡ value_at es q
get_value es q = map.get-from_entries id_total es q ∙ find_value es q

-- entries that differ at one id make sets that differ there
pub one_inserted : {X : Type 0} (es fs : List (OpId × X)) (k : OpId) (v : X)
    → ((q : OpId) → value_at fs q ≡ cond (is_at (id_cmp k) q) (Some v) (value_at es q)) → map_of fs
    ≡ map.insert (map_of es) k v
one_inserted es fs k v h = map.same_map id_total id_exact _ _ (λ q.
    get_value fs q ∙ h q ∙ ap (λ b. cond b (Some v) (value_at es q)) ((eq_by_cmp_equiv id_total).symm k q)
    ∙ sym (map.get-insert id_total (map_of es) k v q ∙ ap (cond (eq_by_cmp id_cmp q k) (Some v)) (get_value es q)))

-- entries of which one list has nothing at an id make sets of which one has nothing there
pub one_removed : {X : Type 0} (es fs : List (OpId × X)) (k : OpId)
    → ((q : OpId) → value_at fs q ≡ cond (is_at (id_cmp k) q) None (value_at es q)) → map_of fs
    ≡ map.remove (map_of es) k
one_removed es fs k h = map.same_map id_total id_exact _ _ (λ q.
    get_value fs q ∙ h q ∙ ap (λ b. cond b None (value_at es q)) ((eq_by_cmp_equiv id_total).symm k q)
    ∙ sym (map.get-remove id_total (map_of es) k q ∙ ap (cond (eq_by_cmp id_cmp q k) None) (get_value es q)))

below_from : {X : Type 0} (k : OpId) (es : List (OpId × X)) → AllByRecursion (λ q. id_cmp k q ≡ Less) (keys_of es)
    → T (below_all id_cmp k es)
below_from k [] h = tt
below_from k (e ∷ es) h = both _ _ (subst (λ r. T (is_lt r)) (sym h.0) tt) (below_from k es h.1)

-- the ids of entries rise, said in two ways
pub sorted_from : {X : Type 0} (es : List (OpId × X)) → IsStrictlySortedBy id_cmp (keys_of es) → T (is_sorted id_cmp es)
sorted_from [] h = tt
sorted_from (e ∷ es) h = both _ _ (below_from e.0 es (sorted_head id_cmp e.0 (keys_of es) h))
    (sorted_from es (sorted_tail id_cmp e.0 (keys_of es) h))

-- entries in order are those of the set that they make
pub entries_of : {X : Type 0} (es : List (OpId × X)) → IsStrictlySortedBy id_cmp (keys_of es) → map.entries (map_of es)
    ≡ es
entries_of es h =
    same_lists id_cmp id_total id_exact (map.entries (map_of es)) es (map.entries_sorted (map_of es)) (sorted_from es h)
    (λ q. sym (map.get-entries (map_of es) q) ∙ map.get-from_entries id_total es q)

is_less : (r : Ordering) → T (is_lt r) → r ≡ Less
is_less Less h = refl
is_less Equal h = absurd h
is_less Greater h = absurd h

all_below : {X : Type 0} (k : OpId) (es : List (OpId × X)) → T (below_all id_cmp k es)
    → AllByRecursion (λ q. id_cmp k q ≡ Less) (keys_of es)
all_below k [] h = tt
all_below k (e ∷ es) h = (is_less (id_cmp k e.0) (first _ _ h), all_below k es (second _ _ h))

pub ids_sorted : {X : Type 0} (es : List (OpId × X)) → T (is_sorted id_cmp es) → IsStrictlySortedBy id_cmp (keys_of es)
unfolding IsStrictlySortedBy
ids_sorted [] h = tt
ids_sorted (e ∷ es) h = (all_below e.0 es (first _ _ h), ids_sorted es (second _ _ h))

-- a set's ids rise
pub ids_rise : {X : Type 0} (m : map.FinMap id_cmp X) → IsStrictlySortedBy id_cmp (keys_of (map.entries m))
ids_rise m = ids_sorted (map.entries m) (map.entries_sorted m)

some_of : {X : Type 0} (P : X → Type 0) (o : Option X) → ((s : X) → o ≡ Some s → P s) → IfSome o P
some_of P None h = tt
some_of P (Some s) h = h s refl

by_values : {X : Type 0} (P : X → Type 0) (es : List (OpId × X)) → AllByRecursion P (values_of es)
    → AllByRecursion (λ e. P e.1) es
by_values P [] h = tt
by_values P (e ∷ es) h = (h.0, by_values P es h.1)

-- what holds of each bag of a set holds of each of its entries
pub each_entry : {X : Type 0} (P : X → Type 0) (m : map.FinMap id_cmp X)
    → ((q : OpId) (s : X) → map.get m q ≡ Some s → P s) → AllByRecursion (λ e. P e.1) (map.entries m)
each_entry P m h =
    let es = map.entries m in
    by_values P es (recursion_from_All P (values_of es)
    (All-values_from_lookup (eq_by_cmp_equiv id_total) P es
    (IsDistinct-from_sorted id_cmp (keys_of es) (ids_rise m))
    (λ q. some_of P (value_at es q) (λ s e. h q s (map.get-entries m q ∙ find_value es q ∙ e)))))

apart : (r : Ordering) → T (is_lt r) → is_eq r ≡ false
apart Less h = refl
apart Equal h = absurd h
apart Greater h = refl

later_differs : {X : Type 0} (k : OpId) (es : List (OpId × X)) (i : ℕ) (o : OpId × X) → T (below_all id_cmp k es)
    → slice_get es i ≡ Some o → eq_by_cmp id_cmp k o.0 ≡ false
later_differs k [] i o h e = absurd (true≢false (sym (ap is_some e)))
later_differs k (x ∷ es) zero o h e = ap (λ y. eq_by_cmp id_cmp k y.0) (sym (ap (λ u. unwrap_or u x) e))
    ∙ apart (id_cmp k x.0) (first _ _ h)
later_differs k (x ∷ es) (suc i) o h e = later_differs k es i o (second _ _ h) e

-- in a list in order a value is what is found under its id
pub place_finds : {X : Type 0} (es : List (OpId × X)) (i : ℕ) (o : OpId × X) → T (is_sorted id_cmp es) → slice_get es i
    ≡ Some o → find id_cmp o.0 es ≡ Some o.1
place_finds [] i o h e = absurd (true≢false (sym (ap is_some e)))
place_finds (x ∷ es) zero o h e =
    let same : x ≡ o = ap (λ u. unwrap_or u x) e in
    ap (λ y. find id_cmp y.0 (x ∷ es)) (sym same) ∙ ap (λ r. cond (is_eq r) (Some x.1) (find id_cmp x.0 es))
    (tied_itself id_total x.0) ∙ ap (λ y. Some y.1) same
place_finds (x ∷ es) (suc i) o h e =
    ap (λ b. cond b (Some x.1) (find id_cmp o.0 es)) ((eq_by_cmp_equiv id_total).symm o.0 x.0
    ∙ later_differs x.0 es i o (first _ _ h) e) ∙ place_finds es i o (second _ _ h) e

all_at : {X : Type 0} (P : X → Type 0) (xs : List X) → ((i : ℕ) (x : X) → slice_get xs i ≡ Some x → P x)
    → AllByRecursion P xs
all_at P [] h = tt
all_at P (x ∷ xs) h = (h zero x refl, all_at P xs (λ i y e. h (suc i) y e))

-- each entry of a map is found under its id
pub each_found : {X : Type 0} (m : map.FinMap id_cmp X) → AllByRecursion (λ e. map.get m e.0 ≡ Some e.1) (map.entries m)
each_found m = all_at (λ e. map.get m e.0 ≡ Some e.1) (map.entries m)
    (λ i e at. map.get-entries m e.0 ∙ place_finds (map.entries m) i e (map.entries_sorted m) at)
