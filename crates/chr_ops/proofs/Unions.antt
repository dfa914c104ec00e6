-- Look-ups in a union.
use Rattle.std.specs.Prelude.{◌≡◌, ℕ, ◌+◌, ◌-◌, ◌<◌, ◌≤◌, ◌||◌, List, [], ◌∷◌, ◌++◌, Some, None, Option, Bool, true}
use Rattle.std.specs.Prelude.{false, cond, length}
use Rattle.std.proofs.Common.{refl, sym, ap, ◌∙◌, get_or, take, drop, arith}
use Rattle.std.specs.Option.{option_or, is_some}
use Rattle.std.specs.List.{list_any}
use Rattle.std.proofs.lemmas.List.{take_more, drop_more}
use Rattle.std.proofs.lemmas.List.Folds.{list_any-append}
use Rattle.std.specs.Ordering.{eq_by_cmp}
use Rattle.std.specs.FinMap as map
use Rattle.std.specs.FinMap.{find}
use Rattle.chr_base.specs.Stores.{Store}
use Rattle.std.proofs.Math.Bool.{or-true, or-false}
use Rattle.chr_base.proofs.Places.{option_or_assoc}
use Rattle.chr_base.proofs.Stores.{plus_assoc, plus_empty}
use Rattle.chr_base.specs.FinBag.{◌⊕◌}
use Rattle.chr_ops.specs.declared.id.OpId.{OpId}
use Rattle.chr_ops.specs.Ids.{id_cmp}
use Rattle.chr_ops.proofs.IdOrder.{id_total, id_exact, same_id}
use Rattle.chr_ops.specs.Operations.{Operation, Operations, sum_of, told_store}
use Rattle.chr_ops.specs.Joins.{union, fresh}
use Rattle.chr_ops.specs.working.Joining.{AddsIds, IsWithout}
use Rattle.chr_ops.proofs.Told.{told_store-insert}

pub or_none : {X : Type 0} (x : Option X) → option_or x None ≡ x
or_none None = refl
or_none (Some x) = refl

find-append : (es os : List Operation) (q : OpId) → find id_cmp q (es ++ os) ≡ option_or (find id_cmp q es)
    (find id_cmp q os)
find-append [] os q = refl
find-append (e ∷ es) os q =
    elim (eq_by_cmp id_cmp q e.0) as (λ b. cond b (Some e.1) (find id_cmp q (es ++ os))
    ≡ option_or (cond b (Some e.1) (find id_cmp q es)) (find id_cmp q os)) [
      | true ↦ refl
      | false ↦ find-append es os q
    ]

pub get-union : (m : Operations) (os : List Operation) (q : OpId) → map.get (union m os) q ≡ option_or (map.get m q)
    (find id_cmp q os)
get-union m os q =
    map.get-from_entries id_total (map.entries m ++ os) q ∙ find-append (map.entries m) os q
    ∙ ap (λ x. option_or x (find id_cmp q os)) (sym (map.get-entries m q))

pub union_none : (m : Operations) → union m [] ≡ m
union_none m = map.same_map id_total id_exact _ _ (λ q. get-union m [] q ∙ or_none (map.get m q))

pub union_more : (m : Operations) (os ps : List Operation) → union (union m os) ps ≡ union m (os ++ ps)
union_more m os ps = map.same_map id_total id_exact _ _ (λ q.
    get-union (union m os) ps q ∙ ap (λ x. option_or x (find id_cmp q ps)) (get-union m os q)
    ∙ option_or_assoc (map.get m q) (find id_cmp q os) (find id_cmp q ps)
    ∙ ap (option_or (map.get m q)) (sym (find-append os ps q)) ∙ sym (get-union m (os ++ ps) q))

-- an operation that is held changes nothing
pub union_held : (m : Operations) (o : Operation) (s : Store) → map.get m o.0 ≡ Some s → union m (o ∷ []) ≡ m
union_held m o s h = map.same_map id_total id_exact _ _
    (λ q. get-union m (o ∷ []) q ∙ by q (eq_by_cmp id_cmp q o.0) refl)
  where
    by : (q : OpId) (b : Bool) → eq_by_cmp id_cmp q o.0 ≡ b → option_or (map.get m q) (cond b (Some o.1) None)
        ≡ map.get m q
    by q false e = or_none (map.get m q)
    by q true e = let there : map.get m q ≡ Some s = ap (map.get m) (same_id q o.0 e) ∙ h in
        ap (λ x. option_or x (Some o.1)) there ∙ sym there

-- a new operation joins the set
pub union_new : (m : Operations) (o : Operation) → map.get m o.0 ≡ None → union m (o ∷ []) ≡ map.insert m o.0 o.1
union_new m o h = map.same_map id_total id_exact _ _ (λ q. get-union m (o ∷ []) q ∙ by q (eq_by_cmp id_cmp q o.0) refl
    ∙ sym (map.get-insert id_total m o.0 o.1 q))
  where
    by : (q : OpId) (b : Bool) → eq_by_cmp id_cmp q o.0 ≡ b → option_or (map.get m q) (cond b (Some o.1) None)
        ≡ cond b (Some o.1) (map.get m q)
    by q false e = or_none (map.get m q)
    by q true e = ap (λ x. option_or x (Some o.1)) (ap (map.get m) (same_id q o.0 e) ∙ h)

pub len_inserted : (m : Operations) (k : OpId) (v : Store) → map.get m k ≡ None → map.len (map.insert m k v)
    ≡ map.len m + 1
len_inserted m k v new = map.len-insert id_total m k v ∙ ap (λ x. cond (is_some x) (map.len m) (map.len m + 1)) new

settle : {X : Type 0} (past here : Bool) (g h : Option X) → (here ≡ true → g ≡ None) → (here ≡ false → h ≡ g)
    → cond past None g ≡ cond (past || (here || false)) None h
settle true here g h none same = refl
settle false true g h none same = none refl
settle false false g h none same = sym (same refl)

without_pushed : {X : Type 0} (m n r : map.FinMap id_cmp X) (ids : List OpId) (k : OpId) → map.get n k ≡ None
    → ((q : OpId) → eq_by_cmp id_cmp q k ≡ false → map.get r q ≡ map.get n q) → IsWithout m ids n
    → IsWithout m (ids ++ k ∷ []) r
without_pushed m n r ids k new others h q =
    h q
    ∙ settle (list_any (eq_by_cmp id_cmp q) ids) (eq_by_cmp id_cmp q k) (map.get n q) (map.get r q)
    (λ e. ap (map.get n) (same_id q k e) ∙ new) (others q)
    ∙ ap (λ b. cond b None (map.get r q)) (sym (list_any-append (eq_by_cmp id_cmp q) ids (k ∷ [])))

-- an id that is not in a map may go into the list of those that it is without
pub without_more : {X : Type 0} (m n : map.FinMap id_cmp X) (ids : List OpId) (k : OpId) → map.get n k ≡ None
    → IsWithout m ids n → IsWithout m (ids ++ k ∷ []) n
without_more m n ids k new h = without_pushed m n n ids k new (λ _ _. refl) h

-- the operation of an id that went into the list may join the set
pub without_inserted : {X : Type 0} (m n : map.FinMap id_cmp X) (ids : List OpId) (k : OpId) (v : X) → map.get n k
    ≡ None → IsWithout m ids n → IsWithout m (ids ++ k ∷ []) (map.insert n k v)
without_inserted m n ids k v new h =
    without_pushed m n (map.insert n k v) ids k new (λ q e. map.get-insert id_total n k v q
    ∙ ap (λ b. cond b (Some v) (map.get n q)) e) h

gone : {X : Type 0} (past here : Bool) (g : Option X) → cond here None (cond past None g)
    ≡ cond (past || (here || false)) None g
gone true true g = refl
gone true false g = refl
gone false true g = refl
gone false false g = refl

settle_ids : (past here held : Bool) (x y : Option Store) → is_some y ≡ (held || past) → is_some x
    ≡ cond here true (is_some y) → is_some x ≡ (held || (past || (here || false)))
settle_ids past true held x y h g = g ∙ sym (ap (λ b. held || b) (or-true past) ∙ or-true held)
settle_ids past false held x y h g = g ∙ h ∙ ap (λ b. held || b) (sym (or-false past))

some_there : (here : Bool) (v : Store) (x : Option Store) → is_some (cond here (Some v) x) ≡ cond here true (is_some x)
some_there true v x = refl
some_there false v x = refl

-- the ids of a map with one more
pub ids_inserted : (m n : Operations) (ids : List OpId) (k : OpId) (v : Store) → AddsIds m ids n
    → AddsIds m (ids ++ k ∷ []) (map.insert n k v)
ids_inserted m n ids k v h q =
    settle_ids (list_any (eq_by_cmp id_cmp q) ids) (eq_by_cmp id_cmp q k) (map.contains_key m q)
    (map.get (map.insert n k v) q) (map.get n q) (h q)
    (ap is_some (map.get-insert id_total n k v q) ∙ some_there (eq_by_cmp id_cmp q k) v (map.get n q))
    ∙ ap (λ b. map.contains_key m q || b) (sym (list_any-append (eq_by_cmp id_cmp q) ids (k ∷ [])))

-- a set has no ids but its own
pub ids_none : (m : Operations) → AddsIds m [] m
ids_none m q = sym (or-false (map.contains_key m q))

-- the next id of a list is taken out after those before it
pub without_removed : {X : Type 0} (before now : map.FinMap id_cmp X) (ids : List OpId) (i : ℕ) (d : OpId)
    → i < length ids → IsWithout now (take i ids) before → IsWithout (map.remove now (get_or ids i d))
    (take (i + 1) ids) before
without_removed before now ids i d there h q =
    let k = get_or ids i d in
    map.get-remove id_total now k q ∙ ap (cond (eq_by_cmp id_cmp q k) None) (h q)
    ∙ gone (list_any (eq_by_cmp id_cmp q) (take i ids)) (eq_by_cmp id_cmp q k) (map.get before q)
    ∙ ap (λ b. cond b None (map.get before q)) (sym (ap (list_any (eq_by_cmp id_cmp q)) (take_more ids i d there)
    ∙ list_any-append (eq_by_cmp id_cmp q) (take i ids) (k ∷ [])))

all_gone : {X : Type 0} (a b : Bool) (x : Option X) → cond a None (cond b None x) ≡ cond (a || b) None x
all_gone true b x = refl
all_gone false b x = refl

-- an id before the last ones of a list is taken out after them
pub without_earlier : {X : Type 0} (before now next : map.FinMap id_cmp X) (ids : List OpId) (i : ℕ) (d : OpId)
    → 0 < i → i ≤ length ids → IsWithout now (drop i ids) before → next ≡ map.remove now (get_or ids (i - 1) d)
    → IsWithout next (drop (i - 1) ids) before
without_earlier before now next ids i d some inside h taken q =
    let k = get_or ids (i - 1) d in
    let there : i - 1 < length ids = omega (arith, some, inside) in
    let one : i - 1 + 1 ≡ i = omega (arith, some) in
    ap (λ m. map.get m q) taken ∙ map.get-remove id_total now k q ∙ ap (cond (eq_by_cmp id_cmp q k) None) (h q)
    ∙ all_gone (eq_by_cmp id_cmp q k) (list_any (eq_by_cmp id_cmp q) (drop i ids)) (map.get before q)
    ∙ ap (λ n. cond (eq_by_cmp id_cmp q k || list_any (eq_by_cmp id_cmp q) (drop n ids)) None (map.get before q))
    (sym one)
    ∙ ap (λ xs. cond (list_any (eq_by_cmp id_cmp q) xs) None (map.get before q)) (sym (drop_more ids (i - 1) d there))

-- what a map is without the ids that came is what was there
pub had_back : {X : Type 0} (m n r : map.FinMap id_cmp X) (ids : List OpId) → IsWithout m ids n → IsWithout r ids n
    → r ≡ m
had_back m n r ids h g = map.same_map id_total id_exact _ _ (λ q. g q ∙ sym (h q))

skip : (x : Option Store) (ps qs : List Operation) (s : Store) → x ≡ Some s → ps ≡ cond (is_some x) ps qs
skip x ps qs s e = ap (λ y. cond (is_some y) ps qs) (sym e)

take_new : (x : Option Store) (ps qs : List Operation) → x ≡ None → qs ≡ cond (is_some x) ps qs
take_new x ps qs e = ap (λ y. cond (is_some y) ps qs) (sym e)

-- a union tells what the set tells and what the new operations do
pub told_store-union : (m : Operations) (os : List Operation) → told_store (union m os)
    ≡ told_store m ⊕ sum_of (fresh m os)
told_store-union m [] = ap told_store (union_none m) ∙ sym (plus_empty (told_store m))
told_store-union m (o ∷ os) = ap told_store (sym (union_more m (o ∷ []) os))
    ∙ by (map.get m o.0) refl (told_store-union m os) (told_store-union (map.insert m o.0 o.1) os)
  where
    by : (x : Option Store) → map.get m o.0 ≡ x → told_store (union m os) ≡ told_store m ⊕ sum_of (fresh m os)
        → told_store (union (map.insert m o.0 o.1) os) ≡ told_store (map.insert m o.0 o.1) ⊕ sum_of
        (fresh (map.insert m o.0 o.1) os)
        → told_store (union (union m (o ∷ [])) os) ≡ told_store m ⊕ sum_of (fresh m (o ∷ os))
    by (Some s) e old new =
        ap (λ n. told_store (union n os)) (union_held m o s e) ∙ old
        ∙ ap (λ ps. told_store m ⊕ sum_of ps) (skip (map.get m o.0) (fresh m os) (o ∷ fresh (map.insert m o.0 o.1) os) s
        e)
    by None e old new =
        ap (λ n. told_store (union n os)) (union_new m o e) ∙ new
        ∙ ap (λ t. t ⊕ sum_of (fresh (map.insert m o.0 o.1) os)) (told_store-insert m o.0 o.1 e)
        ∙ plus_assoc (told_store m) o.1 (sum_of (fresh (map.insert m o.0 o.1) os))
        ∙ ap (λ ps. told_store m ⊕ sum_of ps) (take_new (map.get m o.0) (fresh m os)
        (o ∷ fresh (map.insert m o.0 o.1) os) e)
