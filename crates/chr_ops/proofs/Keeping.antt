-- What keeps an operation set's facts.
use Rattle.std.specs.Prelude.{◌≡◌, ℕ, ◌+◌, ◌≤◌, ◌||◌, List, [], ◌∷◌, Some, None, cond, true, false, Bool}
use Rattle.std.proofs.Common.{refl, sym, ap, ◌∙◌, subst, arith}
use Rattle.std.proofs.lemmas.Option.{none-some}
use Rattle.std.specs.Option.{is_some, unwrap_or}
use Rattle.std.specs.Ordering.{eq_by_cmp}
use Rattle.std.specs.Cmp.{eq_by_cmp_equiv}
use Rattle.std.specs.FinMap as map
use Rattle.chr_base.specs.Stores.{Store, size}
use Rattle.chr_ops.specs.declared.id.OpId.{OpId}
use Rattle.chr_ops.specs.Ids.{id_cmp}
use Rattle.chr_ops.proofs.IdOrder.{id_total, id_exact, same_id}
use Rattle.chr_ops.specs.declared.limits.TheConstants.{MAX_TOLD}
use Rattle.chr_ops.specs.Operations.{Operations, IsOperationBag, told_store}
use Rattle.std.proofs.Math.Bool.{or-false}
use Rattle.chr_ops.specs.declared.range.IdRange.{IdRange}
use Rattle.chr_ops.specs.Summaries.{covers, CoversJust, IsApart}
use Rattle.chr_ops.specs.News.{is_one_of}
use Rattle.chr_ops.specs.working.Joining.{AddsIds, IsWithout}
use Rattle.chr_base.proofs.Stores.{size_empty, size_plus}
use Rattle.chr_ops.proofs.Unions.{ids_inserted, ids_none}
use Rattle.chr_ops.specs.working.Kept.{IsKept, AreOperationBags}
use Rattle.chr_ops.proofs.Told.{told_store-insert, told_store-empty}

pub kept_empty : IsKept 0 [] map.empty
kept_empty = record {
  counted = sym (ap size told_store-empty ∙ size_empty);
  within = omega arith;
  sized = λ q s h. absurd (none-some s (sym (map.get-empty id_cmp q) ∙ h));
  apart = tt;
  covering = λ q. sym (ap is_some (map.get-empty id_cmp q));
}

pub size_inserted : (m : Operations) (k : OpId) (v : Store) → map.get m k ≡ None → size (told_store (map.insert m k v))
    ≡ size (told_store m) + size v
size_inserted m k v new = ap size (told_store-insert m k v new) ∙ size_plus (told_store m) v

pub sized_inserted : (m : Operations) (k : OpId) (v : Store) → IsOperationBag v → AreOperationBags m
    → AreOperationBags (map.insert m k v)
sized_inserted m k v sized h q s g = by (eq_by_cmp id_cmp q k) (sym (map.get-insert id_total m k v q) ∙ g)
  where
    by : (b : Bool) → cond b (Some v) (map.get m q) ≡ Some s → IsOperationBag s
    by true e = subst IsOperationBag (ap (λ o. unwrap_or o v) e) sized
    by false e = h q s e

-- an operation that a set does not hold joins it, where there is room
pub kept_insert : (told : ℕ) (rs ss : List IdRange) (m : Operations) (k : OpId) (v : Store) → IsKept told rs m
    → map.get m k ≡ None → IsOperationBag v → told + size v ≤ MAX_TOLD
    → IsApart ss → ((q : OpId) → covers ss q ≡ (covers rs q || is_one_of (k ∷ []) q))
    → IsKept (told + size v) ss (map.insert m k v)
kept_insert told rs ss m k v h new sized room apart covered = record {
  counted = ap (λ n. n + size v) h.counted ∙ sym (size_inserted m k v new);
  within = room;
  sized = sized_inserted m k v sized h.sized;
  apart = apart;
  covering = λ q. covered q ∙ ap (λ b. b || is_one_of (k ∷ []) q) (h.covering q)
      ∙ sym (ids_inserted m m [] k v (ids_none m) q);
}

-- what was just put in is there
pub just_put : (m : Operations) (k : OpId) (v : Store) → map.get (map.insert m k v) k ≡ Some v
just_put m k v = map.get-insert id_total m k v k ∙ ap (λ b. cond b (Some v) (map.get m k))
    ((eq_by_cmp_equiv id_total).refl k)

-- what is put in at a new id and taken out again leaves what was there
pub put_back : (m : Operations) (k : OpId) (v : Store) → map.get m k ≡ None → map.remove (map.insert m k v) k ≡ m
put_back m k v new = map.same_map id_total id_exact _ _
    (λ q. map.get-remove id_total (map.insert m k v) k q ∙ by q (eq_by_cmp id_cmp q k) refl)
  where
    by : (q : OpId) (b : Bool) → eq_by_cmp id_cmp q k ≡ b → cond b None (map.get (map.insert m k v) q) ≡ map.get m q
    by q true e = sym (ap (map.get m) (same_id q k e) ∙ new)
    by q false e = map.get-insert id_total m k v q ∙ ap (λ b. cond b (Some v) (map.get m q)) e

-- a new id is not covered
pub new_uncovered : (rs : List IdRange) (m : Operations) (k q : OpId) → CoversJust rs m → map.get m k ≡ None
    → is_one_of (k ∷ []) q ≡ true → covers rs q ≡ false
new_uncovered rs m k q just new h = just q ∙ ap is_some
    (ap (map.get m) (same_id q k (sym (or-false (eq_by_cmp id_cmp q k)) ∙ h)) ∙ new)

-- what a map has not is not covered
pub without_uncovered : (rs : List IdRange) (m n : Operations) (ids : List OpId) (q : OpId) → CoversJust rs m
    → IsWithout m ids n → is_one_of ids q ≡ true → covers rs q ≡ false
without_uncovered rs m n ids q just without a = just q ∙ ap is_some (without q ∙ ap (λ b. cond b None (map.get n q)) a)

-- what came is covered
pub just_more : (rs ss : List IdRange) (m n : Operations) (ids : List OpId) → CoversJust rs m → AddsIds m ids n
    → ((q : OpId) → covers ss q ≡ (covers rs q || is_one_of ids q)) → CoversJust ss n
just_more rs ss m n ids just has covered q = covered q ∙ ap (λ b. b || is_one_of ids q) (just q) ∙ sym (has q)
