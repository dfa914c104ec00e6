-- What an operation more makes of what a set tells.
use Rattle.std.specs.Prelude.{◌≡◌, List, [], ◌∷◌, Some, None, cond, length}
use Rattle.std.specs.Option.{is_some}
use Rattle.std.proofs.Common.{refl, sym, ap, ◌∙◌, arith}
use mathlib.Core.Bool.{true≢false}
use Rattle.std.specs.declared.cmp.Ordering.{Ordering}
use Rattle.std.specs.declared.cmp.Ordering.TheVariants.{Less, Equal, Greater}
use Rattle.std.specs.Ordering.{is_eq}
use Rattle.std.specs.FinMap as map
use Rattle.std.specs.FinMap.{find, put}
use Rattle.std.specs.FinMap.Entries.{by_order}
use Rattle.chr_base.specs.FinBag as bag
use Rattle.chr_base.specs.FinBag.{◌⊕◌}
use Rattle.chr_base.specs.Stores.{Store}
use Rattle.chr_base.proofs.Stores.{plus_comm, plus_assoc}
use Rattle.chr_ops.specs.declared.id.OpId.{OpId}
use Rattle.chr_ops.specs.Ids.{id_cmp}
use Rattle.chr_ops.proofs.IdOrder.{id_total}
use Rattle.chr_ops.specs.Operations.{Operation, Operations, sum_of, told_store}

pub swap_front : (s t u : Store) → s ⊕ (t ⊕ u) ≡ t ⊕ (s ⊕ u)
swap_front s t u = sym (plus_assoc s t u) ∙ ap (λ x. x ⊕ u) (plus_comm s t) ∙ plus_assoc t s u

-- a new id's bag joins the sum
sum_of-put : (k : OpId) (v : Store) (es : List Operation) → find id_cmp k es ≡ None → sum_of (put id_cmp k v es)
    ≡ v ⊕ sum_of es
sum_of-put k v [] h = refl
sum_of-put k v (e ∷ es) h = by (id_cmp k e.0) h (λ g. sum_of-put k v es g)
  where
    by : (r : Ordering) → cond (is_eq r) (Some e.1) (find id_cmp k es) ≡ None
        → (find id_cmp k es ≡ None → sum_of (put id_cmp k v es) ≡ v ⊕ sum_of es)
        → sum_of (by_order r ((k, v) ∷ e ∷ es) ((e.0, v) ∷ es) (e ∷ put id_cmp k v es)) ≡ v ⊕ (e.1 ⊕ sum_of es)
    by Less g more = refl
    by Equal g more = absurd (true≢false (ap is_some g))
    by Greater g more = ap (λ s. e.1 ⊕ s) (more g) ∙ swap_front e.1 v (sum_of es)

pub told_store-insert : (m : Operations) (k : OpId) (v : Store) → map.get m k ≡ None → told_store (map.insert m k v)
    ≡ told_store m ⊕ v
told_store-insert m k v h =
    ap sum_of (map.entries-insert id_total m k v) ∙ sum_of-put k v (map.entries m) (sym (map.get-entries m k) ∙ h)
    ∙ plus_comm v (told_store m)

-- a set of no operations tells nothing
pub told_store-empty : told_store map.empty ≡ bag.empty
told_store-empty = none (map.entries map.empty) (sym (map.len-entries map.empty) ∙ map.len-empty id_cmp Store)
  where
    none : (es : List Operation) → length es ≡ 0 → sum_of es ≡ bag.empty
    none [] h = refl
    none (e ∷ es) h = absurd (omega (arith, h))
