-- Lists of operations that are all new.
use Rattle.std.specs.Prelude.{◌≡◌, ℕ, ◌+◌, ◌<◌, true, false, List, [], ◌∷◌, ◌++◌, None, length, take, cond}
use mathlib.Core.Bool.{true≢false}
use Rattle.std.specs.Option.{is_some}
use Rattle.std.proofs.Common.{refl, sym, ap, ◌∙◌, subst, get_or, drop}
use Rattle.std.proofs.lemmas.List.{take_more, take-append-drop, drop_more}
use Rattle.std.specs.FinMap as map
use Rattle.chr_base.specs.FinBag.{◌⊕◌}
use Rattle.chr_ops.specs.Operations.{Operation, Operations, IsNew, told_store, sum_of}
use Rattle.chr_ops.specs.Joins.{union, fresh, AreNew}
use Rattle.chr_ops.proofs.IdsInOrder.{not_held}
use Rattle.chr_ops.proofs.Unions.{union_none, union_more, union_new, told_store-union}

-- a union with a list is that with its first operation, and then with the others
pub union_first : (m : Operations) (o : Operation) (os : List Operation) → IsNew m o
    → union m (o ∷ os) ≡ union (map.insert m o.0 o.1) os
union_first m o os new = sym (union_more m (o ∷ []) os) ∙ ap (λ n. union n os) (union_new m o new)

-- where all operations of a list are new, they are what is new among them, and all that they tell comes to what is told
fresh_all : (m : Operations) (os : List Operation) → AreNew m os → fresh m os ≡ os
fresh_all m [] all = refl
fresh_all m (o ∷ os) all =
    ap (λ x. cond (is_some x) (fresh m os) (o ∷ fresh (map.insert m o.0 o.1) os)) all.0
    ∙ ap (λ ps. o ∷ ps) (fresh_all (map.insert m o.0 o.1) os all.1)

pub told_store-new : (m : Operations) (os : List Operation) → AreNew m os
    → told_store (union m os) ≡ told_store m ⊕ sum_of os
told_store-new m os all = told_store-union m os ∙ ap (λ ps. told_store m ⊕ sum_of ps) (fresh_all m os all)

new_pushed : (m : Operations) (os : List Operation) (o : Operation) → AreNew m os → IsNew (union m os) o
    → AreNew m (os ++ o ∷ [])
new_pushed m [] o all new = (subst (λ n. IsNew n o) (union_none m) new, tt)
new_pushed m (p ∷ os) o all new =
    (all.0, new_pushed (map.insert m p.0 p.1) os o all.1 (subst (λ n. IsNew n o) (union_first m p os all.0) new))

new_within : (m : Operations) (os : List Operation) (o : Operation) (ps : List Operation)
    → AreNew m (os ++ o ∷ ps) → IsNew (union m os) o
new_within m [] o ps all = subst (λ n. IsNew n o) (sym (union_none m)) all.0
new_within m (p ∷ os) o ps all = subst (λ n. IsNew n o) (sym (union_first m p os all.0))
    (new_within (map.insert m p.0 p.1) os o ps all.1)

module _ (m : Operations) (ops : List Operation) (i : ℕ) (o : Operation) (there : i < length ops)
    (is : o ≡ get_or ops i o) where
  -- where one more operation is new, all so far are
  pub new_more : AreNew m (take i ops) → map.contains_key (union m (take i ops)) o.0 ≡ false
      → AreNew m (take (i + 1) ops)
  new_more all unknown = subst (AreNew m) (sym (take_more ops i o there ∙ ap (λ y. take i ops ++ y ∷ []) (sym is)))
      (new_pushed m (take i ops) o all (not_held (map.get (union m (take i ops)) o.0) unknown))

  -- where one operation is not new, not all are
  pub not_new : map.contains_key (union m (take i ops)) o.0 ≡ true → ¬ (AreNew m ops)
  not_new known all =
      let parts : take i ops ++ o ∷ drop (i + 1) ops ≡ ops = ap (λ y. take i ops ++ y ∷ drop (i + 1) ops) is
      ∙ ap (λ ys. take i ops ++ ys) (sym (drop_more ops i o there)) ∙ take-append-drop i ops in
      let new : map.get (union m (take i ops)) o.0 ≡ None =
      new_within m (take i ops) o (drop (i + 1) ops) (subst (AreNew m) (sym parts) all) in
      true≢false (sym known ∙ ap is_some new)
