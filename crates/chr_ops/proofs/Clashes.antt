-- Some operation of a list clashes with a set, or none does.
use Rattle.std.specs.Prelude.{◌≢◌, ℕ, zero, suc, ◌⊎◌, List, [], ◌∷◌, Some, None, Option, IsSomeAnd, take}
use Rattle.std.proofs.Common.{refl, sym, subst, inl, inr}
use Rattle.std.proofs.lemmas.Option.{none-some, same_Some}
use Rattle.std.specs.FinMap as map
use Rattle.chr_base.specs.Stores.{Store}
use Rattle.chr_base.proofs.SameStores.{same_or}
use Rattle.chr_ops.specs.declared.id.OpId.{OpId}
use Rattle.chr_ops.specs.Operations.{Operation, Operations, IsHeldOtherwise}
use Rattle.chr_ops.specs.Joins.{union, ClashesAt, HasNoClash}
use Rattle.chr_ops.proofs.Unions.{union_none, union_more}

abbrev pub HasClash : Operations → List Operation → Type 0
HasClash m os = (i : ℕ) × (id : OpId) × ClashesAt m os i id

held_otherwise_or : (m : Operations) (o : Operation) → IsHeldOtherwise m o ⊎ (¬ (IsHeldOtherwise m o))
held_otherwise_or m o = by (map.get m o.0)
  where
    by : (x : Option Store) → IsSomeAnd x (λ b. b ≢ o.1) ⊎ (¬ (IsSomeAnd x (λ b. b ≢ o.1)))
    by None = inr (λ h. h)
    by (Some s) = elim (same_or s o.1) as (λ _. (s ≢ o.1) ⊎ (¬ (s ≢ o.1)))
        [ inl same ↦ inr (λ apart. apart same) | inr apart ↦ inl apart ]

-- one of a list clashes where it does behind the first
later : (m : Operations) (o : Operation) (os : List Operation) (i : ℕ) (id : OpId)
    → ClashesAt (union m (o ∷ [])) os i id → ClashesAt m (o ∷ os) (suc i) id
later m o os i id h = (h.0, h.1, h.2, subst (λ n. IsHeldOtherwise n h.0) (union_more m (o ∷ []) (take i os)) h.3)

none_from : (m : Operations) (o : Operation) (os : List Operation) → ¬ (IsHeldOtherwise m o)
    → HasNoClash (union m (o ∷ [])) os → HasNoClash m (o ∷ os)
none_from m o os first rest zero id h =
    first (subst (IsHeldOtherwise m) (sym (same_Some o h.0 h.1))
    (subst (λ n. IsHeldOtherwise n h.0) (union_none m) h.3))
none_from m o os first rest (suc i) id h =
    rest i id (h.0, h.1, h.2, subst (λ n. IsHeldOtherwise n h.0) (sym (union_more m (o ∷ []) (take i os))) h.3)

pub clash_or_none : (m : Operations) (os : List Operation) → HasClash m os ⊎ HasNoClash m os
clash_or_none m [] = inr (λ i id h. none-some h.0 h.1)
clash_or_none m (o ∷ os) = by (held_otherwise_or m o) (clash_or_none (union m (o ∷ [])) os)
  where
    by : IsHeldOtherwise m o ⊎ (¬ (IsHeldOtherwise m o)) → HasClash (union m (o ∷ [])) os
        ⊎ HasNoClash (union m (o ∷ [])) os → HasClash m (o ∷ os) ⊎ HasNoClash m (o ∷ os)
    by (inl here) rest = inl (zero, o.0, (o, refl, refl, subst (λ n. IsHeldOtherwise n o) (sym (union_none m)) here))
    by (inr first) (inl c) = inl (suc c.0, c.1, later m o os c.0 c.1 c.2)
    by (inr first) (inr rest) = inr (none_from m o os first rest)
