-- One operation more of a list that is joined.
use Rattle.std.specs.Prelude.{◌≡◌, ℕ, ◌+◌, ◌<◌, List, [], ◌∷◌, ◌++◌, Some, length}
use Rattle.std.proofs.Common.{sym, ap, ◌∙◌, subst, arith, get_or, take, ⊎_elim}
use Rattle.std.proofs.lemmas.List.{take_more}
use Rattle.std.proofs.lemmas.Option.{slice_get-get_or, get_or_from_slice_get}
use Rattle.std.proofs.lemmas.Bool.{cases_lt}
use Rattle.chr_ops.specs.declared.id.OpId.{OpId}
use Rattle.chr_ops.specs.Operations.{Operation, Operations, IsHeldOtherwise}
use Rattle.chr_ops.specs.Joins.{union, ClashesAt, IsFirstClash}
use Rattle.chr_ops.proofs.Unions.{union_more}

module _ (before now : Operations) (ops : List Operation) (i : ℕ) (x : Operation) (there : i < length ops)
    (is : x ≡ get_or ops i x) (taken : now ≡ union before (take i ops)) where
  pub taken_more : (next : Operations) → next ≡ union now (x ∷ []) → next ≡ union before (take (i + 1) ops)
  taken_more next e =
      e ∙ ap (λ m. union m (x ∷ [])) taken ∙ union_more before (take i ops) (x ∷ [])
      ∙ ap (union before) (ap (λ y. take i ops ++ y ∷ []) is ∙ sym (take_more ops i x there))

  pub first_clash : (id : OpId) → ((j : ℕ) (other : OpId) → j < i → ¬ (ClashesAt before ops j other)) → id ≡ x.0
      → IsHeldOtherwise now x → IsFirstClash before ops id
  first_clash id none e held =
      (i, (x, slice_get-get_or ops i x there ∙ ap Some (sym is), e, subst (λ m. IsHeldOtherwise m x) taken held), none)

  pub no_clash_more : ((j : ℕ) (other : OpId) → j < i → ¬ (ClashesAt before ops j other)) → ¬ (IsHeldOtherwise now x)
      → (j : ℕ) (other : OpId) → j < i + 1 → ¬ (ClashesAt before ops j other)
  no_clash_more none free j other l (o, at, e, held) =
      ⊎_elim (λ less. none j other less (o, at, e, held)) (λ more. (
      let same : j ≡ i = omega (arith, l, more) in
      let o_is : x ≡ o = is ∙ ap (λ k. get_or ops k x) (sym same) ∙ get_or_from_slice_get ops j o x at in
      free (subst (λ m. IsHeldOtherwise m x) (ap (λ k. union before (take k ops)) same ∙ sym taken)
      (subst (IsHeldOtherwise (union before (take j ops))) (sym o_is) held))
      )) (cases_lt j i)
