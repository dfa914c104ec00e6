-- The least kind of a sort, note by note.
use Rattle.std.specs.Prelude.{◌≡◌, ℕ, true, List, [], ◌∷◌, ◌++◌, ◌+◌, ◌<◌, length, take, get_or}
use Rattle.std.proofs.Common.{refl, sym, ap, subst, ◌∙◌, inl, inr}
use Rattle.std.proofs.lemmas.List.{take_more}
use mathlib.Core.Bool.{true≢false}
use Rattle.chr_base.specs.declared.term.Cmp.{Cmp}
use Rattle.chr_base.specs.declared.term.Cmp.TheVariants.{Less, AtMost, Greater, AtLeast, Equal, NotEqual}
use Rattle.chr_types.proofs.Members.{in_first, in_second, in_last}
use Rattle.chr_confluence.specs.Sorts.{Kind, ordered, equal, free, tells}
use Rattle.chr_sorting.specs.declared.notes.Note.{Note}
use Rattle.chr_sorting.specs.declared.notes.Note.TheVariants.{Joined, Stands, Compared}
use Rattle.chr_sorting.specs.working.Notes.{MeetsKind, IsLeastKind, raised}

-- every kind tells what the free one does
pub free_least : (k : Kind) (s : Cmp) → tells free s ≡ true → tells k s ≡ true
free_least k Equal h = refl
free_least k NotEqual h = absurd (true≢false (sym h))
free_least k Less h = absurd (true≢false (sym h))
free_least k AtMost h = absurd (true≢false (sym h))
free_least k Greater h = absurd (true≢false (sym h))
free_least k AtLeast h = absurd (true≢false (sym h))

all_tell : (s : Cmp) → tells ordered s ≡ true
all_tell Equal = refl
all_tell NotEqual = refl
all_tell Less = refl
all_tell AtMost = refl
all_tell Greater = refl
all_tell AtLeast = refl

-- a raised kind tells what it did, and the sign
pub raised_keeps : (k : Kind) (s c : Cmp) → tells k c ≡ true → tells (raised k s) c ≡ true
raised_keeps ordered s c h = h
raised_keeps equal Equal c h = h
raised_keeps equal NotEqual c h = h
raised_keeps equal Less c h = all_tell c
raised_keeps equal AtMost c h = all_tell c
raised_keeps equal Greater c h = all_tell c
raised_keeps equal AtLeast c h = all_tell c
raised_keeps free Equal c h = h
raised_keeps free NotEqual c h = free_least equal c h
raised_keeps free Less c h = all_tell c
raised_keeps free AtMost c h = all_tell c
raised_keeps free Greater c h = all_tell c
raised_keeps free AtLeast c h = all_tell c

pub raised_tells : (k : Kind) (s : Cmp) → tells (raised k s) s ≡ true
raised_tells ordered s = all_tell s
raised_tells equal Equal = refl
raised_tells equal NotEqual = refl
raised_tells equal Less = refl
raised_tells equal AtMost = refl
raised_tells equal Greater = refl
raised_tells equal AtLeast = refl
raised_tells free Equal = refl
raised_tells free NotEqual = refl
raised_tells free Less = refl
raised_tells free AtMost = refl
raised_tells free Greater = refl
raised_tells free AtLeast = refl

-- a kind that tells an order tells all
order_all : (l : Kind) (s : Cmp) → (tells l s ≡ true → l ≡ ordered) → tells l s ≡ true → (c : Cmp) → tells l c ≡ true
order_all l s only h c = ap (λ k. tells k c) (only h) ∙ all_tell c

only_less : (l : Kind) → tells l Less ≡ true → l ≡ ordered
only_less ordered h = refl
only_less equal h = absurd (true≢false (sym h))
only_less free h = absurd (true≢false (sym h))

only_at_most : (l : Kind) → tells l AtMost ≡ true → l ≡ ordered
only_at_most ordered h = refl
only_at_most equal h = absurd (true≢false (sym h))
only_at_most free h = absurd (true≢false (sym h))

only_greater : (l : Kind) → tells l Greater ≡ true → l ≡ ordered
only_greater ordered h = refl
only_greater equal h = absurd (true≢false (sym h))
only_greater free h = absurd (true≢false (sym h))

only_at_least : (l : Kind) → tells l AtLeast ≡ true → l ≡ ordered
only_at_least ordered h = refl
only_at_least equal h = absurd (true≢false (sym h))
only_at_least free h = absurd (true≢false (sym h))

equal_least : (l : Kind) → tells l NotEqual ≡ true → (c : Cmp) → tells equal c ≡ true → tells l c ≡ true
equal_least ordered h c g = all_tell c
equal_least equal h c g = g
equal_least free h c g = absurd (true≢false (sym h))

-- a raised kind tells no more than each kind that tells what it did and the sign
pub raised_least : (k l : Kind) (s : Cmp) → ((c : Cmp) → tells k c ≡ true → tells l c ≡ true) → tells l s ≡ true
    → (c : Cmp) → tells (raised k s) c ≡ true → tells l c ≡ true
raised_least ordered l s all one c h = all c h
raised_least equal l Equal all one c h = all c h
raised_least equal l NotEqual all one c h = all c h
raised_least equal l Less all one c h = order_all l Less (only_less l) one c
raised_least equal l AtMost all one c h = order_all l AtMost (only_at_most l) one c
raised_least equal l Greater all one c h = order_all l Greater (only_greater l) one c
raised_least equal l AtLeast all one c h = order_all l AtLeast (only_at_least l) one c
raised_least free l Equal all one c h = all c h
raised_least free l NotEqual all one c h = equal_least l one c h
raised_least free l Less all one c h = order_all l Less (only_less l) one c
raised_least free l AtMost all one c h = order_all l AtMost (only_at_most l) one c
raised_least free l Greater all one c h = order_all l Greater (only_greater l) one c
raised_least free l AtLeast all one c h = order_all l AtLeast (only_at_least l) one c

module _ (f : ℕ → ℕ) (n : ℕ) where
  pub no_kind_yet : IsLeastKind [] f n free
  no_kind_yet = record { meets = λ e i. absurd i; least = λ l met s h. free_least l s h }

  kept : (k : Kind) (s : Cmp) (e : Note) → MeetsKind f n k e → MeetsKind f n (raised k s) e
  kept k s (Joined p q) m = tt
  kept k s (Stands p c) m = tt
  kept k s (Compared p t) m = λ same. raised_keeps k s t (m same)

  -- a sign more at the sort
  pub kind_raised : (notes : List Note) (k : Kind) (p : ℕ) (s : Cmp) → IsLeastKind notes f n k → f p ≡ n
      → IsLeastKind (notes ++ Compared p s ∷ []) f n (raised k s)
  kind_raised notes k p s is same = record {
    meets = λ e i. elim (in_last e (Compared p s) notes i) as (λ _. MeetsKind f n (raised k s) e) [
      | inl h ↦ kept k s e (is.meets e h)
      | inr q ↦ subst (MeetsKind f n (raised k s)) (sym q) (λ _. raised_tells k s)
    ];
    least = λ l met. raised_least k l s (is.least l (λ e i. met e (in_first e notes (Compared p s ∷ []) i)))
        (met (Compared p s) (in_second (Compared p s) notes (Compared p s ∷ []) (inl refl)) same);
  }

  passed : (notes : List Note) (k : Kind) (e : Note) → IsLeastKind notes f n k → ((l : Kind) → MeetsKind f n l e)
      → IsLeastKind (notes ++ e ∷ []) f n k
  passed notes k e is any = record {
    meets = λ d i. elim (in_last d e notes i) as (λ _. MeetsKind f n k d)
        [ inl h ↦ is.meets d h | inr q ↦ subst (MeetsKind f n k) (sym q) (any k) ];
    least = λ l met. is.least l (λ d i. met d (in_first d notes (e ∷ []) i));
  }

  -- a sign at another sort, or no sign
  pub elsewhere_passed : (notes : List Note) (k : Kind) (p : ℕ) (s : Cmp) → IsLeastKind notes f n k → ¬ (f p ≡ n)
      → IsLeastKind (notes ++ Compared p s ∷ []) f n k
  elsewhere_passed notes k p s is other = passed notes k (Compared p s) is (λ l same. absurd (other same))

  pub other_kept : (notes : List Note) (k : Kind) (e : Note) → IsLeastKind notes f n k
      → ((p : ℕ) (s : Cmp) → e ≡ Compared p s → ⊥) → IsLeastKind (notes ++ e ∷ []) f n k
  other_kept notes k (Joined p q) is other = passed notes k (Joined p q) is (λ l. tt)
  other_kept notes k (Stands p c) is other = passed notes k (Stands p c) is (λ l. tt)
  other_kept notes k (Compared p s) is other = absurd (other p s refl)

  -- ---- the next note

  next_kind : (notes : List Note) (i : ℕ) (d e : Note) (k : Kind) → i < length notes → get_or notes i d ≡ e
      → IsLeastKind (take i notes ++ e ∷ []) f n k → IsLeastKind (take (i + 1) notes) f n k
  next_kind notes i d e k l q is = subst (λ ns. IsLeastKind ns f n k)
      (ap (λ x. take i notes ++ x ∷ []) (sym q) ∙ sym (take_more notes i d l)) is

  pub step_raised : (notes : List Note) (i : ℕ) (d : Note) (k : Kind) (p : ℕ) (s : Cmp) → i < length notes
      → get_or notes i d ≡ Compared p s → IsLeastKind (take i notes) f n k → f p ≡ n
      → IsLeastKind (take (i + 1) notes) f n (raised k s)
  step_raised notes i d k p s l q is same = next_kind notes i d (Compared p s) (raised k s) l q
      (kind_raised (take i notes) k p s is same)

  pub step_elsewhere : (notes : List Note) (i : ℕ) (d : Note) (k : Kind) (p : ℕ) (s : Cmp) → i < length notes
      → get_or notes i d ≡ Compared p s → IsLeastKind (take i notes) f n k → ¬ (f p ≡ n)
      → IsLeastKind (take (i + 1) notes) f n k
  step_elsewhere notes i d k p s l q is other = next_kind notes i d (Compared p s) k l q
      (elsewhere_passed (take i notes) k p s is other)

  pub step_other : (notes : List Note) (i : ℕ) (d : Note) (k : Kind) → i < length notes
      → ((p : ℕ) (s : Cmp) → get_or notes i d ≡ Compared p s → ⊥) → IsLeastKind (take i notes) f n k
      → IsLeastKind (take (i + 1) notes) f n k
  step_other notes i d k l other is = next_kind notes i d (get_or notes i d) k l refl
      (other_kept (take i notes) k (get_or notes i d) is other)
