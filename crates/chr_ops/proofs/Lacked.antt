-- The laws of exchange.
use Rattle.std.specs.Prelude.{◌≡◌, ◌≢◌, ℕ, zero, suc, Bool, true, false, not, List, [], ◌∷◌, Some, None, Option, cond}
use Rattle.std.specs.Prelude.{take}
use Rattle.std.specs.Option.{option_or, is_some, IsSomeAnd}
use Rattle.std.proofs.Common.{refl, sym, ap, ◌∙◌, subst, ⊎_elim, inl, inr}
use mathlib.Core.Bool.{true≢false}
use mathlib.Core.Logic.{◌⊎◌}
use Rattle.std.specs.Ordering.{eq_by_cmp}
use Rattle.std.specs.FinMap as map
use Rattle.std.specs.FinMap.{find}
use Rattle.std.specs.FinMap.Entries.{find-where_key, is_sorted-where_key}
use Rattle.chr_base.specs.Stores.{Store}
use Rattle.chr_ops.specs.declared.id.OpId.{OpId}
use Rattle.chr_ops.specs.declared.range.IdRange.{IdRange}
use Rattle.chr_ops.specs.Ids.{id_cmp}
use Rattle.chr_ops.proofs.IdOrder.{id_total, id_exact}
use Rattle.chr_ops.specs.Operations.{Operation, Operations}
use Rattle.chr_ops.specs.Joins.{union}
use Rattle.chr_ops.specs.Summaries.{covers, lacking}
use Rattle.chr_ops.specs.Exchange as law
use Rattle.chr_ops.proofs.Unions.{get-union}
use Rattle.chr_ops.proofs.EntryLists.{place_finds}

flip : (b : Bool) (x : Option Store) → cond (not b) x None ≡ cond b None x
flip true x = refl
flip false x = refl

find-lacking : (n : Operations) (rs : List IdRange) (q : OpId) → find id_cmp q (lacking n rs) ≡ cond (covers rs q) None
    (map.get n q)
find-lacking n rs q =
    find-where_key id_cmp (λ k. not (covers rs k)) q (λ x t. ap (λ k. not (covers rs k)) (sym (id_exact q x t)))
    (map.entries n)
    ∙ flip (covers rs q) (find id_cmp q (map.entries n)) ∙ ap (cond (covers rs q) None) (sym (map.get-entries n q))

pub lacked : law.LackedLaw
lacked m n rs just q = find-lacking n rs q ∙ ap (λ b. cond b None (map.get n q)) (just q)

either : (x y : Option Store) → option_or x (cond (is_some x) None y) ≡ option_or x y
either None y = refl
either (Some s) y = refl

pub exchange : law.ExchangeLaw
exchange m n rs just = map.same_map id_total id_exact _ _ (λ q.
    get-union m (lacking n rs) q ∙ ap (option_or (map.get m q)) (lacked m n rs just q)
    ∙ either (map.get m q) (map.get n q)
    ∙ ap (option_or (map.get m q)) (map.get-entries n q) ∙ sym (get-union m (map.entries n) q))

one_or_other : (x y : Option Store) → ((s t : Store) → x ≡ Some s → y ≡ Some t → s ≡ t) → option_or x y ≡ option_or y x
one_or_other None None h = refl
one_or_other None (Some t) h = refl
one_or_other (Some s) None h = refl
one_or_other (Some s) (Some t) h = ap Some (h s t refl refl)

pub one_union : law.OneUnionLaw
one_union m n one = map.same_map id_total id_exact _ _ (λ q.
    get-union m (map.entries n) q ∙ ap (option_or (map.get m q)) (sym (map.get-entries n q))
    ∙ one_or_other (map.get m q) (map.get n q) (one q)
    ∙ ap (option_or (map.get n q)) (map.get-entries m q) ∙ sym (get-union n (map.entries m) q))

-- a front finds what the whole list finds, or nothing
front_finds : (es : List Operation) (i : ℕ) (q : OpId) → (find id_cmp q (take i es) ≡ None)
    ⊎ (find id_cmp q (take i es) ≡ find id_cmp q es)
front_finds [] zero q = inl refl
front_finds [] (suc i) q = inl refl
front_finds (x ∷ es) zero q = inl refl
front_finds (x ∷ es) (suc i) q =
    elim (eq_by_cmp id_cmp q x.0) as (λ b. (cond b (Some x.1) (find id_cmp q (take i es)) ≡ None)
    ⊎ (cond b (Some x.1) (find id_cmp q (take i es)) ≡ cond b (Some x.1) (find id_cmp q es))) [
      | true ↦ inr refl
      | false ↦ front_finds es i q
    ]

no_other : (x : Option Store) (s : Store) → (x ≡ None) ⊎ (x ≡ Some s) → ¬ (IsSomeAnd x (λ t. t ≢ s))
no_other x s (inl e) h = subst (λ y. IsSomeAnd y (λ t. t ≢ s)) e h
no_other x s (inr e) h = subst (λ y. IsSomeAnd y (λ t. t ≢ s)) e h refl

none_held : (x y : Option Store) (s : Store) → cond (is_some x) None y ≡ Some s → x ≡ None
none_held None y s h = refl
none_held (Some t) y s h = absurd (true≢false (sym (ap is_some h)))

pub no_clash : law.NoClashLaw
no_clash m n rs just i id (o, at, e, held) =
    let sorted = is_sorted-where_key id_cmp (λ k. not (covers rs k)) (map.entries n) (map.entries_sorted n) in
    let found = place_finds (lacking n rs) i o sorted at in
    let new = none_held (map.get m o.0) (map.get n o.0) o.1 (sym (lacked m n rs just o.0) ∙ found) in
    let got = get-union m (take i (lacking n rs)) o.0 ∙ ap (λ x. option_or x (find id_cmp o.0 (take i (lacking n rs))))
    new in
    no_other (map.get (union m (take i (lacking n rs))) o.0) o.1
    (⊎_elim (λ none. inl (got ∙ none)) (λ same. inr (got ∙ same ∙ found)) (front_finds (lacking n rs) i o.0)) held
