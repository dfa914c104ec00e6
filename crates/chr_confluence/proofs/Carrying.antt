-- Images of stores are additive, so a map that carries an instance carries its steps.
use Rattle.std.specs.Prelude.{◌≡◌, ℕ, zero, suc, ◌+◌, Bool, true, false, cond, List, [], ◌∷◌, ◌++◌, map}
use Rattle.std.proofs.Common.{refl, sym, ap, ◌∙◌, arith}
use Rattle.std.proofs.lemmas.List.{map-append}
use Rattle.std.specs.Ordering.{eq_by_cmp}
use Rattle.chr_base.specs.declared.atom.Atom.{Atom}
use Rattle.chr_base.specs.declared.rule.Rule.{Rule}
use Rattle.chr_base.specs.Atoms.{atom_cmp}
use Rattle.chr_base.proofs.Atoms.{atom_total}
use Rattle.chr_base.specs.FinBag.{◌⊕◌, ◌⊖◌, IsWithin, total, items, sum_over}
use Rattle.chr_base.proofs.FinBags as bag_laws
use Rattle.chr_base.specs.Stores.{Store, store_of, count}
use Rattle.chr_base.proofs.Stores.{count_plus, count_minus, same_store, split}
use Rattle.chr_base.specs.Rules.{Step, StepBy, Valuation, atom_at, atoms_at, heads_at}
use Rattle.chr_base.proofs.Steps.{removed_there}
use Rattle.chr_base.specs.Rewriting.{Runs, Reaches, AreJoinable}
use Rattle.chr_base.specs.Values.{Each}
use Rattle.chr_confluence.specs.Cases.{side, both_heads, case_store}
use Rattle.chr_confluence.specs.Matchings.{names, left_over}
use Rattle.chr_confluence.specs.Images.{image, Carries, CarriesSteps}

total-map : (g : Atom → ℕ) (f : Atom → Atom) (xs : List Atom) → total g (map f xs) ≡ total (λ x. g (f x)) xs
total-map g f [] = refl
total-map g f (x ∷ xs) = ap (λ n. g (f x) + n) (total-map g f xs)

-- how often an atom stands in the image
count_image : (f : Atom → Atom) (s : Store) (q : Atom) → count (image f s) q
    ≡ sum_over (λ x. cond (eq_by_cmp atom_cmp q (f x)) 1 0) s
count_image f s q = bag_laws.count-of_list atom_total (map f (items s)) q ∙ total-map _ f (items s)
    ∙ sym (bag_laws.sum_over-items _ s)

pub image_plus : (f : Atom → Atom) (s t : Store) → image f (s ⊕ t) ≡ image f s ⊕ image f t
image_plus f s t = same_store _ _ (λ q.
    (let a = count_image f (s ⊕ t) q in let b = count_image f s q in let c = count_image f t q in
    let d = bag_laws.sum_over-⊕ atom_total (λ x. cond (eq_by_cmp atom_cmp q (f x)) 1 0) s t in
    let e = count_plus (image f s) (image f t) q in omega (arith, a, b, c, d, e)))

pub image_list : (f : Atom → Atom) (xs : List Atom) → image f (store_of xs) ≡ store_of (map f xs)
image_list f xs = same_store _ _ (λ q.
    count_image f (store_of xs) q ∙ bag_laws.sum_over-of_list atom_total _ xs ∙ sym (total-map _ f xs)
    ∙ sym (bag_laws.count-of_list atom_total (map f xs) q))

pub image_within : (f : Atom → Atom) (s t : Store) → IsWithin s t → IsWithin (image f s) (image f t)
image_within f s t h q =
    let e = ap (λ x. count x q) (ap (image f) (sym (split t s h)) ∙ image_plus f (t ⊖ s) s) in
    let d = count_plus (image f (t ⊖ s)) (image f s) q in
    omega (arith, e, d)

pub image_minus : (f : Atom → Atom) (s t : Store) → IsWithin t s → image f (s ⊖ t) ≡ image f s ⊖ image f t
image_minus f s t h = same_store _ _ (λ q.
    (let e = ap (λ x. count x q) (ap (image f) (sym (split s t h)) ∙ image_plus f (s ⊖ t) t) in
    let d = count_plus (image f (s ⊖ t)) (image f t) q in
    let c = count_minus (image f s) (image f t) q in
    omega (arith, e, d, c)))

-- the heads of the carried instance
pub heads_carried : (f : Atom → Atom) (r : Rule) (v w : Valuation) → Carries f r v w → map f (heads_at v r)
    ≡ heads_at w r
heads_carried f r v w c =
    ap (map f) (map-append (atom_at v) r.kept.items r.removed.items) ∙ map-append f (atoms_at v r.kept.items)
    (atoms_at v r.removed.items)
    ∙ (λ i. c.kept i ++ c.removed i) ∙ sym (map-append (atom_at w) r.kept.items r.removed.items)

pub step_carried : (f : Atom → Atom) (r : Rule) (v w : Valuation) (s t : Store) → Carries f r v w → StepBy r v s t
    → StepBy r w (image f s) (image f t)
step_carried f r v w s t c st =
    let removed = removed_there r v s st.there in
    let there : IsWithin (store_of (heads_at w r)) (image f s) =
    rw (← heads_carried f r v w c, ← image_list f (heads_at v r)) (image_within f _ s st.there) in
    let after : image f t ≡ (image f s ⊖ store_of (atoms_at w r.removed.items)) ⊕ store_of (atoms_at w r.body.items) =
    rw (← c.removed, ← c.body, ← image_list f (atoms_at v r.removed.items), ← image_list f (atoms_at v r.body.items))
    (ap (image f) st.after ∙ image_plus f _ _ ∙ ap (λ x. x ⊕ image f (store_of (atoms_at v r.body.items)))
    (image_minus f s _ removed)) in
    record { guard = c.guard; there = there; after = after }

module _ (f : Atom → Atom) (p : Atom → Bool) (rules : List Rule) (all : CarriesSteps f p rules) where
  Runs-carried : (n : ℕ) (s t : Store) → Each p s → Runs (Step rules) n s t
      → Runs (Step rules) n (image f s) (image f t)
  Runs-carried zero s t e h = ap (image f) h
  Runs-carried (suc n) s t e h =
      let st = h.1 in
      let c = all.carries st.0 st.1 st.2 s h.0 st.3 e st.4 in (
        image f h.0,
        (st.0, st.1, c.0, st.3, step_carried f st.1 st.2 c.0 s h.0 c.1 st.4),
        Runs-carried n h.0 t (all.stays s h.0 e st) h.2,
      )

  pub reaches_carried : (s t : Store) → Each p s → Reaches (Step rules) s t → Reaches (Step rules) (image f s)
      (image f t)
  reaches_carried s t e h = (h.0, Runs-carried h.0 s t e h.1)

  pub join_carried : (t u : Store) → Each p t → Each p u → AreJoinable (Step rules) t u
      → AreJoinable (Step rules) (image f t) (image f u)
  join_carried t u e g j = (image f j.0, reaches_carried t j.0 e j.1, reaches_carried u j.0 g j.2)

-- ---- cases

-- a side of a case is carried to the side of the carried case
pub side_carried : (f : Atom → Atom) (r : Rule) (v w : Valuation) (c c' : Store) → map f (atoms_at v r.removed.items)
    ≡ atoms_at w r.removed.items → map f (atoms_at v r.body.items) ≡ atoms_at w r.body.items
    → IsWithin (store_of (atoms_at v r.removed.items)) c → image f c ≡ c' → image f (side r v c) ≡ side r w c'
side_carried f r v w c c' k l inside e =
    let removed : image f (store_of (atoms_at v r.removed.items)) ≡ store_of (atoms_at w r.removed.items) =
    image_list f _ ∙ ap store_of k in
    let body : image f (store_of (atoms_at v r.body.items)) ≡ store_of (atoms_at w r.body.items) =
    image_list f _ ∙ ap store_of l in
    image_plus f _ _ ∙ (λ i. (image_minus f c _ inside ∙ (λ j. e j ⊖ removed j)) i ⊕ body i)

left_over_map : (f : Atom → Atom) (m : List ℕ) (k : ℕ) (bs : List Atom) → left_over m k (map f bs)
    ≡ map f (left_over m k bs)
left_over_map f m k [] = refl
left_over_map f m k (b ∷ bs) =
    elim (names m (suc k)) as (λ x. cond x (left_over m (suc k) (map f bs)) (f b ∷ left_over m (suc k) (map f bs))
    ≡ map f (cond x (left_over m (suc k) bs) (b ∷ left_over m (suc k) bs))) [
      | true ↦ left_over_map f m (suc k) bs
      | false ↦ ap (λ xs. f b ∷ xs) (left_over_map f m (suc k) bs)
    ]

pub both_carried : (f : Atom → Atom) (r : Rule) (v w : Valuation) → Carries f r v w → map f (both_heads r v)
    ≡ both_heads r w
both_carried f r v w k = map-append f _ _ ∙ (λ i. k.kept i ++ k.removed i)

pub case_carried : (f : Atom → Atom) (r1 r2 : Rule) (m : List ℕ) (v1 v2 w1 w2 : Valuation) → map f (both_heads r1 v1)
    ≡ both_heads r1 w1 → map f (both_heads r2 v2) ≡ both_heads r2 w2
    → image f (case_store r1 r2 m v1 v2) ≡ case_store r1 r2 m w1 w2
case_carried f r1 r2 m v1 v2 w1 w2 e g =
    image_list f _ ∙ ap store_of (map-append f _ _ ∙ (λ i. e i
    ++ (sym (left_over_map f m 0 _) ∙ ap (left_over m 0) g) i))
