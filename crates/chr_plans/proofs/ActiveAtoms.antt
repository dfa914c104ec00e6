-- Laws of a store at rest and an active atom beside it.
use Rattle.std.specs.Prelude.{◌≡◌, ℕ, ◌+◌, ◌<◌, ◌≤◌, List, [], ◌∷◌, ◌++◌, length, Some, slice_get, IsTrue, false, true}
use Rattle.std.specs.Prelude.{Bool, cond, ◌⊎◌, nat_lt, nat_le}
use Rattle.std.proofs.Common.{refl, sym, ap, subst, ◌∙◌, arith, inl, inr, length-append}
use Rattle.std.specs.Ordering.{eq_by_cmp, is_eq}
use Rattle.std.specs.Cmp.{tied_itself}
use Rattle.std.proofs.lemmas.Bool.{cases_lt, and_parts}
use Rattle.std.proofs.lemmas.Bool.Decides.{nat_tests}
use Rattle.std.proofs.lemmas.List.{map-append, length-map}
use Rattle.chr_base.specs.Atoms.{atom_cmp}
use Rattle.chr_base.specs.declared.limits.TheConstants.{MAX_HEADS}
use Rattle.chr_base.specs.declared.atom.Atom.{Atom}
use Rattle.chr_base.specs.declared.rule.Rule.{Rule}
use Rattle.chr_base.specs.FinBag.{◌⊕◌, ◌⊖◌, IsWithin, count_in, empty}
use Rattle.chr_base.specs.Rewriting.{IsAtRest}
use Rattle.chr_base.specs.Rules.{Step, Valuation, heads_at, atoms_at, atom_at, guard_holds, heads_of}
use Rattle.chr_base.specs.Stores.{Store, store_of, count}
use Rattle.chr_base.proofs.Atoms.{atom_total, same_is}
use Rattle.chr_base.proofs.FinBags.{count-of_list, count-empty, total-append}
use Rattle.chr_base.proofs.Instances.{sized_rule}
use Rattle.chr_base.proofs.SameSteps.{same_step}
use Rattle.chr_base.proofs.Stores.{count_plus, count_minus, same_store, store_of-append}
use Rattle.chr_plans.specs.Actives.{one, NoInstanceWith}
use Rattle.chr_plans.specs.Laws.{EmptyRests, PartsRest, Absorbs, RemovedReacts, KeptReacts, SameRulesRest}

pub no_instance : (rules : List Rule) (s : Store) → IsAtRest (Step rules) s → (i : ℕ) (r : Rule) (v : Valuation)
    → slice_get rules i ≡ Some r → IsTrue (guard_holds v r.guard.items)
    → IsWithin (store_of (heads_at v r)) s → ⊥
no_instance rules s rest i r v e g h =
    rest ((s ⊖ store_of (atoms_at v r.removed.items)) ⊕ store_of (atoms_at v r.body.items))
    (i, r, v, e, record { guard = g; there = h; after = refl })

pub part_rests : PartsRest
part_rests rules s t part rest u h =
    no_instance rules s rest h.0 h.1 h.2 h.3 h.4.guard
    (λ q. (let a = h.4.there q in let b = part q in omega (arith, a, b)))

pub one_count : (a q : Atom) → count (one a) q ≡ cond (eq_by_cmp atom_cmp q a) 1 0
one_count a q = let e = count-of_list atom_total (a ∷ []) q in omega (arith, e)

-- an atom that is not `a` is not counted in it
pub one_other : (a q : Atom) → (q ≡ a) ⊎ (count (one a) q ≡ 0)
one_other a q = by (eq_by_cmp atom_cmp q a) refl
  where
    by : (b : Bool) → eq_by_cmp atom_cmp q a ≡ b → (q ≡ a) ⊎ (count (one a) q ≡ 0)
    by true e = inl (same_is q a e)
    by false e = inr (one_count a q ∙ ap (λ b. cond b 1 0) e)

-- what fits in s with `a` fits in s, or it has `a`, and the others fit in s
with_or_without : (h s : Store) (a : Atom) → IsWithin h (s ⊕ one a) → IsWithin h s
    ⊎ ((0 < count h a) × IsWithin (h ⊖ one a) s)
with_or_without h s a w = elim (cases_lt (count s a) (count h a)) as (λ _. IsWithin h s
    ⊎ ((0 < count h a) × IsWithin (h ⊖ one a) s)) [
      | inl more ↦ inr (
        omega (arith, more),
        λ q. (let e = w q in let f = count_plus s (one a) q in let g =
            count_minus h (one a) q in omega (arith, e, f, g)),
      )
      | inr few ↦ inl (λ q. (let p = w q in let f = count_plus s (one a) q in
          elim (one_other a q) as (λ _. count h q ≤ count s q) [
            | inl same ↦ rw same few
            | inr none ↦ omega (arith, p, f, none)
          ]))
    ]

pub absorbed : Absorbs
absorbed rules s a rest none u h =
    elim (with_or_without _ s a h.4.there) as (λ _. ⊥) [
      | inl within ↦ no_instance rules s rest h.0 h.1 h.2 h.3 h.4.guard within
      | inr w ↦ none h.0 h.1 h.2 h.3 h.4.guard w
    ]

-- what is in a store counts there at least once
one_within : (x : Store) (a q : Atom) → 0 < count x a → count (one a) q ≤ count x q
one_within x a q h = elim (one_other a q) as (λ _. count (one a) q ≤ count x q) [
  | inl same ↦ rw same (let e = one_count a a in let f = cond_le (eq_by_cmp atom_cmp a a) in omega (arith, e, f, h))
  | inr none ↦ omega (arith, none)
]
  where
    cond_le : (b : Bool) → cond b 1 0 ≤ 1
    cond_le true = omega arith
    cond_le false = omega arith

-- the heads of a rule are its kept and its removed ones
heads_count : (r : Rule) (v : Valuation) (q : Atom) → count (store_of (heads_at v r)) q
    ≡ count (store_of (atoms_at v r.kept.items)) q + count (store_of (atoms_at v r.removed.items)) q
heads_count r v q =
    ap (λ xs. count (store_of xs) q) (map-append (atom_at v) r.kept.items r.removed.items)
    ∙ ap (λ x. count x q) (store_of-append (atoms_at v r.kept.items) (atoms_at v r.removed.items))
    ∙ count_plus (store_of (atoms_at v r.kept.items)) (store_of (atoms_at v r.removed.items)) q

pub removed_reacts : RemovedReacts
removed_reacts rules i r v s a at guard here = record {
  part = λ q. (let e = count_minus s (store_of (atoms_at v r.removed.items) ⊖ one a) q in omega (arith, e));
  step = (
    i,
    r,
    v,
    at,
    record {
      guard = guard;
      there = λ q. (let w = here.1 q in let e = count_minus (store_of (heads_at v r)) (one a) q in let f =
          count_plus s (one a) q in omega (arith, w, e, f));
      after = same_store _ _ (λ q. (
          let w = here.1 q in
          let e = count_minus (store_of (heads_at v r)) (one a) q in
          let h = heads_count r v q in
          let o = one_within (store_of (atoms_at v r.removed.items)) a q here.0 in
          simp (count_plus, count_minus) (omega (arith, w, e, h, o))));
    },
  );
}

pub kept_reacts : KeptReacts
kept_reacts rules i r v s a at guard here = record {
  part = λ q. (let e = count_minus s (store_of (atoms_at v r.removed.items)) q in omega (arith, e));
  step = (
    i,
    r,
    v,
    at,
    record {
      guard = guard;
      there = λ q. (let w = here.1 q in let e = count_minus (store_of (heads_at v r)) (one a) q in let f =
          count_plus s (one a) q in omega (arith, w, e, f));
      after = same_store _ _ (λ q. (
          let w = here.1 q in
          let e = count_minus (store_of (heads_at v r)) (one a) q in
          let h = heads_count r v q in
          let o = one_within (store_of (atoms_at v r.kept.items)) a q here.0 in
          simp (count_plus, count_minus) (omega (arith, w, e, h, o))));
    },
  );
}

-- an item that counts stands somewhere
among : (xs : List Atom) (a : Atom) → 0 < count_in atom_cmp a xs → (ys : List Atom) × (zs : List Atom)
    × (xs ≡ ys ++ a ∷ zs)
among [] a h = absurd (omega (arith, h))
among (x ∷ xs) a h = by (eq_by_cmp atom_cmp a x) refl (among xs a)
  where
    by : (b : Bool) → eq_by_cmp atom_cmp a x ≡ b → (0 < count_in atom_cmp a xs → (ys : List Atom) × (zs : List Atom)
        × (xs ≡ ys ++ a ∷ zs)) → (ys : List Atom) × (zs : List Atom) × (x ∷ xs ≡ ys ++ a ∷ zs)
    by true e more = ([], xs, ap (λ y. y ∷ xs) (sym (same_is a x e)))
    by false e more =
        let f : ◌≡◌ {A = ℕ} (cond (eq_by_cmp atom_cmp a x) 1 0) 0 = ap (λ b. cond b 1 0) e in
        let m = more (omega (arith, h, f)) in
        (x ∷ m.0, m.1, ap (λ ys. x ∷ ys) m.2)

-- the heads but one
others_of : (ys zs : List Atom) (a : Atom) → store_of (ys ++ a ∷ zs) ⊖ one a ≡ store_of (ys ++ zs)
others_of ys zs a = same_store _ _ (λ q. (
    let e = count_minus (store_of (ys ++ a ∷ zs)) (one a) q in
    let f = count-of_list atom_total (ys ++ a ∷ zs) q in
    let g = count-of_list atom_total (ys ++ zs) q in
    let h = total-append (λ x. cond (eq_by_cmp atom_cmp q x) 1 0) ys (a ∷ zs) in
    let k = total-append (λ x. cond (eq_by_cmp atom_cmp q x) 1 0) ys zs in
    let m = one_count a q in
    omega (arith, e, f, g, h, k, m)))

-- head place by head place: where at no place the atom has the others in the store, it has no instance with it
pub by_places : (rules : List Rule) (s : Store) (a : Atom)
    → ((i : ℕ) (r : Rule) (v : Valuation) (ys zs : List Atom) → slice_get rules i ≡ Some r
    → IsTrue (guard_holds v r.guard.items) → heads_at v r ≡ ys ++ a ∷ zs → IsWithin (store_of (ys ++ zs)) s → ⊥)
    → NoInstanceWith rules s a
by_places rules s a none i r v at guard here =
    let w = among (heads_at v r) a (let e = count-of_list atom_total (heads_at v r) a in let h = here.0 in
    omega (arith, e, h)) in
    none i r v w.0 w.1 at guard w.2 (subst (λ x. IsWithin x s)
    (ap (λ xs. store_of xs ⊖ one a) w.2 ∙ others_of w.0 w.1 a) here.1)

pub empty_rests : EmptyRests
empty_rests rules u h = by (heads_at h.2 h.1) (some_head h.1 h.2) h.4.there
  where
    some_head : (r : Rule) (v : Valuation) → 0 < length (heads_at v r)
    some_head r v =
        let some = (and_parts (nat_lt 0 (length r.removed.items))
        (nat_le (length r.kept.items + length r.removed.items) MAX_HEADS) (sized_rule r)).0 in
        let both = length-append r.kept.items r.removed.items in
        let many = length-map (heads_of r) (atom_at v) in
        let n : 0 < length r.removed.items = grind (arith, nat_tests) in
        omega (arith, both, many, n)

    by : (xs : List Atom) → 0 < length xs → IsWithin (store_of xs) empty → ⊥
    by [] n w = absurd (omega (arith, n))
    by (x ∷ xs) n w =
        let a = w x in
        let e = count-of_list atom_total (x ∷ xs) x in
        let z = count-empty atom_cmp x in
        let t : ◌≡◌ {A = ℕ} (cond (eq_by_cmp atom_cmp x x) 1 0) 1 =
        ap (λ o. cond (is_eq o) 1 0) (tied_itself atom_total x) in
        absurd (omega (arith, a, e, z, t))

pub same_rest : SameRulesRest
same_rest rules others s e rest u h = rest u (same_step others rules s u (sym e) h)
