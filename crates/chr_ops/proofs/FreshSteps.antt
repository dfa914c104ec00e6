-- One operation more of those that may be new.
use Rattle.std.specs.Prelude.{◌≡◌, ℕ, ◌+◌, ◌<◌, Bool, true, false, ◌||◌, List, [], ◌∷◌, ◌++◌, Some, None, Option, cond}
use Rattle.std.specs.Prelude.{length}
use mathlib.Core.Bool.{true≢false}
use Rattle.std.specs.Option.{option_or, is_some}
use Rattle.std.specs.List.{list_any}
use Rattle.std.specs.Cmp.{eq_by_cmp_equiv}
use Rattle.std.specs.BTreeSet as set
use Rattle.std.specs.BTreeSet.{BTreeSet}
use Rattle.std.proofs.Common.{refl, sym, ap, ◌∙◌, get_or, take}
use Rattle.std.proofs.Math.Bool.{or-false}
use Rattle.std.proofs.lemmas.List.{take_more}
use Rattle.std.specs.Ordering.{eq_by_cmp}
use Rattle.std.specs.FinMap as map
use Rattle.chr_base.specs.declared.atom.Atom.{Atom}
use Rattle.chr_base.specs.FinBag as bag
use Rattle.chr_base.specs.FinBag.{◌⊕◌}
use Rattle.chr_base.specs.Stores.{Store, store_of}
use Rattle.chr_base.proofs.Stores.{store_of-append, store_of-items, plus_empty, plus_assoc, plus_comm}
use Rattle.chr_ops.specs.declared.id.OpId.{OpId}
use Rattle.chr_ops.specs.Ids.{id_cmp}
use Rattle.chr_ops.proofs.IdOrder.{id_total}
use Rattle.chr_ops.specs.Operations.{Operation, Operations, sum_of}
use Rattle.chr_ops.specs.Joins.{union, fresh}
use Rattle.chr_ops.specs.working.Joining.{is_held_or_seen}
use Rattle.chr_ops.proofs.Unions.{get-union, union_none, union_more, union_held, union_new}

known_or : (x : Option Store) (here : Bool) (s : Store) → is_some (option_or x (cond here (Some s) None))
    ≡ (is_some x || here)
known_or None true s = refl
known_or None false s = refl
known_or (Some t) here s = refl

known_push : (m : Operations) (os : List Operation) (o : Operation) (q : OpId)
    → map.contains_key (union m (os ++ o ∷ [])) q ≡ (map.contains_key (union m os) q || eq_by_cmp id_cmp q o.0)
known_push m os o q = ap (λ n. map.contains_key n q) (sym (union_more m os (o ∷ [])))
    ∙ ap is_some (get-union (union m os) (o ∷ []) q) ∙ known_or (map.get (union m os) q) (eq_by_cmp id_cmp q o.0) o.1

-- what the operation adds, if it is new
abbrev pub added : Bool → Store → Store
added known s = cond known bag.empty s

one_sum : (known : Bool) (o : Operation) → sum_of (cond known [] (o ∷ [])) ≡ bag.empty ⊕ added known o.1
one_sum true o = sym (plus_empty bag.empty)
one_sum false o = plus_comm o.1 bag.empty

choose_old : (known : Bool) (a b c d : List Operation) (s : Store) → known ≡ true → sum_of a ≡ sum_of c ⊕ s
    → sum_of (cond known a b) ≡ sum_of (cond known c d) ⊕ s
choose_old true a b c d s e h = h
choose_old false a b c d s e h = absurd (true≢false (sym e))

choose_new : (known : Bool) (a b c d : List Operation) (s : Store) → known ≡ false → sum_of b ≡ sum_of d ⊕ s
    → sum_of (cond known a b) ≡ sum_of (cond known c d) ⊕ s
choose_new true a b c d s e h = absurd (true≢false e)
choose_new false a b c d s e h = h

fresh_push : (m : Operations) (os : List Operation) (o : Operation) → sum_of (fresh m (os ++ o ∷ []))
    ≡ sum_of (fresh m os) ⊕ added (map.contains_key (union m os) o.0) o.1
fresh_push m [] o = one_sum (map.contains_key m o.0) o ∙ ap (λ n. bag.empty ⊕ added (map.contains_key n o.0) o.1)
    (sym (union_none m))
fresh_push m (p ∷ os) o = by (map.get m p.0) refl (fresh_push m os o) (fresh_push (map.insert m p.0 p.1) os o)
  where
    by : (x : Option Store) → map.get m p.0 ≡ x → sum_of (fresh m (os ++ o ∷ [])) ≡ sum_of (fresh m os) ⊕ added
        (map.contains_key (union m os) o.0) o.1
        → sum_of (fresh (map.insert m p.0 p.1) (os ++ o ∷ [])) ≡ sum_of (fresh (map.insert m p.0 p.1) os) ⊕ added
        (map.contains_key (union (map.insert m p.0 p.1) os) o.0) o.1
        → sum_of (fresh m (p ∷ (os ++ o ∷ []))) ≡ sum_of (fresh m (p ∷ os)) ⊕ added
        (map.contains_key (union m (p ∷ os)) o.0) o.1
    by (Some s) e old new =
        let same : union m (p ∷ os) ≡ union m os = sym (union_more m (p ∷ []) os)
        ∙ ap (λ n. union n os) (union_held m p s e) in
        choose_old (map.contains_key m p.0) (fresh m (os ++ o ∷ [])) (p ∷ fresh (map.insert m p.0 p.1) (os ++ o ∷ []))
        (fresh m os) (p ∷ fresh (map.insert m p.0 p.1) os)
        (added (map.contains_key (union m (p ∷ os)) o.0) o.1) (ap is_some e)
        (old ∙ ap (λ n. sum_of (fresh m os) ⊕ added (map.contains_key n o.0) o.1) (sym same))
    by None e old new =
        let same : union m (p ∷ os) ≡ union (map.insert m p.0 p.1) os = sym (union_more m (p ∷ []) os)
        ∙ ap (λ n. union n os) (union_new m p e) in
        choose_new (map.contains_key m p.0) (fresh m (os ++ o ∷ [])) (p ∷ fresh (map.insert m p.0 p.1) (os ++ o ∷ []))
        (fresh m os) (p ∷ fresh (map.insert m p.0 p.1) os)
        (added (map.contains_key (union m (p ∷ os)) o.0) o.1) (ap is_some e)
        (ap (λ t. p.1 ⊕ t) (new ∙ ap (λ n. sum_of (fresh (map.insert m p.0 p.1) os) ⊕ added
        (map.contains_key n o.0) o.1) (sym same))
        ∙ sym (plus_assoc p.1 (sum_of (fresh (map.insert m p.0 p.1) os))
        (added (map.contains_key (union m (p ∷ os)) o.0) o.1)))

noted : (a old new here : Bool) → new ≡ cond here true old → (a || new) ≡ ((a || old) || here)
noted true old new here e = refl
noted false true new true e = e
noted false false new true e = e
noted false true new false e = e
noted false false new false e = e

-- an id that is put among the others
pub known_noted : (m : Operations) (old new : BTreeSet OpId) (id : OpId)
    → ((q : OpId) → set.contains id_cmp new q ≡ cond (eq_by_cmp id_cmp id q) true (set.contains id_cmp old q))
    → (q : OpId) → is_held_or_seen m new q ≡ (is_held_or_seen m old q || eq_by_cmp id_cmp q id)
known_noted m old new id h q =
    noted (map.contains_key m q) (set.contains id_cmp old q) (set.contains id_cmp new q) (eq_by_cmp id_cmp q id)
    (h q ∙ ap (λ b. cond b true (set.contains id_cmp old q)) ((eq_by_cmp_equiv id_total).symm id q))

module _ (m : Operations) (ops : List Operation) (i : ℕ) (o : Operation) (there : i < length ops)
    (is : o ≡ get_or ops i o) where
  next : take (i + 1) ops ≡ take i ops ++ o ∷ []
  next = take_more ops i o there ∙ ap (λ y. take i ops ++ y ∷ []) (sym is)

  pub known_more : (old new : BTreeSet OpId) → ((q : OpId) → map.contains_key (union m (take i ops)) q
      ≡ is_held_or_seen m old q) → ((q : OpId) → is_held_or_seen m new q
      ≡ (is_held_or_seen m old q || eq_by_cmp id_cmp q o.0))
      → (q : OpId) → map.contains_key (union m (take (i + 1) ops)) q ≡ is_held_or_seen m new q
  known_more old new h g q =
      ap (λ os. map.contains_key (union m os) q) next ∙ known_push m (take i ops) o q
      ∙ ap (λ b. b || eq_by_cmp id_cmp q o.0) (h q) ∙ sym (g q)

  -- the sum of the new operations, after one more
  sum_more : (known : Bool) (atoms : List Atom) → store_of atoms ≡ sum_of (fresh m (take i ops))
      → map.contains_key (union m (take i ops)) o.0 ≡ known → sum_of (fresh m (take (i + 1) ops))
      ≡ store_of atoms ⊕ added known o.1
  sum_more known atoms h k = ap (λ os. sum_of (fresh m os)) next ∙ fresh_push m (take i ops) o
      ∙ ap (λ b. sum_of (fresh m (take i ops)) ⊕ added b o.1) k ∙ ap (λ s. s ⊕ added known o.1) (sym h)

  pub atoms_more : (atoms more : List Atom) → store_of atoms ≡ sum_of (fresh m (take i ops))
      → map.contains_key (union m (take i ops)) o.0 ≡ false → more ≡ atoms ++ bag.items o.1 → store_of more
      ≡ sum_of (fresh m (take (i + 1) ops))
  atoms_more atoms more h k e =
      ap store_of e ∙ store_of-append atoms (bag.items o.1) ∙ ap (λ s. store_of atoms ⊕ s) (store_of-items o.1)
      ∙ sym (sum_more false atoms h k)

  pub atoms_kept : (atoms : List Atom) → store_of atoms ≡ sum_of (fresh m (take i ops))
      → map.contains_key (union m (take i ops)) o.0 ≡ true → store_of atoms ≡ sum_of (fresh m (take (i + 1) ops))
  atoms_kept atoms h k = sym (sum_more true atoms h k ∙ plus_empty (store_of atoms))

pub known_first : (m : Operations) (seen : BTreeSet OpId) → seen.keys ≡ [] → (q : OpId)
    → map.contains_key (union m []) q ≡ is_held_or_seen m seen q
known_first m seen none q =
    ap (λ n. map.contains_key n q) (union_none m) ∙ sym (or-false (map.contains_key m q))
    ∙ ap (λ ks. map.contains_key m q || list_any (eq_by_cmp id_cmp q) ks) (sym none)
