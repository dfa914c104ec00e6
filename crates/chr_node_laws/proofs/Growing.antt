-- Sets that hold just the operations of a list, and grow with it.
use Rattle.std.specs.Prelude.{◌≡◌, ◌≢◌, ◌⊎◌, ℕ, zero, suc, List, [], ◌∷◌, ◌++◌, Some, None, Option, IsSomeAnd}
use Rattle.std.specs.Prelude.{cond, take}
use Rattle.std.proofs.Common.{refl, sym, ap, subst, ◌∙◌, inl, inr, append_assoc}
use Rattle.std.specs.Option.{option_or}
use Rattle.std.specs.Ordering.{eq_by_cmp}
use Rattle.std.specs.List.{Contains, flat_map}
use Rattle.std.proofs.lemmas.List.{append-nil}
use Rattle.std.proofs.lemmas.Grind.{flat_map-append}
use Rattle.std.proofs.lemmas.List.Elements.{Contains-append_left, Contains-append_right, Contains-append_cases}
use Rattle.std.specs.FinMap as map
use Rattle.std.specs.FinMap.{find}
use Rattle.chr_base.specs.Stores.{Store}
use Rattle.chr_base.proofs.SameStores.{same_or}
use Rattle.chr_ops.specs.declared.id.OpId.{OpId}
use Rattle.chr_ops.specs.Ids.{id_cmp}
use Rattle.chr_ops.proofs.IdOrder.{id_total, same_id}
use Rattle.chr_ops.proofs.Unions.{get-union, union_more, union_none}
use Rattle.chr_ops.specs.Operations.{Operation, Operations, IsHeld, IsNew, IsHeldOtherwise}
use Rattle.chr_ops.specs.Joins.{union, HasNoClash}
use Rattle.chr_records.specs.Records.{records_of}
use Rattle.chr_node_laws.specs.Folders.{told_by, told_in, AreAlike, HoldsJust}
use Rattle.chr_node_laws.proofs.Members.{none_in_nil, first, later, cases}
use Rattle.chr_node_laws.proofs.Sets.{found_there, same_ties, decided, some_is}

pub holds_alike : (m : Operations) (os ps : List Operation) → AreAlike os ps → HoldsJust m os → HoldsJust m ps
holds_alike m os ps alike held o = ((λ is. (alike o).0 ((held o).0 is)), (λ there. (held o).1 ((alike o).1 there)))

pub alike_of : (os ps : List Operation) → os ≡ ps → AreAlike os ps
alike_of os ps is o = (
  (λ there. subst (λ (l : List Operation). Contains l o) is there),
  (λ there. subst (λ (l : List Operation). Contains l o) (sym is) there),
)

-- no operation is held by the empty set
pub none_held : (o : Operation) → IsHeld map.empty o → ⊥
none_held o is =
    let empty : Operations = map.empty in
    let none : map.get empty o.0 ≡ None = map.get-empty id_cmp o.0 in
    let wrong : None ≡ Some o.1 = sym none ∙ is in cc

-- what is held once a new operation came: it, or what was held before
pub held_inserted : (m : Operations) (o x : Operation) → IsHeld (map.insert m o.0 o.1) x → IsHeld m x ⊎ (o ≡ x)
held_inserted m o x is =
    let got = map.get-insert id_total m o.0 o.1 x.0 in
    elim (decided (eq_by_cmp id_cmp x.0 o.0)) [
      | inl same ↦
          let here : Some o.1 ≡ Some x.1 =
          sym (ap (λ b. cond b (Some o.1) (map.get m x.0)) same) ∙ sym got ∙ is in
          let bag : o.1 ≡ x.1 = some_is o.1 x.1 here in
          inr (λ i. (sym (same_id x.0 o.0 same) i, bag i))
      | inr other ↦ inl (sym (ap (λ b. cond b (Some o.1) (map.get m x.0)) other) ∙ sym got ∙ is)
    ]

-- a new operation is held, and what was held before
pub inserted_held : (m : Operations) (o x : Operation) → IsNew m o → IsHeld m x ⊎ (o ≡ x)
    → IsHeld (map.insert m o.0 o.1) x
inserted_held m o x new (inr is) =
    subst (λ (y : Operation). IsHeld (map.insert m o.0 o.1) y) is
    (map.get-insert id_total m o.0 o.1 o.0
    ∙ ap (λ b. cond b (Some o.1) (map.get m o.0)) (same_ties o.0))
inserted_held m o x new (inl held) =
    let got = map.get-insert id_total m o.0 o.1 x.0 in
    elim (decided (eq_by_cmp id_cmp x.0 o.0)) [
      | inl same ↦
          let none : None ≡ Some x.1 = sym new ∙ ap (map.get m) (sym (same_id x.0 o.0 same)) ∙ held in absurd (cc)
      | inr other ↦ got ∙ ap (λ b. cond b (Some o.1) (map.get m x.0)) other ∙ held
    ]

-- one operation more is told, and the set takes it in
pub told_one : (m : Operations) (o : Operation) (os ps : List Operation) → IsNew m o → HoldsJust m os
    → AreAlike (o ∷ os) ps → HoldsJust (map.insert m o.0 o.1) ps
told_one m o os ps new held alike x = (
  (λ is. (alike x).0 (elim (held_inserted m o x is) [
    | inl before ↦ later o os x ((held x).0 before)
    | inr one ↦ subst (λ (y : Operation). Contains (o ∷ os) y) one (first o os)
  ])),
  (λ there. inserted_held m o x new (elim (cases o os x ((alike x).1 there)) [
    | inl one ↦ inr one
    | inr before ↦ inl ((held x).1 before)
  ])),
)

-- what stands before the rest of a list clashes with nothing
tail_clears : (m : Operations) (o : Operation) (os : List Operation) → HasNoClash m (o ∷ os)
    → HasNoClash (union m (o ∷ [])) os
tail_clears m o os none i id h =
    none (suc i) id (h.0, h.1, h.2, subst (λ n. IsHeldOtherwise n h.0) (union_more m (o ∷ []) (take i os)) h.3)

head_clear : (m : Operations) (o : Operation) (os : List Operation) → HasNoClash m (o ∷ os) → ¬ (IsHeldOtherwise m o)
head_clear m o os none otherwise =
    let same : union m [] ≡ m = union_none m in
    none zero o.0 (o, refl, refl, subst (λ n. IsHeldOtherwise n o) (sym same) otherwise)

-- an operation that is held under its id with no other bag is the one
one_bag : (x : Option Store) (s : Store) → ¬ (IsSomeAnd x (λ b. b ≢ s)) → (y : Option Store) → y ≡ Some s
    → option_or x y ≡ Some s
one_bag None s none y is = is
one_bag (Some b) s none y is = elim (same_or b s) [ inl same ↦ ap Some same | inr apart ↦ absurd (none apart) ]

-- each operation of a list that clashes with nothing is held in the union
pub joined : (m : Operations) (os : List Operation) (x : Operation) → HasNoClash m os → Contains os x
    → IsHeld (union m os) x
joined m [] x none there = absurd (none_in_nil x there)
joined m (o ∷ os) x none there = elim (cases o os x there) [
  | inl is ↦
      let found : find id_cmp o.0 (o ∷ os) ≡ Some o.1 =
      ap (λ b. cond b (Some o.1) (find id_cmp o.0 os)) (same_ties o.0) in
      subst (λ (y : Operation). IsHeld (union m (o ∷ os)) y) is
      (get-union m (o ∷ os) o.0 ∙ one_bag (map.get m o.0) o.1 (head_clear m o os none) _ found)
  | inr rest ↦
      subst (λ (n : Operations). IsHeld n x) (union_more m (o ∷ []) os)
      (joined (union m (o ∷ [])) os x (tail_clears m o os none) rest)
]

kept_or : (x y : Option Store) (s : Store) → option_or x y ≡ Some s → (x ≡ Some s) ⊎ (y ≡ Some s)
kept_or None y s is = inr is
kept_or (Some b) y s is = inl is

stays : (x y : Option Store) (s : Store) → x ≡ Some s → option_or x y ≡ Some s
stays (Some b) y s is = is
stays None y s is = absurd (cc)

-- what is held in a union: what was held before, or one of the list
pub held_in_union : (m : Operations) (os : List Operation) (o : Operation) → IsHeld (union m os) o
    → IsHeld m o ⊎ Contains os o
held_in_union m os o is = elim (kept_or (map.get m o.0) (find id_cmp o.0 os) o.1 (sym (get-union m os o.0) ∙ is)) [
  | inl before ↦ inl before
  | inr found ↦ inr (found_there os o.0 o.1 found)
]

-- what was held stays
pub held_before : (m : Operations) (os : List Operation) (o : Operation) → IsHeld m o → IsHeld (union m os) o
held_before m os o held = get-union m os o.0 ∙ stays (map.get m o.0) (find id_cmp o.0 os) o.1 held

-- operations that clash with nothing join the set
pub merged : (m : Operations) (os ps : List Operation) → HasNoClash m os → HoldsJust m ps
    → HoldsJust (union m os) (os ++ ps)
merged m os ps none held x = (
  (λ is. elim (held_in_union m os x is) [
    | inl before ↦ Contains-append_right os ps x ((held x).0 before)
    | inr new ↦ Contains-append_left os ps x new
  ]),
  (λ there. elim (Contains-append_cases os ps x there) [
    | inl new ↦ joined m os x none new
    | inr before ↦ held_before m os x ((held x).1 before)
  ]),
)

-- the third of some lists comes first
pub third_first : (a b c d : List Operation) → AreAlike (c ++ (a ++ (b ++ d))) (a ++ (b ++ (c ++ d)))
third_first a b c d o = (
  (λ there. elim (Contains-append_cases c (a ++ (b ++ d)) o there) [
    | inl in_c ↦
        Contains-append_right a (b ++ (c ++ d)) o (Contains-append_right b (c ++ d) o
        (Contains-append_left c d o in_c))
    | inr rest ↦ elim (Contains-append_cases a (b ++ d) o rest) [
      | inl in_a ↦ Contains-append_left a (b ++ (c ++ d)) o in_a
      | inr more ↦ elim (Contains-append_cases b d o more) [
        | inl in_b ↦ Contains-append_right a (b ++ (c ++ d)) o (Contains-append_left b (c ++ d) o in_b)
        | inr in_d ↦
            Contains-append_right a (b ++ (c ++ d)) o (Contains-append_right b (c ++ d) o
            (Contains-append_right c d o in_d))
      ]
    ]
  ]),
  (λ there. elim (Contains-append_cases a (b ++ (c ++ d)) o there) [
    | inl in_a ↦ Contains-append_right c (a ++ (b ++ d)) o (Contains-append_left a (b ++ d) o in_a)
    | inr rest ↦ elim (Contains-append_cases b (c ++ d) o rest) [
      | inl in_b ↦
          Contains-append_right c (a ++ (b ++ d)) o (Contains-append_right a (b ++ d) o
          (Contains-append_left b d o in_b))
      | inr more ↦ elim (Contains-append_cases c d o more) [
        | inl in_c ↦ Contains-append_left c (a ++ (b ++ d)) o in_c
        | inr in_d ↦
            Contains-append_right c (a ++ (b ++ d)) o (Contains-append_right a (b ++ d) o
            (Contains-append_right b d o in_d))
      ]
    ]
  ]),
)

-- a record of one operation more waits
pub one_waits : (meaning : List ℕ → List Operation) (a d : List Operation) (old new : List (List ℕ)) (text : List ℕ)
    (o : Operation) → new ≡ old ++ text ∷ [] → meaning text ≡ o ∷ []
    → AreAlike (o ∷ (a ++ (told_by meaning old ++ d))) (a ++ (told_by meaning new ++ d))
one_waits meaning a d old new text o more is =
    let w = told_by meaning old in
    let last : told_by meaning (text ∷ []) ≡ o ∷ [] =
    append-nil (meaning text) ∙ is in
    let told_new : told_by meaning new ≡ w ++ o ∷ [] =
    ap (told_by meaning) more ∙ flat_map-append meaning old (text ∷ []) ∙ ap (λ (l : List Operation). w ++ l) last in
    let whole : a ++ (told_by meaning new ++ d) ≡ a ++ (w ++ (o ∷ d)) =
    ap (λ (l : List Operation). a ++ (l ++ d)) told_new
    ∙ ap (λ (l : List Operation). a ++ l) (append_assoc w (o ∷ []) d) in
    alike_then (o ∷ (a ++ (w ++ d))) (a ++ (w ++ (o ∷ d))) (a ++ (told_by meaning new ++ d))
    (third_first a w (o ∷ []) d) (sym whole)
  where
    alike_then : (xs ys zs : List Operation) → AreAlike xs ys → ys ≡ zs → AreAlike xs zs
    alike_then xs ys zs alike same = subst (λ (l : List Operation). AreAlike xs l) same alike

-- what waits is appended to the first file
pub committed : (meaning : List ℕ → List Operation) (seen waiting new : List (List ℕ)) (d : List Operation)
    → new ≡ seen ++ waiting
    → told_by meaning seen ++ (told_by meaning waiting ++ d) ≡ told_by meaning new ++ d
committed meaning seen waiting new d is =
    sym (append_assoc (told_by meaning seen) (told_by meaning waiting) d)
    ∙ ap (λ (l : List Operation). l ++ d)
    (sym (flat_map-append meaning seen waiting) ∙ sym (ap (told_by meaning) is))
