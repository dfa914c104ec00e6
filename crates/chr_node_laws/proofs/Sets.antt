-- Sets of operations by their members, and the laws.
use Rattle.std.specs.Prelude.{◌≡◌, ◌⊎◌, ℕ, List, [], ◌∷◌, Some, None, Option, Bool, true, false, cond}
use Rattle.std.proofs.Common.{refl, sym, ap, subst, ◌∙◌, inl, inr}
use Rattle.std.specs.Ordering.{eq_by_cmp}
use Rattle.std.specs.List.{Contains}
use Rattle.std.proofs.lemmas.Cmp.{eq_by_cmp_equiv}
use Rattle.std.specs.FinMap as map
use Rattle.std.specs.FinMap.{find}
use Rattle.chr_base.specs.declared.rule.Rule.{Rule}
use Rattle.chr_base.specs.Stores.{Store}
use Rattle.chr_base.specs.Rules.{Step}
use Rattle.chr_base.specs.Rewriting.{IsNormalForm}
use Rattle.chr_confluence.specs.Confluence.{Confluent}
use Rattle.chr_ops.specs.declared.id.OpId.{OpId}
use Rattle.chr_ops.specs.Ids.{id_cmp}
use Rattle.chr_ops.proofs.IdOrder.{id_total, id_exact, same_id}
use Rattle.chr_ops.specs.Operations.{Operation, Operations, operations_of, told_store, IsHeld}
use Rattle.chr_records.specs.Records.{records_of, IsFront}
use Rattle.chr_node_laws.specs.Folders.{told_by, told_in, AreAlike, HoldsJust, HasOneBag, Shows}
use Rattle.chr_node_laws.specs.Runs.{Run, acknowledged, told, IsLeftBy, AreCopies, AreNumbered}
use Rattle.chr_node_laws.proofs.Members.{none_in_nil, first, later, cases, into_flat, from_flat}
use Rattle.chr_node_laws.proofs.Fronts.{left_are_fronts, front_tells}

-- a test is true or false
pub decided : (b : Bool) → (b ≡ true) ⊎ (b ≡ false)
decided true = inl refl
decided false = inr refl

pub some_is : {A : Type 0} (a b : A) → Some a ≡ Some b → a ≡ b
some_is a b is = cc

-- what is found stands there
pub found_there : (os : List Operation) (q : OpId) (s : Store) → find id_cmp q os ≡ Some s → Contains os (q, s)
found_there [] q s found = absurd (no_some found)
  where
    no_some : None ≡ Some s → ⊥
    no_some is = cc
found_there (e ∷ os) q s found = elim (decided (eq_by_cmp id_cmp q e.0)) [
  | inl same ↦
      let here : Some e.1 ≡ Some s = sym (ap (λ b. cond b (Some e.1) (find id_cmp q os)) same) ∙ found in
      let bag : e.1 ≡ s = some_is e.1 s here in
      let is : e ≡ (q, s) = λ i. (sym (same_id q e.0 same) i, bag i) in
      subst (λ (o : Operation). Contains (e ∷ os) o) is (first e os)
  | inr other ↦
      later e os (q, s)
      (found_there os q s (sym (ap (λ b. cond b (Some e.1) (find id_cmp q os)) other) ∙ found))
]

-- an id ties with itself
pub same_ties : (q : OpId) → eq_by_cmp id_cmp q q ≡ true
same_ties q = (eq_by_cmp_equiv id_total).refl q

-- of what stands there, something is found
finds_some : (os : List Operation) (q : OpId) (s : Store) → Contains os (q, s)
    → (t : Store) × (find id_cmp q os ≡ Some t)
finds_some [] q s there = absurd (none_in_nil (q, s) there)
finds_some (e ∷ os) q s there = elim (cases e os (q, s) there) [
  | inl is ↦
      let tied : eq_by_cmp id_cmp q e.0 ≡ true =
      ap (λ (o : Operation). eq_by_cmp id_cmp q o.0) is ∙ same_ties q in
      (e.1, ap (λ b. cond b (Some e.1) (find id_cmp q os)) tied)
  | inr rest ↦ elim (decided (eq_by_cmp id_cmp q e.0)) [
    | inl same ↦ (e.1, ap (λ b. cond b (Some e.1) (find id_cmp q os)) same)
    | inr other ↦
        let inner = finds_some os q s rest in
        (inner.0, ap (λ b. cond b (Some e.1) (find id_cmp q os)) other ∙ inner.1)
  ]
]

pub one_bag_is_held : (os : List Operation) → HasOneBag os → HoldsJust (operations_of os) os
one_bag_is_held os one o =
    let got : map.get (operations_of os) o.0 ≡ find id_cmp o.0 os = map.get-from_entries id_total os o.0 in (
      (λ held. found_there os o.0 o.1 (sym got ∙ held)),
      (λ there.
          let some = finds_some os o.0 o.1 there in
          got ∙ some.1 ∙ ap Some (one o.0 some.0 o.1 (found_there os o.0 some.0 some.1) there)),
    )

-- what the one set holds of an id, the other does
same_get : (m n : Operations) (os ps : List Operation) → AreAlike os ps → HoldsJust m os → HoldsJust n ps → (q : OpId)
    → map.get m q ≡ map.get n q
same_get m n os ps alike held other q = go (map.get m q) refl (map.get n q) refl
  where
    go : (x : Option Store) → map.get m q ≡ x → (y : Option Store) → map.get n q ≡ y → map.get m q ≡ map.get n q
    go (Some s) is y and =
        is ∙ sym ((other (q, s)).1 ((alike (q, s)).0 ((held (q, s)).0 is)))
    go None is None and = is ∙ sym and
    go None is (Some t) and = (held (q, t)).1 ((alike (q, t)).1 ((other (q, t)).0 and)) ∙ sym and

pub alike_are_one : (m n : Operations) (os ps : List Operation) → AreAlike os ps → HoldsJust m os → HoldsJust n ps
    → m ≡ n
alike_are_one m n os ps alike held other =
    map.same_map id_total id_exact m n (same_get m n os ps alike held other)

pub agree : (rules : List Rule) (meaning : List ℕ → List Operation) (files others : List (List ℕ)) (s t : Store)
    → Confluent rules → AreAlike (told_in meaning files) (told_in meaning others) → Shows rules meaning files s
    → Shows rules meaning others t → s ≡ t
agree rules meaning files others s t confluent alike shows other =
    let same : shows.operations ≡ other.operations =
    alike_are_one shows.operations other.operations (told_in meaning files) (told_in meaning others) alike shows.held
    other.held in
    confluent (told_store shows.operations) s t shows.values shows.normal
    (subst (λ (m : Operations). IsNormalForm (Step rules) (told_store m) t) (sym same) other.normal)

pub acknowledged_are_held : (meaning : List ℕ → List Operation) (r : Run) (file : List ℕ) (files : List (List ℕ))
    (m : Operations) (o : Operation) → IsLeftBy r file → Contains files file → HoldsJust m (told_in meaning files)
    → Contains (told_by meaning (acknowledged r)) o → IsHeld m o
acknowledged_are_held meaning r file files m o left there held told_it =
    let front = (left_are_fronts r file left).0 in
    (held o).1 (into_flat (λ f. told_by meaning (records_of f)) files file o there
    (front_tells meaning (acknowledged r) (records_of file) o front told_it))

-- what copies tell, some run was told
teller : (meaning : List ℕ → List Operation) (runs : List Run) (files : List (List ℕ)) (o : Operation)
    → AreCopies runs files → Contains (told_in meaning files) o
    → (r : Run) × Contains runs r × Contains (told_by meaning (told r)) o
teller meaning runs files o are there =
    let by = from_flat (λ f. told_by meaning (records_of f)) files o there in
    let copy = are by.0 by.1 in
    (copy.0, copy.1, front_tells meaning (records_of by.0) (told copy.0) o copy.2 by.2)

pub no_others_are_held : (meaning : List ℕ → List Operation) (runs : List Run) (files : List (List ℕ)) (m : Operations)
    (o : Operation) → AreCopies runs files → HoldsJust m (told_in meaning files) → IsHeld m o
    → (r : Run) × Contains runs r × Contains (told_by meaning (told r)) o
no_others_are_held meaning runs files m o are held is = teller meaning runs files o are ((held o).0 is)

pub copies_tell_no_more : (meaning : List ℕ → List Operation) (files : List (List ℕ)) (file copy : List ℕ)
    → Contains files file → IsFront (records_of copy) (records_of file)
    → AreAlike (told_in meaning (copy ∷ files)) (told_in meaning files)
copies_tell_no_more meaning files file copy there front o =
    let tells = λ (f : List ℕ). told_by meaning (records_of f) in (
      (λ inside.
          let by = from_flat tells (copy ∷ files) o inside in
          elim (cases copy files by.0 by.1) [
            | inl is ↦
                let told_it = subst (λ (f : List ℕ). Contains (told_by meaning (records_of f)) o) (sym is) by.2 in
                into_flat tells files file o there
                (front_tells meaning (records_of copy) (records_of file) o front told_it)
            | inr rest ↦ into_flat tells files by.0 o rest by.2
          ]),
      (λ inside.
          let by = from_flat tells files o inside in
          into_flat tells (copy ∷ files) by.0 o (later copy files by.0 by.1) by.2),
    )

pub origins_keep_apart : (meaning : List ℕ → List Operation) (runs : List Run) (files : List (List ℕ))
    → AreNumbered meaning runs → AreCopies runs files → HasOneBag (told_in meaning files)
origins_keep_apart meaning runs files are copies id s t a b =
    let r = teller meaning runs files (id, s) copies a in
    let q = teller meaning runs files (id, t) copies b in
    let origin : r.0.origin ≡ q.0.origin =
    sym ((are.each r.0 r.1).origin (id, s) r.2) ∙ (are.each q.0 q.1).origin (id, t) q.2 in
    let same = are.different r.0 q.0 r.1 q.1 origin in
    (are.each r.0 r.1).one id s t r.2
    (subst (λ (p : Run). Contains (told_by meaning (told p)) (id, t)) (sym same) q.2)
