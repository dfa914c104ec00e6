-- Summaries and deltas are read from their own values and texts.
use Rattle.std.proofs.Common.{◌≡◌, ℕ, suc, ◌<◌, ◌^◌, List, [], ◌∷◌, ◌++◌, map, Bool, true, false, cond, ◌==◌, nat_le}
use Rattle.std.proofs.Common.{Option, Some, None, option_map, option_and_then, refl, sym, ap, subst, ◌∙◌, arith}
use Rattle.std.specs.List.{AllByRecursion}
use Rattle.std.proofs.lemmas.Bool.Decides.{nat_tests}
use Rattle.serde_json.specs.Data.{Data}
use Rattle.chr_ops.specs.declared.range.IdRange.{IdRange}
use Rattle.chr_base.specs.Traversals.{each}
use Rattle.chr_json.specs.Values.{joined, elements}
use Rattle.chr_json.specs.NamedAtoms.{named_atoms_of}
use Rattle.chr_json.specs.Printed.{natural_data, id_data, atoms_data}
use Rattle.chr_json.specs.Summaries.{range_of, ranges_of, origin_ranges_of, summary_of}
use Rattle.chr_json.specs.Deltas.{NamedOperation, named_operation, operation_of, numbered_of, all_numbered_of, group_of}
use Rattle.chr_json.specs.Deltas.{delta_from, delta_of}
use Rattle.chr_json.specs.Messages.{array_data, before_groups, groups, group_data, grouped_data, range_data}
use Rattle.chr_json.specs.Messages.{summary_data, operation_data, delta_1_data, numbered_data, delta_2_data}
use Rattle.chr_json.specs.Messages.{IsRangeWithinLimits, IsOperationWithinLimits, SummaryTextsAreRead}
use Rattle.chr_json.specs.Messages.{Delta1TextsAreRead, Delta2TextsAreRead}
use Rattle.chr_json.proofs.Arrays.{listed-items_of}
use Rattle.chr_json.proofs.Back.{origin_back, each_back, atoms_back, id_back}
use Rattle.chr_json.proofs.Writable.{IsWritable, writable_read, array_writable, mapped_writable, natural_writable}
use Rattle.chr_json.proofs.Writable.{atoms_writable}

-- what is read of an array's elements
of_array : {A : Type 0} (f : List Data → Option A) (ds : List Data) (there : Option A) → f ds ≡ there
    → option_and_then f (elements (array_data ds)) ≡ there
of_array f ds there h = ap f (listed-items_of ds) ∙ h

-- ---- groups

-- all items have the group's key
abbrev IsGroup : {A : Type 0} → (A → ℕ) → (A → Type 0) → ℕ × List A → Type 0
IsGroup key P g = (g.0 < 2 ^ 32) × AllByRecursion (λ x. (key x ≡ g.0) × P x) g.1

module _ {A : Type 0} (key : A → ℕ) (P : A → Type 0) (small : (x : A) → P x → key x < 2 ^ 32) where
  put_case : (b : Bool) (x : A) (g : ℕ × List A) (gs : List (ℕ × List A)) → (b ≡ true → key x ≡ g.0) → P x
      → IsGroup key P g → AllByRecursion (IsGroup key P) gs
      → AllByRecursion (IsGroup key P) (cond b ((key x, x ∷ g.1) ∷ gs) ((key x, x ∷ []) ∷ g ∷ gs))
  put_case false x g gs same p here rest = ((small x p, ((refl, p), tt)), (here, rest))
  put_case true x g gs same p here rest =
      let e = same refl in
      ((small x p, ((refl, p), subst (λ k. AllByRecursion (λ y. (key y ≡ k) × P y) g.1) (sym e) here.1)), rest)

  put_group : (x : A) (gs : List (ℕ × List A)) → P x → AllByRecursion (IsGroup key P) gs
      → AllByRecursion (IsGroup key P) (before_groups (key x) x gs)
  put_group x [] p h = ((small x p, ((refl, p), tt)), tt)
  put_group x (g ∷ gs) p h = put_case (key x == g.0) x g gs (λ e. grind (arith, nat_tests)) p h.0 h.1

  pub in_groups : (xs : List A) → AllByRecursion P xs → AllByRecursion (IsGroup key P) (groups key xs)
  in_groups [] h = tt
  in_groups (x ∷ xs) h = put_group x (groups key xs) h.0 (in_groups xs h.1)

  abbrev flat : List (ℕ × List A) → List A
  flat [] = []
  flat (g ∷ gs) = g.1 ++ flat gs

  flat_case : (b : Bool) (k : ℕ) (x : A) (g : ℕ × List A) (gs : List (ℕ × List A))
      → flat (cond b ((k, x ∷ g.1) ∷ gs) ((k, x ∷ []) ∷ g ∷ gs)) ≡ x ∷ flat (g ∷ gs)
  flat_case true k x g gs = refl
  flat_case false k x g gs = refl

  flat_put : (k : ℕ) (x : A) (gs : List (ℕ × List A)) → flat (before_groups k x gs) ≡ x ∷ flat gs
  flat_put k x [] = refl
  flat_put k x (g ∷ gs) = flat_case (k == g.0) k x g gs

  flat_groups : (xs : List A) → flat (groups key xs) ≡ xs
  flat_groups [] = refl
  flat_groups (x ∷ xs) = flat_put (key x) x (groups key xs) ∙ ap (λ l. x ∷ l) (flat_groups xs)

  joined_flat : (f : Data → Option (List A)) (written : A → Data)
      → ((g : ℕ × List A) → IsGroup key P g → f (group_data written g) ≡ Some g.1)
      → (gs : List (ℕ × List A)) → AllByRecursion (IsGroup key P) gs → joined f (map (group_data written) gs)
      ≡ Some (flat gs)
  joined_flat f written one [] h = refl
  joined_flat f written one (g ∷ gs) h =
      ap (option_and_then (λ ys. option_map (λ zs. ys ++ zs) (joined f (map (group_data written) gs)))) (one g h.0)
      ∙ ap (option_map (λ zs. g.1 ++ zs)) (joined_flat f written one gs h.1)

  -- where each group is read, all items are
  pub groups_back : (f : Data → Option (List A)) (written : A → Data)
      → ((g : ℕ × List A) → IsGroup key P g → f (group_data written g) ≡ Some g.1)
      → (xs : List A) → AllByRecursion P xs → option_and_then (joined f) (elements (grouped_data key written xs))
      ≡ Some xs
  groups_back f written one xs h =
      of_array (joined f) (map (group_data written) (groups key xs)) (Some xs)
      (joined_flat f written one (groups key xs) (in_groups xs h) ∙ ap Some (flat_groups xs))

  group_writable : (k : ℕ) (written : A → Data) → ((x : A) → P x → IsWritable k (written x)) → (g : ℕ × List A)
      → IsGroup key P g → IsWritable (suc (suc k)) (group_data written g)
  group_writable k written one g h =
      let key_small : g.0 < 2 ^ 64 = (let s = h.0 in omega (arith, s)) in
      array_writable (suc k) (natural_data g.0 ∷ array_data (map written g.1) ∷ []) (
        natural_writable (suc k) g.0 key_small,
        (
          mapped_writable k (λ x. (key x ≡ g.0) × P x) written
              (λ x p. one x p.1) g.1 h.1,
          tt,
        ),
      )

  pub grouped_writable : (k : ℕ) (written : A → Data) → ((x : A) → P x → IsWritable k (written x)) → (xs : List A)
      → AllByRecursion P xs → IsWritable (suc (suc (suc k))) (grouped_data key written xs)
  grouped_writable k written one xs h = mapped_writable (suc (suc k)) (IsGroup key P) (group_data written)
      (group_writable k written one) (groups key xs) (in_groups xs h)

-- ---- summaries

range_case : (b : Bool) (o : ℕ) (r : IdRange) → b ≡ true → r.origin ≡ o
    → cond b (Some (record { origin = o; lo = r.lo; hi = r.hi })) None ≡ Some r
range_case true o r e same = λ i. Some (record { origin = sym same i; lo = r.lo; hi = r.hi })
range_case false o r e same = absurd (grind (arith, nat_tests))

range_back : (o : ℕ) (r : IdRange) → (r.origin ≡ o) × IsRangeWithinLimits r → range_of o (range_data r) ≡ Some r
range_back o r h = range_case (nat_le r.lo r.hi) o r (let some = h.1.some in grind (arith, nat_tests)) h.0

ranges_back : (g : ℕ × List IdRange) → IsGroup (λ r. r.origin) IsRangeWithinLimits g
    → origin_ranges_of (group_data range_data g) ≡ Some g.1
ranges_back g h =
    ap (option_and_then (λ origin. ranges_of origin (array_data (map range_data g.1)))) (origin_back g.0 h.0)
    ∙ of_array (each (range_of g.0)) (map range_data g.1) (Some g.1)
    (each_back (range_of g.0) range_data (λ r. (r.origin ≡ g.0) × IsRangeWithinLimits r) (range_back g.0) g.1 h.1)

range_writable : (r : IdRange) → IsRangeWithinLimits r → IsWritable 1 (range_data r)
range_writable r h =
    let some = h.some in
    let hi = h.hi in
    let lo : r.lo < 2 ^ 64 = omega (arith, some, hi) in
    array_writable 0 (natural_data r.lo ∷ natural_data r.hi ∷ [])
    (natural_writable 0 r.lo lo, (natural_writable 0 r.hi hi, tt))

pub summary_writable : (rs : List IdRange) → AllByRecursion IsRangeWithinLimits rs → IsWritable 4 (summary_data rs)
summary_writable rs h = grouped_writable (λ r. r.origin) IsRangeWithinLimits
    (λ r p. p.origin) 1 range_data range_writable rs h

pub summary_back : (rs : List IdRange) → AllByRecursion IsRangeWithinLimits rs → summary_of (summary_data rs) ≡ Some rs
summary_back rs h = groups_back (λ r. r.origin) IsRangeWithinLimits (λ r p. p.origin) origin_ranges_of range_data
    ranges_back rs h

pub summaries_back : SummaryTextsAreRead
summaries_back rs h = ap (option_and_then summary_of) (writable_read 4 (summary_data rs) (summary_writable rs h)
    (omega arith)) ∙ summary_back rs h

-- ---- operations

operation_back : (o : NamedOperation) → IsOperationWithinLimits o → operation_of (operation_data o) ≡ Some o
operation_back o h =
    ap (λ p. option_and_then (λ q. option_map (named_operation q.0 q.1) (named_atoms_of (atoms_data o.atoms))) p)
    (id_back o.id.origin o.id.number h.origin)
    ∙ ap (option_map (named_operation o.id.origin o.id.number)) (atoms_back o.atoms h.length.0 h.length.1 h.arguments)

numbered_back : (origin : ℕ) (o : NamedOperation) → (o.id.origin ≡ origin) × IsOperationWithinLimits o
    → numbered_of origin (numbered_data o) ≡ Some o
numbered_back origin o h =
    ap (option_map (named_operation origin o.id.number)) (atoms_back o.atoms h.1.length.0 h.1.length.1 h.1.arguments)
    ∙ (λ i. Some (named_operation (sym h.0 i) o.id.number o.atoms))

group_back : (g : ℕ × List NamedOperation) → IsGroup (λ o. o.id.origin) IsOperationWithinLimits g
    → group_of (group_data numbered_data g) ≡ Some g.1
group_back g h =
    ap (option_and_then (λ origin. all_numbered_of origin (array_data (map numbered_data g.1)))) (origin_back g.0 h.0)
    ∙ of_array (each (numbered_of g.0)) (map numbered_data g.1) (Some g.1)
    (each_back (numbered_of g.0) numbered_data (λ o. (o.id.origin ≡ g.0) × IsOperationWithinLimits o)
    (numbered_back g.0) g.1 h.1)

id_writable : (o n : ℕ) → o < 2 ^ 32 → n < 2 ^ 64 → IsWritable 2 (id_data o n)
id_writable o n small fits =
    let origin : o < 2 ^ 64 = omega (arith, small) in
    array_writable 1 (natural_data o ∷ natural_data n ∷ [])
    (natural_writable 1 o origin, (natural_writable 1 n fits, tt))

operation_writable : (o : NamedOperation) → IsOperationWithinLimits o → IsWritable 3 (operation_data o)
operation_writable o h = array_writable 2 (id_data o.id.origin o.id.number ∷ atoms_data o.atoms ∷ [])
    (id_writable o.id.origin o.id.number h.origin h.number, (atoms_writable o.atoms h.names h.arguments, tt))

numbered_writable : (o : NamedOperation) → IsOperationWithinLimits o → IsWritable 3 (numbered_data o)
numbered_writable o h = array_writable 2 (natural_data o.id.number ∷ atoms_data o.atoms ∷ [])
    (natural_writable 2 o.id.number h.number, (atoms_writable o.atoms h.names h.arguments, tt))

-- ---- deltas

operations_back : (os : List NamedOperation) → AllByRecursion IsOperationWithinLimits os
    → delta_from (map operation_data os) ≡ Some os
operations_back [] h = refl
operations_back (o ∷ os) h = each_back operation_of operation_data IsOperationWithinLimits operation_back (o ∷ os) h

pub deltas_1_back : Delta1TextsAreRead
deltas_1_back os h =
    ap (option_and_then delta_of) (writable_read 4 (delta_1_data os)
    (mapped_writable 3 IsOperationWithinLimits operation_data operation_writable os h) (omega arith))
    ∙ of_array delta_from (map operation_data os) (Some os) (operations_back os h)

pub delta_2_writable : (os : List NamedOperation) → AllByRecursion IsOperationWithinLimits os
    → IsWritable 7 (delta_2_data os)
delta_2_writable os h =
    array_writable 6 (natural_data 2 ∷ grouped_data (λ o. o.id.origin) numbered_data os ∷ []) (
      natural_writable 6 2 (omega arith),
      (
        grouped_writable (λ o. o.id.origin) IsOperationWithinLimits
            (λ o p. p.origin) 3 numbered_data numbered_writable os h,
        tt,
      ),
    )

pub delta_2_back : (os : List NamedOperation) → AllByRecursion IsOperationWithinLimits os → delta_of (delta_2_data os)
    ≡ Some os
delta_2_back os h = groups_back (λ o. o.id.origin) IsOperationWithinLimits (λ o p. p.origin) group_of numbered_data
    group_back os h

pub deltas_2_back : Delta2TextsAreRead
deltas_2_back os h = ap (option_and_then delta_of) (writable_read 7 (delta_2_data os) (delta_2_writable os h)
    (omega arith)) ∙ delta_2_back os h
