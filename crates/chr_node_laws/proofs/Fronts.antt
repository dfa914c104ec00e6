-- Fronts of lists, and what calls of a feed leave.
use Rattle.std.proofs.Common.{◌≡◌, ℕ, List, [], ◌∷◌, ◌++◌, sym, ap, subst, ◌∙◌, append_assoc}
use Rattle.std.specs.List.{Contains, flat_map}
use Rattle.std.proofs.lemmas.List.{append-nil}
use Rattle.std.proofs.lemmas.Grind.{flat_map-append}
use Rattle.std.proofs.lemmas.List.Elements.{Contains-append_left}
use Rattle.chr_records.specs.Records.{records_of, IsFront}
use Rattle.chr_node_laws.specs.Runs.{Run, acknowledged, told, Keeps, IsLeftBy}

-- answered calls append their batches
pub kept : (batches : List (List (List ℕ))) (old new : List ℕ) → Keeps batches old new
    → records_of new ≡ records_of old ++ flat_map (λ batch. batch) batches
kept [] old new is = ap records_of is ∙ sym (append-nil (records_of old))
kept (batch ∷ batches) old new h =
    let rest = kept batches h.0 new h.2 in
    rest ∙ ap (λ (texts : List (List ℕ)). texts ++ flat_map (λ b. b) batches) h.1
    ∙ append_assoc (records_of old) batch (flat_map (λ b. b) batches)

pub left_last : (r : Run) (file : List ℕ) (left : IsLeftBy r file) → records_of left.last ≡ acknowledged r
left_last r file left =
    kept r.answered left.made left.last left.keeps
    ∙ ap (λ (texts : List (List ℕ)). texts ++ acknowledged r) left.none

pub left_are_fronts : (r : Run) (file : List ℕ) → IsLeftBy r file
    → IsFront (acknowledged r) (records_of file) × IsFront (records_of file) (told r)
left_are_fronts r file left =
    let last = left_last r file left in
    let front = left.grown.0 in
    let rest = left.grown.1 in
    let is : records_of file ≡ acknowledged r ++ front =
    left.grown.2 ∙ ap (λ (texts : List (List ℕ)). texts ++ front) last in
    let all : told r ≡ records_of file ++ rest.0 =
    ap (λ (texts : List (List ℕ)). acknowledged r ++ texts) rest.1 ∙ sym (append_assoc (acknowledged r) front rest.0)
    ∙ ap (λ (texts : List (List ℕ)). texts ++ rest.0) (sym is) in
    ((front, is), (rest.0, all))

-- what a front tells, the whole tells
pub front_tells : {A B : Type 0} (f : A → List B) (xs ys : List A) (y : B) → IsFront xs ys
    → Contains (flat_map f xs) y → Contains (flat_map f ys) y
front_tells {A} {B} f xs ys y front there =
    let whole : Contains (flat_map f (xs ++ front.0)) y =
    subst (λ (l : List B). Contains l y) (sym (flat_map-append f xs front.0))
    (Contains-append_left (flat_map f xs) (flat_map f front.0) y there) in
    subst (λ (zs : List A). Contains (flat_map f zs) y) (sym front.1) whole
