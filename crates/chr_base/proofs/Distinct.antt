-- A declaration that has a name and a number of arguments is the only one.
use Rattle.std.proofs.Common.{◌≡◌, ℕ, zero, suc, ◌<◌, Bool, true, false, List, [], ◌∷◌, length, refl, sym, ap, ◌∙◌}
use Rattle.std.proofs.Common.{arith}
use Rattle.std.specs.Prelude.{not, nat_lt, position, Option, Some, None, ◌||◌, slice_get, IsTrue}
use Rattle.std.specs.List.{position_or_len, list_any}
use mathlib.Core.Bool.{true≢false}
use Rattle.std.proofs.lemmas.Bool.{eqb-true, eq-eqb, and_from, and_parts}
use Rattle.std.specs.Str.{bytes_eq}
use Rattle.std.proofs.lemmas.Bool.Decides.{nat_tests}
use Rattle.std.proofs.lemmas.Slice.Eq.{bytes_eq-Decides}
use Rattle.chr_base.specs.declared.rule.Rule.{Rule}
use Rattle.chr_base.specs.ProgramTests.{Declaration, declares, are_distinct, is_program}
use Rattle.chr_base.proofs.Declared.{kept_by}

one_passes : (p : Declaration → Bool) (ds : List Declaration) (i : ℕ) (d : Declaration) → slice_get ds i ≡ Some d
    → p d ≡ true → list_any p ds ≡ true
one_passes p [] i d at h = absurd (let m : ◌≡◌ {A = Option Declaration} None (Some d) = at in cc)
one_passes p (x ∷ ds) zero d at h =
    let same : x ≡ d = (let m : ◌≡◌ {A = Option Declaration} (Some x) (Some d) = at in cc) in
    let e : p x ≡ true = ap p same ∙ h in
    rw e refl
one_passes p (x ∷ ds) (suc i) d at h = by (p x) (one_passes p ds i d at h)
  where
    by : (b : Bool) → list_any p ds ≡ true → (b || list_any p ds) ≡ true
    by true e = refl
    by false e = e

first_there : (name : List ℕ) (n : ℕ) (ds : List Declaration) (i : ℕ) (d : Declaration) → are_distinct ds ≡ true
    → slice_get ds i ≡ Some d → declares name n d ≡ true
    → (position_or_len (declares name n) ds ≡ i) × (i < length ds)
first_there name n [] i d apart at is = absurd (let m : ◌≡◌ {A = Option Declaration} None (Some d) = at in cc)
first_there name n (x ∷ ds) zero d apart at is =
    let same : x ≡ d = (let m : ◌≡◌ {A = Option Declaration} (Some x) (Some d) = at in cc) in
    let e : declares name n x ≡ true = ap (declares name n) same ∙ is in
    (rw e refl, omega arith)
first_there name n (x ∷ ds) (suc i) d apart at is =
    by (first_there name n ds i d ((and_parts (not (list_any (declares x.name x.arity) ds)) _ apart).1) at is)
    (declares name n x) refl
  where
    by : (position_or_len (declares name n) ds ≡ i) × (i < length ds) → (b : Bool) → declares name n x ≡ b
        → (position_or_len (declares name n) (x ∷ ds) ≡ suc i) × (suc i < suc (length ds))
    by more false e = let m = more.0 in let l = more.1 in (rw e (omega (arith, m)), omega (arith, l))
    by more true e =
        let names : name ≡ x.name = (bytes_eq-Decides name x.name).0 ((and_parts _ _ e).0) in
        let sizes : n ≡ x.arity = eqb-true n x.arity ((and_parts (bytes_eq name x.name) _ e).1) in
        let again : declares x.name x.arity d ≡ true = ap (λ m. declares x.name m d) (sym sizes)
        ∙ ap (λ m. declares m n d) (sym names) ∙ is in
        let some = one_passes (declares x.name x.arity) ds i d at again in
        let none : not (list_any (declares x.name x.arity) ds) ≡ true = (and_parts _ (are_distinct ds) apart).0 in
        absurd (true≢false (sym none ∙ ap not some))

-- one that is there by this name and this number
pub declared_as : (d : Declaration) (name : List ℕ) (n : ℕ) → d.name ≡ name → d.arity ≡ n → declares name n d ≡ true
declared_as d name n e f = and_from _ _ ((bytes_eq-Decides name d.name).1 (sym e)) (eq-eqb n d.arity (sym f))

pub place_of : (name : List ℕ) (n : ℕ) (ds : List Declaration) (rs : List Rule) (i : ℕ) (d : Declaration)
    → IsTrue (is_program ds rs) → slice_get ds i ≡ Some d → declares name n d ≡ true
    → position (declares name n) ds ≡ Some i
place_of name n ds rs i d h at is =
    let f = first_there name n ds i d (kept_by ds rs h).distinct at is in
    let p = f.0 in
    let l = f.1 in
    let e : nat_lt (position_or_len (declares name n) ds) (length ds) ≡ true = grind (arith, nat_tests) in
    rw e (ap Some p)
