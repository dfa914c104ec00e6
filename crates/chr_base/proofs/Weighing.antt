-- The declarations with another weight at one place.
use Rattle.std.proofs.Common.{◌≡◌, ℕ, zero, suc, true, List, [], ◌∷◌, length, map, refl, ap, ◌∙◌, arith}
use Rattle.std.specs.Prelude.{not, ◌&&◌, ◌||◌, slice_get, IsTrue, Option, Some, None}
use Rattle.std.specs.Map.{values_of}
use Rattle.std.specs.List.{list_all, list_any}
use Rattle.std.proofs.lemmas.Bool.{and_from, and_parts}
use Rattle.indexmap.specs.Layout.{set_value_at}
use Rattle.chr_base.specs.declared.program.Symbol.{Symbol}
use Rattle.chr_base.specs.declared.weight.Weight.{Weight}
use Rattle.chr_base.specs.Weights.{is_paired, is_weight}
use Rattle.chr_base.specs.declared.rule.Rule.{Rule}
use Rattle.chr_base.specs.declared.term.Pattern.{Pattern}
use Rattle.chr_base.specs.ProgramTests.{Declaration, declared, with_weight, declares, is_in_range}
use Rattle.chr_base.specs.ProgramTests.{is_program, are_distinct, fits, takes, is_declared, some_paired}
use Rattle.chr_base.proofs.Declared.{kept_by, keep}

pub weighed : (es : List (Symbol × Weight)) (i : ℕ) (w : Weight) → map declared (set_value_at es i w)
    ≡ with_weight (map declared es) i w
weighed [] i w = refl
weighed (e ∷ es) zero w = refl
weighed (e ∷ es) (suc i) w = ap (λ ds. declared e ∷ ds) (weighed es i w)

length-with_weight : (ds : List Declaration) (i : ℕ) (w : Weight) → length (with_weight ds i w) ≡ length ds
length-with_weight [] i w = refl
length-with_weight (d ∷ ds) zero w = refl
length-with_weight (d ∷ ds) (suc i) w = ap suc (length-with_weight ds i w)

ranges_with_weight : (ds : List Declaration) (i : ℕ) (w : Weight) → is_weight w ≡ true → list_all is_in_range ds ≡ true
    → list_all is_in_range (with_weight ds i w) ≡ true
ranges_with_weight [] i w l h = refl
ranges_with_weight (d ∷ ds) zero w l h =
    let here : is_in_range d ≡ true = (and_parts _ (list_all is_in_range ds) h).0 in
    and_from _ _ (and_from _ _ ((and_parts _ (is_weight d.weight) here).0) l) ((and_parts (is_in_range d) _ h).1)
ranges_with_weight (d ∷ ds) (suc i) w l h = and_from _ _ ((and_parts _ (list_all is_in_range ds) h).0)
    (ranges_with_weight ds i w l ((and_parts (is_in_range d) _ h).1))

any_with_weight : (n : List ℕ) (a : ℕ) (ds : List Declaration) (i : ℕ) (w : Weight)
    → list_any (declares n a) (with_weight ds i w) ≡ list_any (declares n a) ds
any_with_weight n a [] i w = refl
any_with_weight n a (d ∷ ds) zero w = refl
any_with_weight n a (d ∷ ds) (suc i) w = ap (λ b. declares n a d || b) (any_with_weight n a ds i w)

distinct_with_weight : (ds : List Declaration) (i : ℕ) (w : Weight) → are_distinct (with_weight ds i w)
    ≡ are_distinct ds
distinct_with_weight [] i w = refl
distinct_with_weight (d ∷ ds) zero w = refl
distinct_with_weight (d ∷ ds) (suc i) w = let a = any_with_weight d.name d.arity ds i w in let b =
    distinct_with_weight ds i w in λ j. not (a j) && b j

takes_with_weight : (ds : List Declaration) (i : ℕ) (w : Weight) (k n : ℕ) → takes (slice_get (with_weight ds i w) k) n
    ≡ takes (slice_get ds k) n
takes_with_weight [] i w k n = refl
takes_with_weight (d ∷ ds) zero w zero n = refl
takes_with_weight (d ∷ ds) zero w (suc k) n = refl
takes_with_weight (d ∷ ds) (suc i) w zero n = refl
takes_with_weight (d ∷ ds) (suc i) w (suc k) n = takes_with_weight ds i w k n

declared_with_weight : (ds : List Declaration) (i : ℕ) (w : Weight) (ps : List Pattern)
    → list_all (is_declared (with_weight ds i w)) ps ≡ list_all (is_declared ds) ps
declared_with_weight ds i w [] = refl
declared_with_weight ds i w (p ∷ ps) = let a = takes_with_weight ds i w p.symbol.0 (length p.args.items) in let b =
    declared_with_weight ds i w ps in λ j. a j && b j

fits_with_weight : (ds : List Declaration) (i : ℕ) (w : Weight) (rs : List Rule)
    → list_all (fits (with_weight ds i w)) rs ≡ list_all (fits ds) rs
fits_with_weight ds i w [] = refl
fits_with_weight ds i w (r ∷ rs) =
    let a = declared_with_weight ds i w r.kept.items in let b = declared_with_weight ds i w r.removed.items in let c =
    declared_with_weight ds i w r.body.items in let d = fits_with_weight ds i w rs in
    λ j. (a j && b j && c j) && d j

pub still_program : (ds cs : List Declaration) (rs : List Rule) (i : ℕ) (w : Weight) → cs ≡ with_weight ds i w
    → is_weight w ≡ true → IsTrue (is_program ds rs) → IsTrue (is_program cs rs)
still_program ds cs rs i w e l h =
    let k = kept_by ds rs h in
    let n = length-with_weight ds i w in
    rw e (keep (with_weight ds i w) rs record {
      symbols = (let s = k.symbols in omega (arith, n, s));
      rules = k.rules;
      ranges = ranges_with_weight ds i w l k.ranges;
      distinct = distinct_with_weight ds i w ∙ k.distinct;
      fitting = fits_with_weight ds i w rs ∙ k.fitting;
    })

-- nothing at the place: no weight changes
pub nothing_there : (es : List (Symbol × Weight)) (i : ℕ) (w : Weight) → None ≡ slice_get (values_of es) i
    → map declared es ≡ with_weight (map declared es) i w
nothing_there [] i w h = refl
nothing_there (e ∷ es) zero w h = absurd (let m : ◌≡◌ {A = Option Weight} None (Some e.1) = h in cc)
nothing_there (e ∷ es) (suc i) w h = ap (λ ds. declared e ∷ ds) (nothing_there es i w h)

-- the weights of the entries are those of the declarations
pub paired_values : (es : List (Symbol × Weight)) → list_any is_paired (values_of es) ≡ some_paired (map declared es)
paired_values [] = refl
paired_values (e ∷ es) = ap (λ b. is_paired e.1 || b) (paired_values es)
