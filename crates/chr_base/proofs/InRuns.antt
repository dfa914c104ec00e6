-- Runs of a store's atoms, and the order in which they are printed.
use Rattle.std.proofs.Common.{◌≡◌, ℕ, suc, ◌+◌, ◌<◌, true, false, cond, List, [], ◌∷◌, ◌++◌, length, get_or, drop}
use Rattle.std.proofs.Common.{drop-cons, append_assoc, refl, sym, ap, ◌∙◌, arith}
use Rattle.std.specs.Prelude.{IsTrue, T, not, Some, slice_get, codes}
use Rattle.std.specs.Option.{option_map_or}
use Rattle.std.specs.Borrow.{Bor}
use Rattle.std.specs.List.{All, flat_map}
use Rattle.std.specs.List.Sorted.{IsPermutation}
use Rattle.std.specs.declared.cmp.Ordering.{Ordering}
use Rattle.std.specs.declared.cmp.Ordering.TheVariants as order
use Rattle.std.specs.Ordering.{is_gt, eq_by_cmp, nat_cmp, int_cmp, ordering_then}
use Rattle.std.specs.Cmp.{nat_cmp_total, tied_itself}
use Rattle.std.specs.Cmp.Lexicographic.{slice_cmp, lists_total}
use Rattle.std.proofs.lemmas.Bool.{eqb-true, and_parts}
use Rattle.std.proofs.lemmas.Grind.{flat_map-append}
use Rattle.std.proofs.lemmas.List.Sorted.{sum_by-IsPermutation, All-permutation}
use Rattle.chr_base.specs.declared.atom.Atom.{Atom}
use Rattle.chr_base.specs.Atoms.{atom_cmp}
use Rattle.chr_base.specs.FinBag as bag
use Rattle.chr_base.specs.FinBag.{is_rising, none_below, count_in, total}
use Rattle.chr_base.specs.ProgramTests.{Declaration}
use Rattle.chr_base.specs.Texts.{name_of, print_cmp, atom_text, atoms_text}
use Rattle.chr_base.specs.working.Runs.{are_alike, IsRun, Precedes}
use Rattle.chr_base.proofs.FinBags as bag_laws
use Rattle.chr_base.proofs.FinBags.{not_gt, first, second, is_true, from_true, total_is, total-flat}
use Rattle.chr_base.proofs.Ordered.{rising_more, rising_append}
use Rattle.chr_base.proofs.Printing.{print_total, print_exact}

then_equal : (o : Ordering) → ordering_then o order.Equal ≡ o
then_equal order.Less = refl
then_equal order.Equal = refl
then_equal order.Greater = refl

-- atoms of one symbol with as many arguments are printed in the order of a bag
pub alike_order : (ds : List Declaration) (a b : Atom) → are_alike a b ≡ true → print_cmp ds a b ≡ atom_cmp a b
alike_order ds a b h =
    let parts = and_parts _ _ h in
    let symbols : a.symbol.0 ≡ b.symbol.0 = eqb-true _ _ (parts.0) in
    let lengths : length a.args.items ≡ length b.args.items = eqb-true _ _ (parts.1) in
    let names : slice_cmp nat_cmp (name_of ds a) (name_of ds b) ≡ order.Equal =
    ap (λ n. slice_cmp nat_cmp (option_map_or (λ d. d.name) (slice_get ds n) []) (name_of ds b)) symbols
    ∙ tied_itself (lists_total nat_cmp_total) (name_of ds b) in
    let one : nat_cmp a.symbol.0 b.symbol.0 ≡ order.Equal = ap (λ n. nat_cmp n b.symbol.0) symbols
    ∙ tied_itself nat_cmp_total b.symbol.0 in
    let two : nat_cmp (length a.args.items) (length b.args.items) ≡ order.Equal =
    ap (λ n. nat_cmp n (length b.args.items)) lengths ∙ tied_itself nat_cmp_total (length b.args.items) in
    rw (names, one, two) (then_equal (slice_cmp int_cmp a.args.items b.args.items))

-- neighbours that are alike, at the front of atoms in order, never fall as they are printed
run_rises : (ds : List Declaration) (xs ys : List Atom) → T (is_rising atom_cmp (xs ++ ys))
    → ((k : ℕ) (d : Atom) → k + 1 < length xs → are_alike (get_or (xs ++ ys) k d) (get_or (xs ++ ys) (k + 1) d) ≡ true)
    → IsTrue (is_rising (print_cmp ds) xs)
run_rises ds [] ys h a = refl
run_rises ds (x ∷ []) ys h a = refl
run_rises ds (x ∷ z ∷ zs) ys h a =
    let step : is_gt (atom_cmp x z) ≡ false = not_gt _
    (first (not (is_gt (atom_cmp x z))) _ (first (none_below atom_cmp x (z ∷ zs ++ ys)) _ h)) in
    rising_more (print_total ds) x z zs (ap is_gt (alike_order ds x z (a 0 x (omega arith))) ∙ step)
    (run_rises ds (z ∷ zs) ys (second (none_below atom_cmp x (z ∷ zs ++ ys)) _ h)
    (λ k d l. let e : suc k + 1 ≡ suc (k + 1) = omega arith in rw e at (a (suc k) d (omega arith))))

back_rises : (xs ys : List Atom) → T (is_rising atom_cmp (xs ++ ys)) → T (is_rising atom_cmp ys)
back_rises [] ys h = h
back_rises (x ∷ xs) ys h = back_rises xs ys (second (none_below atom_cmp x (xs ++ ys)) _ h)

pub run_in_front : (atoms run rest : List Atom) (n : ℕ) → atoms ≡ run ++ rest → length run ≡ n → 0 < n
    → IsTrue (is_rising atom_cmp atoms)
    → ((k : ℕ) (d : Atom) → k + 1 < n → are_alike (get_or atoms k d) (get_or atoms (k + 1) d) ≡ true) → IsRun run
run_in_front atoms run rest n e l some h a = record {
  some = omega (arith, l, some);
  rises = λ ds. run_rises ds run rest (rw e at (from_true _ h)) (λ k d m. rw e at (a k d (omega (arith, l, m))));
}

pub rest_rises : (atoms run rest : List Atom) → atoms ≡ run ++ rest → IsTrue (is_rising atom_cmp atoms)
    → IsTrue (is_rising atom_cmp rest)
rest_rises atoms run rest e h = is_true _ (back_rises run rest (rw e at (from_true _ h)))

abbrev flat : List (Bor (List Atom)) → List Atom
flat rs = flat_map (λ r. r.now) rs

first_of : (xs ys : List Atom) (y : Atom) → 0 < length xs → slice_get (xs ++ ys) 0 ≡ Some y → slice_get xs 0 ≡ Some y
first_of [] ys y l h = absurd (omega (arith, l))
first_of (x ∷ xs) ys y l h = h

-- runs of which each precedes the next never fall in a row
runs_rise : (ds : List Declaration) (rs : List (Bor (List Atom))) → All (λ r. IsRun r.now) rs
    → ((k : ℕ) (d : Bor (List Atom)) → k + 1 < length rs → Precedes ds (get_or rs k d).now (get_or rs (k + 1) d).now)
    → IsTrue (is_rising (print_cmp ds) (flat rs))
runs_rise ds [] runs apart = refl
runs_rise ds (r ∷ []) runs apart =
    rising_append (print_total ds) r.now [] ((runs 0 r (omega arith)).rises ds) refl (λ x y k l. absurd (cc))
runs_rise ds (r ∷ q ∷ qs) runs apart =
    rising_append (print_total ds) r.now (flat (q ∷ qs)) ((runs 0 r (omega arith)).rises ds)
    (runs_rise ds (q ∷ qs) (λ k d l. runs (suc k) d (omega (arith, l)))
    (λ k d l. let e : suc k + 1 ≡ suc (k + 1) = omega arith in rw e at (apart (suc k) d (omega (arith, l)))))
    (λ x y k l. apart 0 r (omega arith) x y k (first_of q.now (flat qs) y ((runs 1 q (omega arith)).some) l))

counts_flat : (ds : List Declaration) (rs ss : List (Bor (List Atom))) (q : Atom) → IsPermutation rs ss
    → count_in (print_cmp ds) q (flat ss) ≡ count_in (print_cmp ds) q (flat rs)
counts_flat ds rs ss q p =
    let f : Atom → ℕ = λ x. cond (eq_by_cmp (print_cmp ds) q x) 1 0 in
    total-flat f (λ r. r.now) ss
    ∙ total_is (λ r. total f r.now) ss
    ∙ sum_by-IsPermutation (λ r. total f r.now) rs ss p
    ∙ sym (total_is (λ r. total f r.now) rs)
    ∙ sym (total-flat f (λ r. r.now) rs)

-- runs in which no atom is printed before one of an earlier run are the atoms in printed order
pub runs_in_order : (ds : List Declaration) (atoms : List Atom) (rs ss : List (Bor (List Atom))) → flat rs ≡ atoms
    → All (λ r. IsRun r.now) rs → IsPermutation rs ss
    → ((k : ℕ) (d : Bor (List Atom)) → k + 1 < length ss → Precedes ds (get_or ss k d).now (get_or ss (k + 1) d).now)
    → flat ss ≡ bag.items (bag.of_list {R = print_cmp ds} atoms)
runs_in_order ds atoms rs ss e runs p apart =
    sym (bag_laws.items-of_list (print_total ds) (print_exact ds) (flat ss)
    (from_true _ (runs_rise ds ss (All-permutation (λ r. IsRun r.now) rs ss p runs) apart)))
    ∙ ap bag.items (bag_laws.same_bag (print_total ds) (print_exact ds) _ _
    (λ q. bag_laws.count-of_list (print_total ds) (flat ss) q ∙ counts_flat ds rs ss q p
    ∙ sym (bag_laws.count-of_list (print_total ds) (flat rs) q)))
    ∙ ap (λ xs. bag.items (bag.of_list {R = print_cmp ds} xs)) e

-- an atom after another one
abbrev pub after : List Declaration → Atom → List ℕ
after ds a = codes ", " ++ atom_text ds a

flat_after : (ds : List Declaration) (rs : List (Bor (List Atom))) → flat_map (after ds) (flat rs)
    ≡ flat_map (λ r. flat_map (after ds) r.now) rs
flat_after ds [] = refl
flat_after ds (r ∷ rs) = flat_map-append (after ds) r.now (flat rs) ∙ ap (λ xs. flat_map (after ds) r.now ++ xs)
    (flat_after ds rs)

pub joined : (ds : List Declaration) (xs ys : List Atom) → 0 < length xs → atoms_text ds (xs ++ ys) ≡ atoms_text ds xs
    ++ flat_map (after ds) ys
joined ds [] ys h = absurd (omega (arith, h))
joined ds (x ∷ xs) ys h = ap (λ bs. atom_text ds x ++ bs) (flat_map-append (after ds) xs ys)
    ∙ sym (append_assoc (atom_text ds x) _ _)

-- the text of runs is that of the first one and of those after it
pub runs_text : (ds : List Declaration) (whole : List (Bor (List Atom))) (r : Bor (List Atom))
    (rs : List (Bor (List Atom))) (out mid new : List ℕ) → whole ≡ r ∷ rs → All (λ r. IsRun r.now) whole
    → mid ≡ out ++ atoms_text ds r.now → new ≡ mid ++ flat_map (λ r. flat_map (after ds) r.now) rs → new ≡ out
    ++ atoms_text ds (flat whole)
runs_text ds whole r rs out mid new e runs m n =
    let one : IsRun r.now = (rw e at runs) 0 r (omega arith) in
    n ∙ ap (λ bs. bs ++ flat_map (λ r. flat_map (after ds) r.now) rs) m ∙ append_assoc out _ _
    ∙ ap (λ bs. out ++ bs) (ap (λ bs. atoms_text ds r.now ++ bs) (sym (flat_after ds rs))
    ∙ sym (joined ds r.now (flat rs) one.some))
    ∙ ap (λ w. out ++ atoms_text ds (flat w)) (sym e)

-- the text of one more piece is written, and the pieces after it are left
pub one_piece : {X : Type 0} (h : X → List ℕ) (xs : List X) (i : ℕ) (x : X) (out new whole : List ℕ) → i < length xs
    → x ≡ get_or xs i x → out ++ flat_map h (drop i xs) ≡ whole → new ≡ out ++ h x → new ++ flat_map h (drop (i + 1) xs)
    ≡ whole
one_piece h xs i x out new whole l is before n =
    let next : suc i ≡ i + 1 = omega arith in
    let cut : drop i xs ≡ x ∷ drop (i + 1) xs = drop-cons xs i x l ∙ (λ j. sym is j ∷ drop (next j) xs) in
    ap (λ bs. bs ++ flat_map h (drop (i + 1) xs)) n ∙ append_assoc out (h x) _
    ∙ ap (λ ys. out ++ flat_map h ys) (sym cut) ∙ before
