-- The atoms of tables in portions.
use Rattle.std.proofs.Common.{◌≡◌, ℕ, zero, suc, ◌+◌, ◌<◌, ◌≤◌, List, [], ◌∷◌, ◌++◌, length}
use Rattle.std.proofs.Common.{get_or, map, refl, sym, ap, ◌∙◌, arith, inl, inr, ◌⊎◌}
use Rattle.std.specs.Prelude.{Option, Some, None, IfSome, filter, nat_eq, nat_lt, not, Vec}
use Rattle.std.specs.Prelude.{ℤ, int_lt}
use Rattle.std.specs.Borrow.{Bor}
use Rattle.std.specs.List.{AllZip, range_with_len}
use Rattle.std.specs.declared.alloc.Global.{Global}
use Rattle.std.proofs.lemmas.Bool.{lt-ltb, le-ltb, eq-eqb, ne_eqb, cases_lt}
use Rattle.std.proofs.lemmas.List.Elements.{filter-append}
use Rattle.std.proofs.lemmas.List.Sums.{prefix_len-le-length}
use Rattle.std.proofs.lemmas.List.FromFn.{get_or-range_with_len, length-range_with_len}
use Rattle.chr_base.specs.declared.atom.Atom.{Atom}
use Rattle.chr_base.specs.Atoms.{atom_cmp}
use Rattle.chr_base.specs.FinBag.{empty, ◌⊕◌}
use Rattle.chr_base.specs.ProgramTests.{Declaration}
use Rattle.chr_base.specs.Stores.{Store, store_of}
use Rattle.chr_base.proofs.FinBags.{of_list-none}
use Rattle.chr_base.proofs.Stores.{store_of-append, plus_assoc, plus_comm, plus_empty}
use Rattle.chr_plans.specs.Grids.{contents, live_atoms}
use Rattle.chr_tables.specs.Contents.{Contents}
use Rattle.chr_printing.specs.declared.flat.Flat.{Flat}
use Rattle.chr_printing.specs.working.Portions.{first_argument, place_at, portion, atoms_at, IsPortion, ArePortions}
use Rattle.chr_printing.specs.working.Printing.{rows_at}

-- the store of the atoms of all tables
pub store_at : (tables : List (Bor Contents)) → store_of (atoms_at tables) ≡ contents (map rows_at tables)
store_at [] = of_list-none atom_cmp
store_at (t ∷ tables) = store_of-append (live_atoms t.now.rows) (atoms_at tables)
    ∙ ap (λ s. store_of (live_atoms t.now.rows) ⊕ s) (store_at tables)

-- without cuts there is one portion
pub whole : (xs : List Atom) → portion [] 0 xs ≡ xs
whole [] = refl
whole (x ∷ xs) = ap (λ ys. x ∷ ys) (whole xs)

pub place_within : (cuts : List ℤ) (a : Atom) → place_at cuts a ≤ length cuts
place_within cuts a = prefix_len-le-length (λ c. not (int_lt (first_argument a) c)) cuts

-- the atoms of the first `count` portions
abbrev pub first_portions : List ℤ → ℕ → List Atom → List Atom
first_portions cuts count xs = filter (λ a. nat_lt (place_at cuts a) count) xs

none_first : (cuts : List ℤ) (xs : List Atom) → first_portions cuts 0 xs ≡ []
none_first cuts [] = refl
none_first cuts (x ∷ xs) = rw (le-ltb (place_at cuts x) 0 (omega arith)) (none_first cuts xs)

pub first_none : (cuts : List ℤ) (xs : List Atom) → store_of (first_portions cuts 0 xs) ≡ empty
first_none cuts xs = ap store_of (none_first cuts xs) ∙ of_list-none atom_cmp

pub first_all : (cuts : List ℤ) (xs : List Atom) (n : ℕ) → length cuts < n → first_portions cuts n xs ≡ xs
first_all cuts [] n many = refl
first_all cuts (x ∷ xs) n many =
    rw (lt-ltb (place_at cuts x) n (omega (arith, many, place_within cuts x)))
    (ap (λ ys. x ∷ ys) (first_all cuts xs n many))

-- one portion more
pub first_more : (cuts : List ℤ) (n : ℕ) (xs : List Atom) → store_of (first_portions cuts (n + 1) xs)
    ≡ store_of (first_portions cuts n xs) ⊕ store_of (portion cuts n xs)
first_more cuts n [] = sym (ap (λ s. s ⊕ store_of []) (of_list-none atom_cmp) ∙ plus_comm empty (store_of [])
    ∙ plus_empty (store_of []))
first_more cuts n (x ∷ xs) = by (first_more cuts n xs) (cases_lt p n) (cases_lt n p)
  where
    p : ℕ
    p = place_at cuts x

    xs' : List Atom
    xs' = first_portions cuts n xs

    mine : List Atom
    mine = portion cuts n xs

    Rest : Type 0
    Rest = store_of (first_portions cuts (n + 1) xs) ≡ store_of xs' ⊕ store_of mine

    by : Rest → (p < n) ⊎ (n ≤ p) → (n < p) ⊎ (p ≤ n) → store_of (first_portions cuts (n + 1) (x ∷ xs))
        ≡ store_of (first_portions cuts n (x ∷ xs)) ⊕ store_of (portion cuts n (x ∷ xs))
    by rest (inl below) _ =
        rw (lt-ltb p (n + 1) (omega (arith, below)), lt-ltb p n below, ne_eqb p n (λ e. omega (arith, e, below)))
        (store_of-append (x ∷ []) (first_portions cuts (n + 1) xs) ∙ ap (λ s. store_of (x ∷ []) ⊕ s) rest
        ∙ sym (plus_assoc (store_of (x ∷ [])) (store_of xs') (store_of mine))
        ∙ ap (λ s. s ⊕ store_of mine) (sym (store_of-append (x ∷ []) xs')))
    by rest (inr most) (inl above) =
        rw (le-ltb p (n + 1) (omega (arith, above)), le-ltb p n most, ne_eqb p n (λ e. omega (arith, e, above))) rest
    by rest (inr most) (inr least) =
        let same : p ≡ n = omega (arith, most, least) in
        rw (lt-ltb p (n + 1) (omega (arith, least)), le-ltb p n most, eq-eqb p n same)
        (store_of-append (x ∷ []) (first_portions cuts (n + 1) xs) ∙ ap (λ s. store_of (x ∷ []) ⊕ s) rest
        ∙ sym (plus_assoc (store_of (x ∷ [])) (store_of xs') (store_of mine))
        ∙ ap (λ s. s ⊕ store_of mine) (plus_comm (store_of (x ∷ [])) (store_of xs'))
        ∙ plus_assoc (store_of xs') (store_of (x ∷ [])) (store_of mine)
        ∙ ap (λ s. store_of xs' ⊕ s) (sym (store_of-append (x ∷ []) mine)))

-- what was found at a place
abbrev pub Found : List Declaration → List ℤ → List Atom → ℕ → Option (Vec Flat Global) → Type 0
Found ds cuts atoms place found = IfSome found (λ flats. IsPortion ds cuts atoms place flats.items)

as_many : {A B : Type 0} (R : A → B → Type 0) (xs : List A) (ys : List B) → AllZip R xs ys → length xs ≡ length ys
as_many R [] [] h = refl
as_many R [] (y ∷ ys) h = absurd h
as_many R (x ∷ xs) [] h = absurd h
as_many R (x ∷ xs) (y ∷ ys) h = ap suc (as_many R xs ys h.1)

beside : {A B : Type 0} (R : A → B → Type 0) (xs : List A) (ys : List B) (i : ℕ) (d : A) (e : B) → AllZip R xs ys
    → i < length xs → R (get_or xs i d) (get_or ys i e)
beside R [] ys i d e h l = absurd (omega (arith, l))
beside R (x ∷ xs) [] i d e h l = absurd h
beside R (x ∷ xs) (y ∷ ys) zero d e h l = h.0
beside R (x ∷ xs) (y ∷ ys) (suc i) d e h l = beside R xs ys i d e h.1 (omega (arith, l))

pub as_many_portions : (ds : List Declaration) (cuts : List ℤ) (atoms : List Atom)
    (portions : List (Option (Vec Flat Global))) → ArePortions ds cuts atoms portions
    → length portions ≡ length cuts + 1
as_many_portions ds cuts atoms portions are =
    sym (as_many (Found ds cuts atoms) (range_with_len 0 (length cuts + 1)) portions are)
    ∙ length-range_with_len 0 (length cuts + 1)

-- the portion at a place
pub portion_found : (ds : List Declaration) (cuts : List ℤ) (atoms : List Atom)
    (portions : List (Option (Vec Flat Global))) (i : ℕ) (flats : Vec Flat Global)
    → ArePortions ds cuts atoms portions → i < length portions → get_or portions i None ≡ Some flats
    → IsPortion ds cuts atoms i flats.items
portion_found ds cuts atoms portions i flats are l is =
    let places = range_with_len 0 (length cuts + 1) in
    let few : i < length cuts + 1 = omega (arith, l, as_many_portions ds cuts atoms portions are) in
    let within : i < length places = omega (arith, few, length-range_with_len 0 (length cuts + 1)) in
    let place : get_or places i 0 ≡ i = get_or-range_with_len 0 (length cuts + 1) i 0 few ∙ omega arith in
    rw (is, place) at (beside (Found ds cuts atoms) places portions i 0 None are within)

-- the portion of two lists
pub portion_both : (cuts : List ℤ) (place : ℕ) (xs ys : List Atom) → store_of (portion cuts place (xs ++ ys))
    ≡ store_of (portion cuts place xs) ⊕ store_of (portion cuts place ys)
portion_both cuts place xs ys = ap store_of (filter-append (λ a. nat_eq (place_at cuts a) place) xs ys)
    ∙ store_of-append (portion cuts place xs) (portion cuts place ys)

pub portion_more : (cuts : List ℤ) (place : ℕ) (s t : Store) (xs ys : List Atom)
    → t ≡ s ⊕ store_of (portion cuts place xs)
    → t ⊕ store_of (portion cuts place ys) ≡ s ⊕ store_of (portion cuts place (xs ++ ys))
portion_more cuts place s t xs ys e =
    ap (λ u. u ⊕ store_of (portion cuts place ys)) e
    ∙ plus_assoc s (store_of (portion cuts place xs)) (store_of (portion cuts place ys))
    ∙ ap (λ u. s ⊕ u) (sym (portion_both cuts place xs ys))

-- an atom of another portion, and one of this
pub portion_none : (cuts : List ℤ) (place : ℕ) (s : Store) (a : Atom) → ¬ (place_at cuts a ≡ place)
    → s ≡ s ⊕ store_of (portion cuts place (a ∷ []))
portion_none cuts place s a other = rw (ne_eqb (place_at cuts a) place other)
    (sym (ap (λ u. s ⊕ u) (of_list-none atom_cmp) ∙ plus_empty s))

pub portion_one : (cuts : List ℤ) (place : ℕ) (a : Atom) → place_at cuts a ≡ place
    → portion cuts place (a ∷ []) ≡ a ∷ []
portion_one cuts place a same = rw (eq-eqb (place_at cuts a) place same) refl
