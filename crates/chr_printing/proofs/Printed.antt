-- Atoms that are printed one after another, and their text.
use Rattle.std.proofs.Common.{◌≡◌, ℕ, zero, suc, ◌+◌, ◌-◌, ◌<◌, Bool, true, false, List, [], ◌∷◌, ◌++◌, length, map}
use Rattle.std.specs.Prelude.{ℤ}
use Rattle.std.proofs.Common.{set, take, get_or, refl, sym, ap, subst, ◌∙◌, append_assoc, arith, true≢false}
use Rattle.std.specs.Prelude.{Option, Some, None, Result, Ok, Err, OnOk, IsTrue, slice_get, codes, filter, is_some}
use Rattle.std.specs.Borrow.{Bor}
use Rattle.std.specs.List.{All, flat_map}
use Rattle.std.proofs.lemmas.List.{append-nil, flat_map_more, length-append, length-map, nil_from_length, map_more}
use Rattle.std.proofs.lemmas.List.{map_push, take_more, take_more_set}
use Rattle.std.proofs.lemmas.List.Elements.{All-append, All-cons, All-nil}
use Rattle.std.specs.List.Sorted.{IsPermutation}
use Rattle.std.proofs.lemmas.List.Sorted.{All-permutation}
use Rattle.std.specs.Ordering.{is_gt}
use Rattle.chr_base.specs.declared.atom.Atom.{Atom}
use Rattle.chr_base.specs.ProgramTests.{Declaration}
use Rattle.chr_base.specs.FinBag.{is_rising}
use Rattle.chr_base.specs.Texts.{print_cmp, atom_text, atoms_text}
use Rattle.chr_base.proofs.InRuns.{joined}
use Rattle.chr_base.proofs.Ordered.{rising_append}
use Rattle.chr_base.proofs.Printing.{print_total}
use Rattle.chr_base.specs.FinBag.{empty, ◌⊕◌}
use Rattle.chr_base.specs.Stores.{Store, store_of}
use Rattle.chr_base.specs.Atoms.{atom_cmp}
use Rattle.chr_base.proofs.FinBags.{of_list-none}
use Rattle.chr_base.proofs.Stores.{store_of-append, plus_assoc, plus_comm, plus_empty}
use Rattle.chr_plans.specs.Grids.{Grid, contents, live_atoms}
use Rattle.chr_tables.specs.Contents.{Contents}
use Rattle.chr_printing.specs.declared.flat.Flat.{Flat}
use Rattle.chr_columns.specs.Tables.{stored_in}
use Rattle.chr_printing.specs.working.Printing.{flat_atom, flat_atoms, flat_rows, flats_atoms, rows_at}
use Rattle.chr_printing.specs.declared.turns.Turn.{Turn}
use Rattle.chr_printing.specs.working.Printing.{joined_text, Fit, Fits, IsWritten, IsWrittenOut, Rises}
use Rattle.chr_columns.proofs.Firings.{swap_sides}
use Rattle.chr_columns.proofs.Tidying.{live_filter}

last_more : (xs : List Atom) (a : Atom) → slice_get (xs ++ a ∷ []) (length (xs ++ a ∷ []) - 1) ≡ Some a
last_more [] a = refl
last_more (x ∷ []) a = refl
last_more (x ∷ y ∷ ys) a =
    let e : length (x ∷ y ∷ ys ++ a ∷ []) - 1 ≡ suc (length (y ∷ ys ++ a ∷ []) - 1) = omega arith in
    ap (slice_get (x ∷ y ∷ ys ++ a ∷ [])) e ∙ last_more (y ∷ ys) a

one_there : (a y : Atom) → slice_get (a ∷ []) 0 ≡ Some y → a ≡ y
one_there a y e = cc

-- one more atom that isn't printed before the last one
pub rises_more : (ds : List Declaration) (xs : List Atom) (last : Option Atom) (a : Atom) → Rises ds xs last
    → ((x : Atom) → last ≡ Some x → is_gt (print_cmp ds x a) ≡ false) → Rises ds (xs ++ a ∷ []) (Some a)
rises_more ds xs last a h after = record {
  rises = rising_append (print_total ds) xs (a ∷ []) h.rises refl (λ x y k l.
      subst (λ z. is_gt (print_cmp ds x z) ≡ false) (one_there a y l) (after x (h.last_is ∙ k)));
  last_is = sym (last_more xs a);
}

-- what was written is the text of all atoms, and `true` where there was none
pub all_written : (ds : List Declaration) (start : List ℕ) (xs : List Atom) (started : Bool) (text new : List ℕ)
    → IsWritten ds start xs started text → (started ≡ true → new ≡ text)
    → (started ≡ false → new ≡ text ++ codes "true") → new ≡ start ++ atoms_text ds xs
all_written ds start [] true text new h some none = absurd (omega (arith, h.some refl))
all_written ds start (x ∷ xs) true text new h some none = some refl ∙ h.text_is
all_written ds start xs false text new h some none =
    none refl ∙ ap (λ t. t ++ codes "true") (h.text_is ∙ ap (λ ys. start ++ joined_text ds ys) (h.none refl))
    ∙ append_assoc start [] (codes "true") ∙ ap (λ ys. start ++ atoms_text ds ys) (sym (h.none refl))

-- one more list behind others
pub flat_more : {X : Type 0} (f : X → List Atom) (xs : List X) (i : ℕ) (x : X) → i < length xs → x ≡ get_or xs i x
    → flat_map f (take (i + 1) xs) ≡ flat_map f (take i xs) ++ f x
flat_more f xs i x l is = ap (flat_map f) (take_more xs i x l) ∙ sym (flat_map_more f [] (take i xs) (get_or xs i x))
    ∙ ap (λ y. flat_map f (take i xs) ++ f y) (sym is)

live_rows : (f : Flat) (rows : List (List ℤ)) → live_atoms (map (λ row. Some (flat_atom f row)) rows)
    ≡ map (flat_atom f) rows
live_rows f [] = refl
live_rows f (row ∷ rows) = ap (λ as'. flat_atom f row ∷ as') (live_rows f rows)

pub live_flat : (f : Flat) → live_atoms (flat_rows f) ≡ flat_atoms f
live_flat f = live_rows f f.rows.items

-- one table more
contents_one : (tables : Grid) (rows : List (Option Atom)) → contents (tables ++ rows ∷ [])
    ≡ contents tables ⊕ store_of (live_atoms rows)
contents_one [] rows = plus_comm (store_of (live_atoms rows)) empty
contents_one (t ∷ tables) rows = ap (λ s. store_of (live_atoms t) ⊕ s) (contents_one tables rows)
    ∙ sym (plus_assoc (store_of (live_atoms t)) (contents tables) (store_of (live_atoms rows)))

-- the rows of one table more
pub rows_more : (tables : List (Bor Contents)) (i : ℕ) (t : Bor Contents) (s : Store) → i < length tables
    → t ≡ get_or tables i t → s ≡ contents (map rows_at (take i tables)) → s ⊕ store_of (live_atoms t.now.rows)
    ≡ contents (map rows_at (take (i + 1) tables))
rows_more tables i t s l is h =
    let taken : map rows_at (take (i + 1) tables) ≡ map rows_at (take i tables) ++ t.now.rows ∷ [] =
    map_more rows_at tables i t l ∙ ap (λ u. map rows_at (take i tables) ++ rows_at u ∷ []) (sym is) in
    ap (λ u. u ⊕ store_of (live_atoms t.now.rows)) h ∙ sym (contents_one (map rows_at (take i tables)) t.now.rows)
    ∙ ap contents (sym taken)

pub contents_more : (tables : List (Bor Contents)) (i : ℕ) (t : Bor Contents) (before : List Atom) (whole : List Atom)
    → i < length tables → t ≡ get_or tables i t → store_of before ≡ contents (map rows_at (take i tables))
    → whole ≡ before ++ live_atoms t.now.rows → store_of whole ≡ contents (map rows_at (take (i + 1) tables))
contents_more tables i t before whole l is h w =
    ap store_of w ∙ store_of-append before (live_atoms t.now.rows) ∙ rows_more tables i t (store_of before) l is h

-- one atom more in one place
pub one_added : (fs : List Flat) (i : ℕ) (f g : Flat) (a : Atom) → i < length fs → f ≡ get_or fs i f
    → flat_atoms g ≡ flat_atoms f ++ a ∷ [] → store_of (flats_atoms (set fs i g))
    ≡ store_of (flats_atoms fs) ⊕ store_of (a ∷ [])
one_added [] i f g a l is e = absurd (omega (arith, l))
one_added (h ∷ fs) zero f g a l is e =
    store_of-append (flat_atoms g) (flats_atoms fs)
    ∙ ap (λ s. s ⊕ store_of (flats_atoms fs)) (ap store_of (e ∙ ap (λ x. flat_atoms x ++ a ∷ []) is)
    ∙ store_of-append (flat_atoms h) (a ∷ []))
    ∙ swap_sides (store_of (flat_atoms h)) (store_of (flats_atoms fs)) (store_of (a ∷ []))
    ∙ ap (λ s. s ⊕ store_of (a ∷ [])) (sym (store_of-append (flat_atoms h) (flats_atoms fs)))
one_added (h ∷ fs) (suc i) f g a l is e =
    store_of-append (flat_atoms h) (flats_atoms (set fs i g))
    ∙ ap (λ s. store_of (flat_atoms h) ⊕ s) (one_added fs i f g a (omega (arith, l)) is e)
    ∙ sym (plus_assoc (store_of (flat_atoms h)) (store_of (flats_atoms fs)) (store_of (a ∷ [])))
    ∙ ap (λ s. s ⊕ store_of (a ∷ [])) (sym (store_of-append (flat_atoms h) (flats_atoms fs)))

pub one_added_on : {E : Type 0} (fs : List Flat) (i : ℕ) (f g : Flat) (a : Atom) → i < length fs → f ≡ get_or fs i f
    → {A : Type 0} (r : Result A E) → OnOk r (flat_atoms g ≡ flat_atoms f ++ a ∷ [])
    → OnOk r (store_of (flats_atoms (set fs i g)) ≡ store_of (flats_atoms fs) ⊕ store_of (a ∷ []))
one_added_on fs i f g a l is (Ok x) e = one_added fs i f g a l is e
one_added_on fs i f g a l is (Err x) e = tt

-- one more atom behind others that joined a store
pub one_more : (s : Store) (xs : List Atom) (a : Atom) {t : Store} → t ≡ s ⊕ store_of xs → t ⊕ store_of (a ∷ [])
    ≡ s ⊕ store_of (xs ++ a ∷ [])
one_more s xs a e = ap (λ u. u ⊕ store_of (a ∷ [])) e ∙ plus_assoc s (store_of xs) (store_of (a ∷ []))
    ∙ ap (λ u. s ⊕ u) (sym (store_of-append xs (a ∷ [])))

-- the rows of one place in order
pub one_sorted : (fs : List Flat) (i : ℕ) (f g : Flat) → i < length fs → f ≡ get_or fs i f
    → store_of (flat_atoms g) ≡ store_of (flat_atoms f) → store_of (flats_atoms (set fs i g))
    ≡ store_of (flats_atoms fs)
one_sorted [] i f g l is e = absurd (omega (arith, l))
one_sorted (h ∷ fs) zero f g l is e =
    store_of-append (flat_atoms g) (flats_atoms fs)
    ∙ ap (λ s. s ⊕ store_of (flats_atoms fs)) (e ∙ ap (λ x. store_of (flat_atoms x)) is)
    ∙ sym (store_of-append (flat_atoms h) (flats_atoms fs))
one_sorted (h ∷ fs) (suc i) f g l is e =
    store_of-append (flat_atoms h) (flats_atoms (set fs i g))
    ∙ ap (λ s. store_of (flat_atoms h) ⊕ s) (one_sorted fs i f g (omega (arith, l)) is e)
    ∙ sym (store_of-append (flat_atoms h) (flats_atoms fs))

-- a table more behind others; one without atoms is left out
stored_more : (tables : List Contents) (i : ℕ) (t : Contents) → i < length tables → t ≡ get_or tables i t
    → stored_in (take (i + 1) tables) ≡ stored_in (take i tables) ⊕ store_of (live_atoms t.rows)
stored_more tables i t l is =
    let before = map (λ (u : Contents). u.rows) (take i tables) in
    ap contents (map_more (λ (u : Contents). u.rows) tables i t l)
    ∙ ap (λ u. contents (before ++ u.rows ∷ [])) (sym is) ∙ contents_one before t.rows

pub tables_more : (s : Store) (before : List (Bor Contents)) (tables : List Contents) (i : ℕ) (t : Bor Contents)
    → i < length tables → t.now ≡ get_or tables i t.now
    → contents (map rows_at before) ≡ s ⊕ stored_in (take i tables)
    → contents (map rows_at (before ++ t ∷ [])) ≡ s ⊕ stored_in (take (i + 1) tables)
tables_more s before tables i t l is h =
    let one = store_of (live_atoms t.now.rows) in
    ap contents (map_push rows_at before t) ∙ contents_one (map rows_at before) t.now.rows ∙ ap (λ u. u ⊕ one) h
    ∙ plus_assoc s (stored_in (take i tables)) one ∙ ap (λ u. s ⊕ u) (sym (stored_more tables i t.now l is))

none_live : (rows : List (Option Atom)) → ¬ (0 < length (filter is_some rows)) → live_atoms rows ≡ []
none_live rows none = sym (live_filter rows)
    ∙ ap live_atoms (nil_from_length (filter is_some rows) (omega (arith, none)))

pub tables_same : (s : Store) (before : List (Bor Contents)) (tables : List Contents) (i : ℕ) (t : Contents)
    → i < length tables → t ≡ get_or tables i t → ¬ (0 < length (filter is_some t.rows))
    → contents (map rows_at before) ≡ s ⊕ stored_in (take i tables)
    → contents (map rows_at before) ≡ s ⊕ stored_in (take (i + 1) tables)
tables_same s before tables i t l is none h =
    let rest = stored_in (take i tables) in
    h ∙ ap (λ u. s ⊕ u) (sym (stored_more tables i t l is
    ∙ ap (λ xs. rest ⊕ store_of xs) (none_live t.rows none) ∙ ap (λ u. rest ⊕ u) (of_list-none atom_cmp)
    ∙ plus_empty rest))

-- the atom of a row, by its place
row_at : {X : Type 0} (g : X → Atom) (xs : List X) (i : ℕ) → get_or (map (λ x. Some (g x)) xs) i None
    ≡ slice_get (map g xs) i
row_at g [] i = refl
row_at g (x ∷ xs) zero = refl
row_at g (x ∷ xs) (suc i) = row_at g xs i

pub flat_row : (f : Flat) (i : ℕ) → get_or (flat_rows f) i None ≡ slice_get (flat_atoms f) i
flat_row f i = row_at (flat_atom f) f.rows.items i

pub as_many_atoms : (f : Flat) → length (flat_atoms f) ≡ length f.rows.items
as_many_atoms f = length-map f.rows.items (flat_atom f)

-- the last one of both lists is that of the second
last_of_both : (xs ys : List Atom) (a : Atom) → slice_get ys (length ys - 1) ≡ Some a
    → slice_get (xs ++ ys) (length (xs ++ ys) - 1) ≡ Some a
last_of_both [] ys a e = e
last_of_both (x ∷ xs) [] a e = absurd (let f : ◌≡◌ {A = Option Atom} None (Some a) = e in cc)
last_of_both (x ∷ xs) (y ∷ ys) a e =
    let more : 0 < length (xs ++ y ∷ ys) = omega (arith, length-append xs (y ∷ ys)) in
    let on : length (x ∷ xs ++ y ∷ ys) - 1 ≡ suc (length (xs ++ y ∷ ys) - 1) = omega (arith, more) in
    ap (slice_get (x ∷ xs ++ y ∷ ys)) on ∙ last_of_both xs (y ∷ ys) a e

-- atoms that rise behind others, of which the first isn't printed before the last one of these
pub rises_on : (ds : List Declaration) (xs ys : List Atom) (last : Option Atom) (first end : Atom) → Rises ds xs last
    → IsTrue (is_rising (print_cmp ds) ys) → slice_get ys 0 ≡ Some first → slice_get ys (length ys - 1) ≡ Some end
    → ((x : Atom) → last ≡ Some x → is_gt (print_cmp ds x first) ≡ false) → Rises ds (xs ++ ys) (Some end)
rises_on ds xs ys last first end h rise f e after = record {
  rises = rising_append (print_total ds) xs ys h.rises rise (λ x y k l.
      let same : first ≡ y = let s : Some first ≡ Some y = sym f ∙ l in cc in
      subst (λ z. is_gt (print_cmp ds x z) ≡ false) same (after x (h.last_is ∙ k)));
  last_is = sym (last_of_both xs ys end e);
}

-- the joined text of two lists in a row is that of each, with a comma and a space between
joined_both : (ds : List Declaration) (x y : Atom) (xs ys : List Atom) → joined_text ds ((x ∷ xs) ++ y ∷ ys)
    ≡ joined_text ds (x ∷ xs) ++ codes ", " ++ joined_text ds (y ∷ ys)
joined_both ds x y xs ys =
    joined ds (x ∷ xs) (y ∷ ys) (omega arith)
    ∙ ap (λ t. atoms_text ds (x ∷ xs) ++ t) (append_assoc (codes ", ") (atom_text ds y) _)
    ∙ sym (append_assoc (atoms_text ds (x ∷ xs)) (codes ", ") (atoms_text ds (y ∷ ys)))

-- what is written stays so when no atom comes behind
pub written_none : (ds : List Declaration) (start text : List ℕ) (xs ys : List Atom) (started : Bool) → ys ≡ []
    → IsWritten ds start xs started text → IsWritten ds start (xs ++ ys) started text
written_none ds start text xs ys started none h =
    subst (λ zs. IsWritten ds start zs started text) (sym (ap (λ zs. xs ++ zs) none ∙ append-nil xs)) h

pub written_first : (ds : List Declaration) (start text new : List ℕ) (xs ys : List Atom) → 0 < length ys
    → IsWritten ds start xs false text → new ≡ text ++ joined_text ds ys → IsWritten ds start (xs ++ ys) true new
written_first ds start text new xs ys more h e =
    let none = h.none refl in
    let alone : xs ++ ys ≡ ys = ap (λ zs. zs ++ ys) none in record {
      text_is = e ∙ ap (λ t. t ++ joined_text ds ys) (h.text_is ∙ ap (λ zs. start ++ joined_text ds zs) none
          ∙ append-nil start) ∙ ap (λ zs. start ++ joined_text ds zs) (sym alone);
      some = λ _. rw alone more;
      none = λ no. absurd (true≢false no);
    }

pub written_more : (ds : List Declaration) (start text new : List ℕ) (xs ys : List Atom) → 0 < length ys
    → IsWritten ds start xs true text → new ≡ text ++ codes ", " ++ joined_text ds ys
    → IsWritten ds start (xs ++ ys) true new
written_more ds start text new [] ys more h e = absurd (omega (arith, h.some refl))
written_more ds start text new (x ∷ xs) [] more h e = absurd (omega (arith, more))
written_more ds start text new (x ∷ xs) (y ∷ ys) more h e = record {
  text_is = e ∙ ap (λ t. t ++ codes ", " ++ joined_text ds (y ∷ ys)) h.text_is
      ∙ ap (λ t. t ++ joined_text ds (y ∷ ys)) (append_assoc start (joined_text ds (x ∷ xs)) (codes ", "))
      ∙ append_assoc start (joined_text ds (x ∷ xs) ++ codes ", ") (joined_text ds (y ∷ ys))
      ∙ ap (λ t. start ++ t) (sym (joined_both ds x y xs ys));
  some = λ _. omega (arith, length-append (x ∷ xs) (y ∷ ys));
  none = λ no. absurd (true≢false no);
}

-- where each turn fits and one more does, all of them fit
pub fit_more : (ds : List Declaration) (turns : List Turn) (t : Turn) → Fits ds t.source → Fit ds turns
    → Fit ds (turns ++ t ∷ [])
fit_more ds turns t one all =
    let P : Turn → Type 0 = λ u. Fits ds u.source in
    All-append P turns (t ∷ []) all (All-cons P t [] one (All-nil P))

-- where one more list of atoms is written out, the lists up to it are
pub one_written : (ds : List Declaration) (fs : List Flat) (i : ℕ) (g : Flat) → i < length fs
    → All (IsWrittenOut ds) (take i fs) → IsWrittenOut ds g → All (IsWrittenOut ds) (take (i + 1) (set fs i g))
one_written ds fs i g l before one =
    subst (All (IsWrittenOut ds)) (sym (take_more_set fs i g l))
    (All-append (IsWrittenOut ds) (take i fs) (g ∷ []) before (All-cons (IsWrittenOut ds) g [] one
    (All-nil (IsWrittenOut ds))))

-- the atoms of one place stay
pub one_same : (fs : List Flat) (i : ℕ) (f g : Flat) → i < length fs → f ≡ get_or fs i f
    → flat_atoms g ≡ flat_atoms f → flats_atoms (set fs i g) ≡ flats_atoms fs
one_same [] i f g l is e = absurd (omega (arith, l))
one_same (h ∷ fs) zero f g l is e = ap (λ xs. xs ++ flats_atoms fs) (e ∙ ap flat_atoms is)
one_same (h ∷ fs) (suc i) f g l is e = ap (λ xs. flat_atoms h ++ xs) (one_same fs i f g (omega (arith, l)) is e)

-- turns in another order
pub fit_shuffled : (ds : List Declaration) (turns sorted shown : List Turn) → IsPermutation turns sorted
    → shown ≡ sorted → Fit ds turns → Fit ds shown
fit_shuffled ds turns sorted shown p same all =
    subst (Fit ds) (sym same) (All-permutation (λ t. Fits ds t.source) turns sorted p all)
