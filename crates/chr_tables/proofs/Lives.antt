-- Rows that live, and rows of indexes.
use Rattle.std.proofs.Common.{◌≡◌, ℕ, zero, suc, ◌+◌, ◌<◌, ◌≤◌, ◌^◌, List, [], ◌∷◌, ◌++◌, map, length, get_or, set}
use Rattle.std.proofs.Common.{cond, Bool, true, false, Option, refl, sym, ap, ◌∙◌, arith, inl, inr, length-append}
use Rattle.std.specs.Prelude.{Some, None, filter, is_some, replicate}
use Rattle.std.proofs.lemmas.Bool.{cases_lt}
use Rattle.std.proofs.Math.Seq.{get_or-append_seam}
use Rattle.std.proofs.lemmas.List.{get_or-map, map-set, get_or_past, get_or_append_left, map-append, length-map}
use Rattle.chr_base.specs.declared.atom.Atom.{Atom}
use Rattle.chr_tables.specs.declared.indexes.Keyed.{Keyed}
use Rattle.chr_tables.specs.working.Indexes.{live, Way, no_way, way_of, atom_entry, entry_in, keyed_entries, ways_of}
use Rattle.chr_tables.specs.working.Indexes.{key_columns, rooms_of, dead_in, AreIndexed, IsTable}
use Rattle.chr_tables.specs.working.Finders.{Found, order_in, finder_rows, room_in}

pub length_live : (as' : List Atom) (bs : List Bool) → length bs ≡ length as' → length (live as' bs) ≡ length as'
length_live [] bs e = refl
length_live (a ∷ as') [] e = absurd (omega (arith, e))
length_live (a ∷ as') (b ∷ bs) e = ap suc (length_live as' bs (omega (arith, e)))

some_cond : (b : Bool) (x y : Atom) → ◌≡◌ {A = Option Atom} (cond b (Some x) None) (Some y) → x ≡ y
some_cond true x y e = cc
some_cond false x y e = cc

pub some_by : (b : Bool) (a : Atom) → is_some (cond b (Some a) None) ≡ b
some_by true a = refl
some_by false a = refl

-- the atom of a row that lives
pub live_of : (as' : List Atom) (bs : List Bool) (r : ℕ) (a d : Atom) → get_or (live as' bs) r None ≡ Some a
    → (r < length as') × (get_or as' r d ≡ a)
live_of [] bs r a d e = cc
live_of (x ∷ as') [] r a d e = cc
live_of (x ∷ as') (b ∷ bs) zero a d e = (omega arith, some_cond b x a e)
live_of (x ∷ as') (b ∷ bs) (suc r) a d e = let w = live_of as' bs r a d e in (let l = w.0 in omega (arith, l), w.1)

-- a row that lives has a number of 32 bits, and the row after it does
pub few_rows : (as' : List Atom) (bs : List Bool) (r : ℕ) (a : Atom) → length as' < 2 ^ 32 → get_or (live as' bs) r None
    ≡ Some a → r + 1 < 2 ^ 32
few_rows as' bs r a few e = let w = live_of as' bs r a a e in let l = w.0 in omega (arith, l, few)

-- a row is what its flag says
pub live_at : (as' : List Atom) (bs : List Bool) (r : ℕ) (a : Atom) (b : Bool) → length bs ≡ length as' → r < length as'
    → get_or (live as' bs) r None ≡ cond (get_or bs r b) (Some (get_or as' r a)) None
live_at [] bs r a b e l = absurd (omega (arith, l))
live_at (x ∷ as') [] r a b e l = absurd (omega (arith, e))
live_at (x ∷ as') (y ∷ bs) zero a b e l = refl
live_at (x ∷ as') (y ∷ bs) (suc r) a b e l = live_at as' bs r a b (omega (arith, e)) (omega (arith, l))

pub live_push : (as' : List Atom) (bs : List Bool) (a : Atom) → length bs ≡ length as'
    → live (as' ++ a ∷ []) (bs ++ true ∷ []) ≡ live as' bs ++ Some a ∷ []
live_push [] [] a e = refl
live_push [] (b ∷ bs) a e = absurd (omega (arith, e))
live_push (x ∷ as') [] a e = absurd (omega (arith, e))
live_push (x ∷ as') (b ∷ bs) a e = ap (λ xs. cond b (Some x) None ∷ xs) (live_push as' bs a (omega (arith, e)))

pub live_kill : (as' : List Atom) (bs : List Bool) (r : ℕ) → length bs ≡ length as' → live as' (set bs r false)
    ≡ set (live as' bs) r None
live_kill [] bs r e = refl
live_kill (x ∷ as') [] r e = absurd (omega (arith, e))
live_kill (x ∷ as') (b ∷ bs) zero e = refl
live_kill (x ∷ as') (b ∷ bs) (suc r) e = ap (λ xs. cond b (Some x) None ∷ xs) (live_kill as' bs r (omega (arith, e)))

pub entries_at : (ks : List Keyed) (i : ℕ) (d : Keyed) → i < length ks → get_or (keyed_entries ks) i []
    ≡ finder_rows (get_or ks i d).index
entries_at ks i d l = get_or-map (λ (k : Keyed). finder_rows k.index) ks i d [] l

pub way_at : (ks : List Keyed) (i : ℕ) (d : Keyed) → i < length ks → get_or (ways_of ks) i no_way
    ≡ way_of (get_or ks i d)
way_at ks i d l = get_or-map way_of ks i d no_way l

pub rooms_at : (ks : List Keyed) (i : ℕ) (d : Keyed) → i < length ks → get_or (rooms_of ks) i 0
    ≡ room_in (get_or ks i d).index
rooms_at ks i d l = get_or-map (λ (k : Keyed). room_in k.index) ks i d 0 l

pub entries_set : (ks : List Keyed) (i : ℕ) (k : Keyed) → keyed_entries (set ks i k) ≡ set (keyed_entries ks) i
    (finder_rows k.index)
entries_set ks i k = map-set (λ (k : Keyed). finder_rows k.index) ks i k

pub rooms_set : (ks : List Keyed) (i : ℕ) (k : Keyed) → rooms_of (set ks i k) ≡ set (rooms_of ks) i (room_in k.index)
rooms_set ks i k = map-set (λ (k : Keyed). room_in k.index) ks i k

pub length_entries : (ks : List Keyed) → length (keyed_entries ks) ≡ length ks
length_entries ks = length-map ks (λ k. finder_rows k.index)

pub length_rooms : (ks : List Keyed) → length (rooms_of ks) ≡ length ks
length_rooms ks = length-map ks (λ k. room_in k.index)

-- an index with the same seed and columns, whose finder is of the same order, has the same way
pub same_way : (k l : Keyed) → k.seed ≡ l.seed → k.columns.items ≡ l.columns.items → order_in k.index ≡ order_in l.index
    → way_of k ≡ way_of l
same_way k l seed columns order i = record { seed = seed i; columns = columns i; order = order i }

pub length_ways : (ks : List Keyed) → length (ways_of ks) ≡ length ks
length_ways ks = length-map ks way_of

pub length_columns : (ks : List Keyed) → length (key_columns ks) ≡ length ks
length_columns ks = length-map (ways_of ks) (λ w. w.columns) ∙ length_ways ks

-- each index has as many rows as the table
pub as_many : (rows : List (Option Atom)) (ways : List Way) (entries : List (List (Option Found)))
    → AreIndexed rows ways entries → (j : ℕ) → j < length ways
    → length (get_or entries j []) ≡ length rows
as_many rows ways entries h j l = ap length (h j l) ∙ length-map rows (entry_in (get_or ways j no_way))

-- where the rows of the table and one more are fewer than 2^32, those of each index and one more are
pub each_few : (atoms : List Atom) (alive : List Bool) (dead : ℕ) (ks : List Keyed) → IsTable atoms alive dead ks
    → length atoms + 1 < 2 ^ 32 → (j : ℕ) → j < length ks
    → length (get_or (keyed_entries ks) j []) + 1 < 2 ^ 32
each_few atoms alive dead ks t f j l =
    let m = length_ways ks in
    let n = as_many (live atoms alive) (ways_of ks) (keyed_entries ks) t.indexed j (omega (arith, m, l)) in
    let k = length_live atoms alive t.as_alive in
    omega (arith, n, k, f)

indexed_kill : (rows : List (Option Atom)) (ways : List Way) (entries entries' : List (List (Option Found))) (r : ℕ)
    → AreIndexed rows ways entries
    → ((j : ℕ) → get_or entries' j [] ≡ set (get_or entries j []) r None) → AreIndexed (set rows r None) ways entries'
indexed_kill rows ways entries entries' r h k j l = k j ∙ ap (λ xs. set xs r None) (h j l)
    ∙ sym (map-set (entry_in (get_or ways j no_way)) rows r None)

pub indexed_push : (rows : List (Option Atom)) (ways : List Way) (entries entries' : List (List (Option Found)))
    (a : Atom) → AreIndexed rows ways entries
    → ((j : ℕ) → j < length ways → get_or entries' j [] ≡ get_or entries j []
    ++ Some (atom_entry (get_or ways j no_way) a) ∷ [])
    → AreIndexed (rows ++ Some a ∷ []) ways entries'
indexed_push rows ways entries entries' a h k j l =
    k j l ∙ ap (λ xs. xs ++ Some (atom_entry (get_or ways j no_way) a) ∷ []) (h j l)
    ∙ sym (map-append (entry_in (get_or ways j no_way)) rows (Some a ∷ []))

pub table_same : (atoms : List Atom) (alive : List Bool) (dead : ℕ) (ks ks' : List Keyed) → IsTable atoms alive dead ks
    → ways_of ks' ≡ ways_of ks → keyed_entries ks' ≡ keyed_entries ks
    → IsTable atoms alive dead ks'
table_same atoms alive dead ks ks' t c r = record {
  as_alive = t.as_alive;
  counted = t.counted;
  few = t.few;
  indexed = rw (c, r) t.indexed;
}

pub table_kill : (atoms : List Atom) (alive : List Bool) (dead more : ℕ) (ks ks' : List Keyed) (r : ℕ)
    → IsTable atoms alive dead ks → ways_of ks' ≡ ways_of ks
    → ((j : ℕ) → get_or (keyed_entries ks') j [] ≡ set (get_or (keyed_entries ks) j []) r None)
    → length (set alive r false) ≡ length alive → dead_in (set alive r false) ≡ dead_in alive + more
    → IsTable atoms (set alive r false) (dead + more) ks'
table_kill atoms alive dead more ks ks' r t c k len died = record {
  as_alive = len ∙ t.as_alive;
  counted = (let e = t.counted in omega (arith, e, died));
  few = t.few;
  indexed = rw (c, live_kill atoms alive r t.as_alive)
      (indexed_kill (live atoms alive) (ways_of ks) (keyed_entries ks) (keyed_entries ks') r t.indexed k);
}

dead_push : (bs : List Bool) → dead_in (bs ++ true ∷ []) ≡ dead_in bs
dead_push [] = refl
dead_push (true ∷ bs) = dead_push bs
dead_push (false ∷ bs) = ap suc (dead_push bs)

pub table_push : (atoms : List Atom) (alive : List Bool) (dead : ℕ) (ks ks' : List Keyed) (a : Atom)
    → IsTable atoms alive dead ks → length atoms + 1 < 2 ^ 32 → ways_of ks' ≡ ways_of ks
    → ((j : ℕ) → j < length ks → get_or (keyed_entries ks') j [] ≡ get_or (keyed_entries ks) j []
    ++ Some (atom_entry (get_or (ways_of ks) j no_way) a) ∷ [])
    → IsTable (atoms ++ a ∷ []) (alive ++ true ∷ []) dead ks'
table_push atoms alive dead ks ks' a t f c r = record {
  as_alive = (let x = length-append atoms (a ∷ []) in let y = length-append alive (true ∷ []) in let z = t.as_alive in
      omega (arith, x, y, z));
  counted = t.counted ∙ sym (dead_push alive);
  few = (let x = length-append atoms (a ∷ []) in omega (arith, x, f));
  indexed = rw (c, live_push atoms alive a t.as_alive)
      (indexed_push (live atoms alive) (ways_of ks) (keyed_entries ks) (keyed_entries ks') a t.indexed
      (λ j l. r j (let n = length_ways ks in omega (arith, n, l))));
}

-- one more index, of a table without rows
pub table_index : (atoms : List Atom) (alive : List Bool) (dead : ℕ) (ks : List Keyed) (k : Keyed)
    → IsTable atoms alive dead ks → live atoms alive ≡ [] → finder_rows k.index ≡ []
    → IsTable atoms alive dead (ks ++ k ∷ [])
table_index atoms alive dead ks k t none empty = record {
  as_alive = t.as_alive;
  counted = t.counted;
  few = t.few;
  indexed = λ j l. (rw (none, map-append (λ (x : Keyed). finder_rows x.index) ks (k ∷ []))
      (elim (cases_lt j (length (keyed_entries ks))) as (λ _. get_or (keyed_entries ks ++ finder_rows k.index ∷ []) j []
      ≡ []) [
        | inl less ↦ get_or_append_left (keyed_entries ks) (finder_rows k.index ∷ []) [] j less
            ∙ t.indexed j (let n = length_ways ks in let m = length_entries ks in omega (arith, n, m, less))
            ∙ ap (map (entry_in (get_or (ways_of ks) j no_way))) none
        | inr most ↦ elim (cases_lt (length (keyed_entries ks)) j) as (λ _. get_or
            (keyed_entries ks ++ finder_rows k.index ∷ []) j [] ≡ []) [
              | inl more ↦ (let n = length-append (keyed_entries ks) (finder_rows k.index ∷ []) in
                  get_or_past (keyed_entries ks ++ finder_rows k.index ∷ []) j [] (omega (arith, n, more)))
              | inr least ↦ (let e : j ≡ length (keyed_entries ks) = omega (arith, most, least) in
                  ap (λ i. get_or (keyed_entries ks ++ finder_rows k.index ∷ []) i []) e
                  ∙ get_or-append_seam (keyed_entries ks) (finder_rows k.index) [] [] ∙ empty)
            ]
      ]));
}

-- a row that is dead is counted once
pub dead_one : (bs : List Bool) (r : ℕ) → r < length bs → dead_in (set bs r false)
    ≡ dead_in bs + cond (get_or bs r false) 1 0
dead_one [] r l = absurd (omega (arith, l))
dead_one (true ∷ bs) zero l = omega arith
dead_one (false ∷ bs) zero l = omega arith
dead_one (true ∷ bs) (suc r) l = dead_one bs r (omega (arith, l))
dead_one (false ∷ bs) (suc r) l = let h = dead_one bs r (omega (arith, l)) in omega (arith, h)

pub dead_most : (bs : List Bool) → dead_in bs ≤ length bs
dead_most [] = omega arith
dead_most (true ∷ bs) = let h = dead_most bs in omega (arith, h)
dead_most (false ∷ bs) = let h = dead_most bs in omega (arith, h)

pub none_dead : (n : ℕ) → dead_in (replicate n true) ≡ 0
none_dead zero = refl
none_dead (suc n) = none_dead n

-- each row lives or is dead
pub live_or_dead : (as' : List Atom) (bs : List Bool) → length bs ≡ length as'
    → dead_in bs + length (filter is_some (live as' bs)) ≡ length bs
live_or_dead [] [] e = refl
live_or_dead [] (b ∷ bs) e = absurd (omega (arith, e))
live_or_dead (a ∷ as') [] e = refl
live_or_dead (a ∷ as') (true ∷ bs) e = let h = live_or_dead as' bs (omega (arith, e)) in omega (arith, h)
live_or_dead (a ∷ as') (false ∷ bs) e = let h = live_or_dead as' bs (omega (arith, e)) in omega (arith, h)
