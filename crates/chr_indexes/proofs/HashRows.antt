-- The rows of an index by their hashes and flags.
use Rattle.std.proofs.Common.{◌≡◌, ℕ, zero, suc, ◌+◌, ◌-◌, ◌%◌, ◌<◌, ◌≤◌, ◌^◌, List, [], ◌∷◌, ◌++◌, length, get_or, set}
use Rattle.std.proofs.Common.{cond, Bool, true, false, Option, sym, ap, ◌∙◌, arith, refl}
use Rattle.std.specs.Prelude.{Some, None}
use Rattle.std.proofs.lemmas.List.{get_or-map, length-set}
use Rattle.std.proofs.lemmas.List.{map-append, map_push, map-set}
use Rattle.chr_indexes.specs.declared.hashes.row.Row.{Row}
use Rattle.chr_indexes.specs.working.HashEntries.{hashes_of, flags_of, links_of, live_hashes, slots_of}
use Rattle.chr_indexes.specs.working.HashEntries.{AreChained, IsIndex}
use Rattle.chr_indexes.proofs.HashFields.{length_hashes, as_many, field_kept}
use Rattle.chr_indexes.proofs.HashLinks.{pushed, killed}

pub length_entries : (hs : List ℕ) (bs : List Bool) → length bs ≡ length hs → length (live_hashes hs bs) ≡ length hs
length_entries [] bs e = refl
length_entries (h ∷ hs) [] e = absurd (omega (arith, e))
length_entries (h ∷ hs) (b ∷ bs) e = ap suc (length_entries hs bs (omega (arith, e)))

pub length_rows : (rows : List Row) → length (live_hashes (hashes_of rows) (flags_of rows)) ≡ length rows
length_rows rows = length_entries (hashes_of rows) (flags_of rows) (as_many rows) ∙ length_hashes rows

some_cond : (b : Bool) (x y : ℕ) → ◌≡◌ {A = Option ℕ} (cond b (Some x) None) (Some y) → (b ≡ true) × (x ≡ y)
some_cond true x y e = (refl, cc)
some_cond false x y e = cc

-- a row with a hash lives, and has this hash
pub entry_of : (hs : List ℕ) (bs : List Bool) (r h : ℕ) → get_or (live_hashes hs bs) r None ≡ Some h → (r < length hs)
    × (get_or bs r false ≡ true) × (get_or hs r 0 ≡ h)
entry_of [] bs r h e = cc
entry_of (x ∷ hs) [] r h e = cc
entry_of (x ∷ hs) (b ∷ bs) zero h e = let w = some_cond b x h e in (omega arith, w.0, w.1)
entry_of (x ∷ hs) (b ∷ bs) (suc r) h e = let w = entry_of hs bs r h e in (let l = w.0 in omega (arith, l), w.1, w.2)

pub entry_is : (hs : List ℕ) (bs : List Bool) (r h : ℕ) → r < length hs → length bs ≡ length hs → get_or bs r false
    ≡ true → get_or hs r 0 ≡ h → get_or (live_hashes hs bs) r None ≡ Some h
entry_is [] bs r h l n e g = absurd (omega (arith, l))
entry_is (x ∷ hs) [] r h l n e g = absurd (omega (arith, n))
entry_is (x ∷ hs) (b ∷ bs) zero h l n e g = rw (e, g) refl
entry_is (x ∷ hs) (b ∷ bs) (suc r) h l n e g = entry_is hs bs r h (omega (arith, l)) (omega (arith, n)) e g

pub entries_push : (hs : List ℕ) (bs : List Bool) (h : ℕ) → length bs ≡ length hs
    → live_hashes (hs ++ h ∷ []) (bs ++ true ∷ []) ≡ live_hashes hs bs ++ Some h ∷ []
entries_push [] [] h e = refl
entries_push [] (b ∷ bs) h e = absurd (omega (arith, e))
entries_push (x ∷ hs) [] h e = absurd (omega (arith, e))
entries_push (x ∷ hs) (b ∷ bs) h e = ap (λ xs. cond b (Some x) None ∷ xs) (entries_push hs bs h (omega (arith, e)))

pub entries_kill : (hs : List ℕ) (bs : List Bool) (r : ℕ) → length bs ≡ length hs → live_hashes hs (set bs r false)
    ≡ set (live_hashes hs bs) r None
entries_kill [] bs r e = refl
entries_kill (x ∷ hs) [] r e = absurd (omega (arith, e))
entries_kill (x ∷ hs) (b ∷ bs) zero e = refl
entries_kill (x ∷ hs) (b ∷ bs) (suc r) e = ap (λ xs. cond b (Some x) None ∷ xs)
    (entries_kill hs bs r (omega (arith, e)))

pub rows_push : (rows : List Row) (x : Row) → x.alive ≡ true
    → live_hashes (hashes_of (rows ++ x ∷ [])) (flags_of (rows ++ x ∷ []))
    ≡ live_hashes (hashes_of rows) (flags_of rows) ++ Some x.hash ∷ []
rows_push rows x lives = rw (map_push (λ (r : Row). r.hash) rows x, map_push (λ (r : Row). r.alive) rows x, lives)
    (entries_push (hashes_of rows) (flags_of rows) x.hash (as_many rows))

pub rows_kill : (rows : List Row) (r : ℕ) (x none : Row) → x.hash ≡ (get_or rows r none).hash → x.alive ≡ false
    → live_hashes (hashes_of (set rows r x)) (flags_of (set rows r x))
    ≡ set (live_hashes (hashes_of rows) (flags_of rows)) r None
rows_kill rows r x none hash dead =
    rw (field_kept (λ (y : Row). y.hash) rows r x none hash, map-set (λ (y : Row). y.alive) rows r x, dead)
    (entries_kill (hashes_of rows) (flags_of rows) r (as_many rows))

-- the slot of a row
pub slot_at : (n : ℕ) (hs : List ℕ) (r : ℕ) → r < length hs → get_or (slots_of n hs) r 0 ≡ get_or hs r 0 % n
slot_at n hs r l = get_or-map (λ h. h % n) hs r 0 0 l

pub slots_push : (n : ℕ) (hs : List ℕ) (h : ℕ) → slots_of n (hs ++ h ∷ []) ≡ slots_of n hs ++ (h % n) ∷ []
slots_push n hs h = map-append (λ x. x % n) hs (h ∷ [])

pub slots_len : (n : ℕ) (hs : List ℕ) → length (slots_of n hs) ≡ length hs
slots_len n [] = refl
slots_len n (h ∷ hs) = ap suc (slots_len n hs)

-- a row with this hash lies below the newest live place of its slot, and so below what was sought from there
pub first_above : (n : ℕ) (hs : List ℕ) (bs : List Bool) (hash at res r : ℕ)
    → ((r : ℕ) → r < length hs → get_or (slots_of n hs) r 0 ≡ hash % n → get_or bs r false ≡ true → r < at)
    → ((r : ℕ) → r < at → get_or (live_hashes hs bs) r None ≡ Some hash → r < res)
    → get_or (live_hashes hs bs) r None ≡ Some hash → r < res
first_above n hs bs hash at res r above between e =
    let w = entry_of hs bs r hash e in
    between r (above r w.0 (slot_at n hs r w.0 ∙ ap (λ h. h % n) w.2) w.1) e

pub next_above : (n : ℕ) (hs : List ℕ) (bs : List Bool) (hash row at res r : ℕ) → get_or (live_hashes hs bs) row None
    ≡ Some hash
    → ((r : ℕ) → r < row → get_or (slots_of n hs) r 0 ≡ get_or (slots_of n hs) row 0 → get_or bs r false ≡ true
    → r < at)
    → ((r : ℕ) → r < at → get_or (live_hashes hs bs) r None ≡ Some hash → r < res)
    → r < row → get_or (live_hashes hs bs) r None ≡ Some hash → r < res
next_above n hs bs hash row at res r f below between l e =
    let w = entry_of hs bs r hash e in
    let v = entry_of hs bs row hash f in
    between r (below r l (slot_at n hs r w.0 ∙ ap (λ h. h % n) (w.2 ∙ sym v.2) ∙ sym (slot_at n hs row v.0)) w.1) e

-- a row with this hash lies at or below the newest live place from a row on that has this hash, dead or alive
pub here_above : (n : ℕ) (hs : List ℕ) (bs : List Bool) (hash row at res r : ℕ) → row < length hs → get_or hs row 0
    ≡ hash
    → ((r : ℕ) → r < row + 1 → get_or (slots_of n hs) r 0 ≡ get_or (slots_of n hs) row 0 → get_or bs r false ≡ true
    → r < at)
    → ((r : ℕ) → r < at → get_or (live_hashes hs bs) r None ≡ Some hash → r < res)
    → r ≤ row → get_or (live_hashes hs bs) r None ≡ Some hash → r < res
here_above n hs bs hash row at res r here is below between l e =
    let w = entry_of hs bs r hash e in
    between r (below r (omega (arith, l)) (slot_at n hs r w.0 ∙ ap (λ h. h % n) (w.2 ∙ sym is)
    ∙ sym (slot_at n hs row here)) w.1) e

-- the row that was looked at has another hash: none was passed
pub passed : (n : ℕ) (hs : List ℕ) (bs : List Bool) (hash at to from r : ℕ) → 0 < at → at ≤ length hs
    → get_or (slots_of n hs) (at - 1) 0 ≡ hash % n → (get_or hs (at - 1) 0 ≡ hash → ⊥)
    → ((r : ℕ) → r < at - 1 → get_or (slots_of n hs) r 0 ≡ get_or (slots_of n hs) (at - 1) 0 → get_or bs r false ≡ true
    → r < to)
    → ((r : ℕ) → r < from → get_or (live_hashes hs bs) r None ≡ Some hash → r < at)
    → r < from → get_or (live_hashes hs bs) r None ≡ Some hash → r < to
passed n hs bs hash at to from r p within slot other below above l e =
    let w = entry_of hs bs r hash e in
    let a = above r l e in
    let ne : r ≡ at - 1 → ⊥ = λ same. other (ap (λ k. get_or hs k 0) (sym same) ∙ w.2) in
    below r (omega (arith, a, ne, p)) (slot_at n hs r w.0 ∙ ap (λ h. h % n) w.2 ∙ sym slot) w.1

-- rows in chains, with one more row
pub chained_push : (n : ℕ) (rows : List Row) (heads : List ℕ) (x : Row) (s m : ℕ) → AreChained n rows heads
    → s ≡ x.hash % n → s < length heads → x.next ≡ get_or heads s 0 → m ≡ length rows + 1 → length rows + 1 < 2 ^ 32
    → AreChained n (rows ++ x ∷ []) (set heads s m)
chained_push n rows heads x s m c es low ex em few =
    let l : length (slots_of n (hashes_of rows)) ≡ length rows =
    slots_len n (hashes_of rows) ∙ length_hashes rows in
    rw (
      map_push (λ (r : Row). r.hash) rows x,
      map_push (λ (r : Row). r.alive) rows x,
      map_push (λ (r : Row). r.next) rows x,
      slots_push n (hashes_of rows) x.hash,
      ← es,
    )
    (pushed (slots_of n (hashes_of rows)) (flags_of rows) (links_of rows) heads s m x.next x.alive c low
    (omega (arith, few, l)) (omega (arith, em, l)) ex)

pub index_push : (rows : List Row) (heads : List ℕ) (x : Row) (s m : ℕ) → IsIndex rows heads
    → s ≡ x.hash % length heads → x.next ≡ get_or heads s 0 → m ≡ length rows + 1 → length rows + 1 < 2 ^ 32
    → IsIndex (rows ++ x ∷ []) (set heads s m)
index_push rows heads x s m i es ex em few =
    let size : length (set heads s m) ≡ length heads = length-set heads s m in
    let a = i.some in
    let b = i.most in
    record {
      chained = rw size (chained_push (length heads) rows heads x s m i.chained es (omega (arith, es, a)) ex em few);
      some = omega (arith, size, a);
      most = omega (arith, size, b);
    }

-- a row dies
pub index_kill : (rows : List Row) (heads : List ℕ) (r : ℕ) (x none : Row) → IsIndex rows heads
    → x.hash ≡ (get_or rows r none).hash → x.next ≡ (get_or rows r none).next → x.alive ≡ false
    → IsIndex (set rows r x) heads
index_kill rows heads r x none i hash next dead = record {
  chained = rw (
    field_kept (λ (y : Row). y.hash) rows r x none hash,
    map-set (λ (y : Row). y.alive) rows r x,
    field_kept (λ (y : Row). y.next) rows r x none next,
    dead,
  )
      (killed (slots_of (length heads) (hashes_of rows)) (flags_of rows) (links_of rows) heads r i.chained);
  some = i.some;
  most = i.most;
}
