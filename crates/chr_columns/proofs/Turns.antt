-- Instances among all rows of one table, each row active in turn.
use Rattle.std.specs.Prelude.{Some, None, Option, IsTrue, is_some, IfSome, IfNone}
use Rattle.std.proofs.Common.{◌≡◌, ℕ, zero, suc, ◌+◌, ◌<◌, List, [], ◌∷◌, length, get_or, set, refl, sym, ap, subst}
use Rattle.std.proofs.Common.{◌∙◌, arith, inl, inr, false}
use Rattle.std.proofs.Math.ListN.{get_or-map}
use Rattle.std.proofs.lemmas.Bool.{cases_lt}
use Rattle.std.proofs.lemmas.List.{length-map, length-set, get_or_default, get_or_past, get_or-set_other}
use Rattle.std.proofs.lemmas.List.{get_or-set_same}
use Rattle.std.proofs.lemmas.Option.{same_Some}
use Rattle.chr_base.specs.declared.atom.Atom.{Atom}
use Rattle.chr_base.specs.declared.rule.Rule.{Rule}
use Rattle.chr_base.specs.FinBag.{IsWithin}
use Rattle.chr_base.specs.Stores.{store_of}
use Rattle.chr_base.specs.Rules.{heads_of, heads_at, atom_at, HasNoStep}
use Rattle.chr_base.proofs.Atoms.{atom_total}
use Rattle.chr_base.proofs.FinBags.{count-of_list}
use Rattle.chr_plans.specs.declared.plan.Lookup.{Lookup}
use Rattle.chr_plans.specs.declared.plan.Partner.{Partner}
use Rattle.chr_plans.specs.declared.rows.Seat.{Seat}
use Rattle.chr_plans.specs.Plans.{IsPlan, IsKnown, AreKeys, AreTests, AreLimits, FitsTables, partners_of, places_of}
use Rattle.chr_plans.specs.Plans.{columns_of}
use Rattle.chr_plans.specs.Seats.{head, seat, no_seat, atom_in, IsSeated, IsOther, NoPartners}
use Rattle.chr_plans.specs.Grids.{contents, rows_in, SitIn}
use Rattle.chr_plans.proofs.SeatedRows.{seated, count_contents, rows_leave}
use Rattle.chr_columns.specs.working.Finding.{only_table, only_index, plain, ArePlain, Lives}
use Rattle.chr_columns.proofs.Stored.{row_stays}

-- a row of the one table lives
pub lives_atom : (o : Option Atom) → IsTrue (is_some o) → (a : Atom) × (o ≡ Some a)
lives_atom None h = absurd (cc)
lives_atom (Some a) h = (a, refl)

pub lives_in_table : (rows : List (Option Atom)) (t i : ℕ) (o : Option ℕ) → IsTrue (is_some (only_index t i))
    → IfSome o (λ n. Lives rows n) → IfSome o (λ n. IsTrue (is_some (only_table rows t n)))
lives_in_table rows t i None is h = h
lives_in_table rows (suc t) i (Some n) is h = absurd (cc)
lives_in_table rows zero i (Some n) is h = h

-- what lives is in the one table
pub in_table : (rows : List (Option Atom)) (t n : ℕ) (a : Atom) → only_table rows t n ≡ Some a → t ≡ 0
in_table rows zero n a e = refl
in_table rows (suc t) n a e = absurd (let f : ◌≡◌ {A = Option Atom} None (Some a) = e in cc)

-- the plan of which nothing is known
module _ (r : Rule) (ls : List Lookup) (are : ArePlain (length (heads_of r)) ls) where
  many : length (partners_of ls) ≡ length ls
  many = length-map ls (λ l. l.partner)

  partner_is : (j : ℕ) → j < length (partners_of ls) → get_or (partners_of ls) j (plain 0).partner
      ≡ (plain (j + 1)).partner
  partner_is j l = get_or-map (λ (k : Lookup). k.partner) ls j (plain 0)
      ∙ ap (λ (k : Lookup). k.partner) (are.1 j (let m = many in omega (arith, l, m)))

  place_is : (j : ℕ) → j < length (partners_of ls) → get_or (places_of (partners_of ls)) j 0 ≡ j + 1
  place_is j l = get_or-map (λ (k : Partner). k.place) (partners_of ls) j (plain 0).partner
      ∙ ap (λ (k : Partner). k.place) (partner_is j l)

  covers : (q : ℕ) → q < length (heads_of r) → IsKnown (places_of (partners_of ls)) 0 (length (partners_of ls)) q
  covers zero l = inl refl
  covers (suc k) l =
      let m = many in
      let n = are.0 in
      let below : k < length (partners_of ls) = omega (arith, l, m, n) in
      inr (k, below, place_is k below ∙ (let f : k + 1 ≡ suc k = omega arith in f))

  pub plain_plan : IsPlan r 0 (partners_of ls)
  plain_plan = record {
    covers = covers;
    within = λ j l. (let e = place_is j l in let m = many in let n = are.0 in omega (arith, e, m, n, l));
    others = λ j l h. (absurd (let e = place_is j l in omega (arith, e, h)));
    once = λ i j l h same. (absurd (let e = place_is i (omega (arith, l, h)) in let f = place_is j h in
        omega (arith, e, f, same, l)));
    keys = λ j l h same. (
        let e : (plain (j + 1)).partner ≡ l = sym (partner_is j h) ∙ get_or_default (partners_of ls) j
        (plain 0).partner l h ∙ same in
        subst (λ (k : Partner). AreKeys r (places_of (partners_of ls)) 0 j k.place k.key.items) e tt);
    tests = λ j l h same. (
        let e : (plain (j + 1)).partner ≡ l = sym (partner_is j h) ∙ get_or_default (partners_of ls) j
        (plain 0).partner l h ∙ same in
        subst (λ (k : Partner). AreTests r (places_of (partners_of ls)) 0 j k.tests.items) e tt);
    limits = λ j l h same. (
        let e : (plain (j + 1)).partner ≡ l = sym (partner_is j h) ∙ get_or_default (partners_of ls) j
        (plain 0).partner l h ∙ same in
        subst (λ (k : Partner). AreLimits r (places_of (partners_of ls)) 0 j k.place k.limits.items) e tt);
  }

  pub plain_fits : (rows : List (Option Atom)) → FitsTables r ls (only_table rows) only_index
  plain_fits rows = record {
    index = λ j l h same. subst (λ (k : Lookup). only_index k.table k.index ≡ Some (columns_of k.partner.key.items))
        (it j l h same) refl;
    table = λ j l t n a h same there shape. (in_table rows t n a there ∙ ap (λ (k : Lookup). k.table) (it j l h same));
  }
    where
      it : (j : ℕ) (l : Lookup) → j < length ls → get_or ls j l ≡ l → plain (j + 1) ≡ l
      it j l h same = sym (are.1 j h) ∙ get_or_default ls j (plain 0) l h ∙ same

-- a row that is skipped is dead
none_at : (rows : List (Option Atom)) (n : ℕ) → get_or (set rows n None) n None ≡ None
none_at [] n = refl
none_at (o ∷ rows) zero = refl
none_at (o ∷ rows) (suc n) = none_at rows n

-- the seat of a row, which is where a seat in the one table has to be
abbrev pub at_row : ℕ → Seat
at_row n = record { table = 0; row = n }

module _ (rows : List (Option Atom)) (n : ℕ) where
  still_in : (s : Seat) (b : Atom) → atom_in (only_table (set rows n None)) s ≡ Some b → atom_in (only_table rows) s
      ≡ Some b
  still_in s b e = by s.table s.row e
    where
      by : (t k : ℕ) → only_table (set rows n None) t k ≡ Some b → only_table rows t k ≡ Some b
      by zero k e = row_stays rows n k b e
      by (suc t) k e = e

  not_there : (s : Seat) (b : Atom) → atom_in (only_table (set rows n None)) s ≡ Some b → at_row n ≡ s → ⊥
  not_there s b e same = absurd (
      let f : get_or (set rows n None) n None ≡ Some b = ap (atom_in (only_table (set rows n None))) same ∙ e in
      let h : ◌≡◌ {A = Option Atom} None (Some b) = sym (none_at rows n) ∙ f in
      cc)

  stays_in : (s : Seat) (b : Atom) → (at_row n ≡ s → ⊥) → atom_in (only_table rows) s ≡ Some b
      → atom_in (only_table (set rows n None)) s ≡ Some b
  stays_in s b other e = by s.table s.row other e
    where
      by : (t k : ℕ) → (at_row n ≡ record { table = t; row = k } → ⊥) → only_table rows t k ≡ Some b
          → only_table (set rows n None) t k ≡ Some b
      by zero k other e = get_or-set_other rows n k None None (λ f. other (λ i. record { table = 0; row = sym f i }))
          ∙ e
      by (suc t) k other e = e

-- an active row and its partners are within the rows
module _ (rows : List (Option Atom)) (n : ℕ) (a : Atom) (r : Rule) (heads : List Atom) (seats : List Seat)
    (live : get_or rows n None ≡ Some a) (some : 0 < length (heads_of r))
    (is : IsSeated r (only_table (set rows n None)) 0 heads seats) (active : head heads 0 ≡ a)
    (many : length seats ≡ length (heads_of r)) where
  abbrev all_seats : List Seat
  all_seats = set seats 0 (at_row n)

  heads_many : length heads ≡ length (heads_of r)
  heads_many = let v = is.instance in sym (ap length v.1) ∙ length-map (heads_of r) (atom_at v.0)

  first_seat : seat all_seats 0 ≡ at_row n
  first_seat = get_or-set_same seats 0 (at_row n) no_seat (omega (arith, some, many))

  other_seat : (q : ℕ) → seat all_seats (suc q) ≡ seat seats (suc q)
  other_seat q = get_or-set_other seats 0 (suc q) (at_row n) no_seat (λ e. absurd (omega (arith, e)))

  other : (q : ℕ) → suc q < length heads → IsOther r 0 (suc q)
  other q l = ((let m = heads_many in omega (arith, l, m)), (λ e. (absurd (omega (arith, e)))))

  all_there : (q : ℕ) → q < length heads → atom_in (rows_in (rows ∷ [])) (seat all_seats q) ≡ Some (head heads q)
  all_there zero l = ap (atom_in (only_table rows)) first_seat ∙ live ∙ ap Some (sym active)
  all_there (suc q) l = ap (atom_in (only_table rows)) (other_seat q) ∙ still_in rows n (seat seats (suc q))
      (head heads (suc q)) (is.there (suc q) (other q l))

  all_apart : (q k : ℕ) → q < k → k < length heads → seat all_seats q ≡ seat all_seats k → ⊥
  all_apart q zero l h same = absurd (omega (arith, l))
  all_apart zero (suc k) l h same = not_there rows n (seat seats (suc k)) (head heads (suc k))
      (is.there (suc k) (other k h)) (sym first_seat ∙ same ∙ other_seat k)
  all_apart (suc q) (suc k) l h same =
      is.apart (suc q) (suc k) (other q (omega (arith, l, h))) (other k h) (λ e. (absurd (omega (arith, e, l))))
      (sym (other_seat q) ∙ same ∙ other_seat k)

  pub seated_in : SitIn (rows ∷ []) heads all_seats
  seated_in = record {
    as_many = (let m = heads_many in let k = length-set seats 0 (at_row n) in omega (arith, m, k, many));
    there = all_there;
    apart = all_apart;
  }

  pub seated_within : IsWithin (store_of heads) (contents (rows ∷ []))
  seated_within = (rows_leave (rows ∷ []) heads all_seats seated_in).0

-- where no row has partners in the others, the rule has no step
module _ (rows : List (Option Atom)) (r : Rule) (some : 0 < length (heads_of r))
    (none : (n : ℕ) (a : Atom) → get_or rows n None ≡ Some a → NoPartners r (only_table (set rows n None)) 0 a) where
  pub no_step : HasNoStep r (contents (rows ∷ []))
  no_step v t step =
      let heads = heads_at v r in
      let w = seated (rows ∷ []) heads (λ q. (let x = step.there q in let y = count-of_list atom_total heads q in
      let z = count_contents q (rows ∷ []) in omega (arith, x, y, z))) in
      let ss = w.0 in
      let m : length heads ≡ length (heads_of r) = length-map (heads_of r) (atom_at v) in
      let here = w.1.there 0 (omega (arith, m, some)) in
      let e = in_table rows (seat ss 0).table (seat ss 0).row (head heads 0) here in
      let n = (seat ss 0).row in
      let is : at_row n ≡ seat ss 0 = (λ i. record { table = sym e i; row = n }) in
      let apart =
      λ (q k : ℕ) (l : q < length heads) (h : k < length heads) (ne : q ≡ k → ⊥) (same : seat ss q ≡ seat ss k).
      (elim (cases_lt q k) as (λ _. ⊥) [
        | inl less ↦ w.1.apart q k less h same
        | inr most ↦ w.1.apart k q (omega (arith, most, ne)) l (sym same)
      ]) in
      none n (head heads 0) (ap (λ k. only_table rows k n) (sym e) ∙ here) heads ss (record {
        instance = (v, refl, step.guard);
        there = λ q o. (
            let l : q < length heads = (let k = o.0 in omega (arith, k, m)) in
            stays_in rows n (seat ss q) (head heads q)
            (λ same. apart 0 q (omega (arith, m, some)) l (λ f. o.1 (sym f)) (sym is ∙ same)) (w.1.there q l));
        apart = λ q k o p ne same. (
            let l : q < length heads = (let j = o.0 in omega (arith, j, m)) in
            let h : k < length heads = (let j = p.0 in omega (arith, j, m)) in
            apart q k l h ne same);
      }) refl

-- the walk over the rows
module _ (rows : List (Option Atom)) (r : Rule) (i : ℕ) where
  abbrev pub NoneAt : ℕ → Atom → Type 0
  NoneAt n a = NoPartners r (only_table (set rows n None)) 0 a

  pub none_more : ((n : ℕ) (a : Atom) → n < i → get_or rows n None ≡ Some a → NoneAt n a)
      → ((a : Atom) → get_or rows i None ≡ Some a → NoneAt i a)
      → (n : ℕ) (a : Atom) → n < i + 1 → get_or rows n None ≡ Some a → NoneAt n a
  none_more before here n a l live = elim (cases_lt n i) as (λ _. NoneAt n a) [
    | inl less ↦ before n a less live
    | inr most ↦ (let e : n ≡ i = omega (arith, most, l) in
        subst (λ (k : ℕ). NoneAt k a) (sym e) (here a (ap (λ k. get_or rows k None) (sym e) ∙ live)))
  ]

  pub none_dead : None ≡ get_or rows i None → (a : Atom) → get_or rows i None ≡ Some a → NoneAt i a
  none_dead dead a live = absurd (let f : ◌≡◌ {A = Option Atom} None (Some a) = dead ∙ live in cc)

  pub none_live : (b : Atom) → Some b ≡ get_or rows i None → NoneAt i b → (a : Atom) → get_or rows i None ≡ Some a
      → NoneAt i a
  none_live b is none a live = subst (NoneAt i) (same_Some b a (is ∙ live)) none

pub when_none : {A : Type 0} (P : Type 0) (o : Option A) → false ≡ is_some o → IfNone o P → P
when_none P None e h = h
when_none P (Some x) e h = absurd (cc)

pub live_below : (rows : List (Option Atom)) (k : ℕ) (a : Atom) → get_or rows k None ≡ Some a → k < length rows
live_below rows k a live = elim (cases_lt k (length rows)) as (λ _. k < length rows) [
  | inl less ↦ less
  | inr most ↦ absurd (let f : ◌≡◌ {A = Option Atom} None (Some a) = sym (get_or_past rows k None most) ∙ live in cc)
]
