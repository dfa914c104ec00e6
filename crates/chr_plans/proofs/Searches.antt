-- What each step of the search keeps.
use Rattle.std.proofs.Common.{◌≡◌, ℕ, ℤ, ◌+◌, ◌<◌, ◌≤◌, inl, inr, List, length, get_or, set, map, Option, true, false}
use Rattle.std.proofs.Common.{refl, sym, ap, subst, ◌∙◌, arith}
use Rattle.std.specs.Prelude.{Some, None, IfSome, IfNone, IsTrue, is_some, option_map, slice_get, ⊤}
use Rattle.std.specs.List.{list_all}
use Rattle.std.proofs.lemmas.Bool.{cases_lt}
use Rattle.std.proofs.lemmas.List.{get_or-set_same, get_or-set_other, ext_get_or}
use Rattle.std.proofs.lemmas.Option.{slice_get_read}
use Rattle.chr_base.specs.declared.atom.Atom.{Atom}
use Rattle.chr_base.specs.declared.rule.Rule.{Rule}
use Rattle.chr_base.specs.Rules.{HasInstance, heads_of}
use Rattle.chr_base.proofs.Firing.{instance_places}
use Rattle.chr_plans.specs.declared.key.Span.{Span}
use Rattle.chr_plans.specs.declared.plan.Lookup.{Lookup}
use Rattle.chr_plans.specs.declared.rows.Seat.{Seat}
use Rattle.chr_base.specs.Atoms.{no_atom}
use Rattle.chr_plans.specs.Keys.{source_value, passes, allows, key_of, Spans}
use Rattle.chr_plans.specs.Rows.{Tables, Columns, Ranks, HaveOwnRanks, HasKey, LiesIn}
use Rattle.chr_plans.specs.Seats.{head, seat, no_seat, atom_in, IsOther, IsSeated}
use Rattle.chr_plans.specs.Plans.{IsPlan, FitsTables, IsKnown, partners_of, columns_of, rank_by}
use Rattle.chr_plans.specs.working.Searching.{AgreeAtKnown, NoneFrom, Past, PastFrom, AreStarted, looked_in}
use Rattle.chr_plans.proofs.Values.{key_known, tests_known, limits_known, shape_known}
use Rattle.chr_plans.proofs.Places.{place_is, partner_is, partners_len}

-- the rank of a row and one, 0 for none
abbrev pub bound : (ℕ → ℕ) → Option ℕ → ℕ
bound rank None = 0
bound rank (Some row) = rank row + 1

-- the row is what is looked for
abbrev pub IsWanted : Option (List ℕ) → List ℤ → Span → Option Atom → Type 0
IsWanted columns key span row = HasKey columns key row × LiesIn span row

-- the rows with these properties have at most the rank of what was found
pub below_found : (rank : ℕ → ℕ) (P Q R : ℕ → Type 0) (found : Option ℕ)
    → IfSome found (λ row. (r : ℕ) → P r → Q r → R r → rank r ≤ rank row)
    → IfNone found ((r : ℕ) → P r → Q r → R r → ⊥)
    → (r : ℕ) → P r → Q r → R r → rank r < bound rank found
below_found rank P Q R None greatest none r p q w = absurd (none r p q w)
below_found rank P Q R (Some row) greatest none r p q w = let l = greatest r p q w in omega (arith, l)

-- where all rows are looked at
pub greatest_of_all : (rank : ℕ → ℕ) (P Q : ℕ → Type 0) (found : Option ℕ)
    → IfSome found (λ row. (r : ℕ) → P r → Q r → rank r ≤ rank row)
    → IfSome found (λ row. (r : ℕ) → ⊤ → P r → Q r → rank r ≤ rank row)
greatest_of_all rank P Q None h = tt
greatest_of_all rank P Q (Some row) h = λ r _ p q. h r p q

pub none_of_all : (P Q : ℕ → Type 0) (found : Option ℕ) → IfNone found ((r : ℕ) → P r → Q r → ⊥)
    → IfNone found ((r : ℕ) → ⊤ → P r → Q r → ⊥)
none_of_all P Q None h = λ r _ p q. h r p q
none_of_all P Q (Some row) h = tt

pub below_next : (rank : ℕ → ℕ) (P : ℕ → Type 0) (at : ℕ) (found : Option ℕ)
    → IfSome found (λ row. (r : ℕ) → rank r < at → P r → rank r ≤ rank row)
    → IfNone found ((r : ℕ) → rank r < at → P r → ⊥)
    → (r : ℕ) → rank r < at → P r → rank r < bound rank found
below_next rank P at None greatest none r below p = absurd (none r below p)
below_next rank P at (Some row) greatest none r below p = let l = greatest r below p in omega (arith, l)

-- two properties that are told one after the other, told as one
pub greatest_next : (rank : ℕ → ℕ) (P Q : ℕ → Type 0) (at : ℕ) (found : Option ℕ)
    → IfSome found (λ row. (r : ℕ) → rank r < at → P r → Q r → rank r ≤ rank row)
    → IfSome found (λ row. (r : ℕ) → rank r < at → P r × Q r → rank r ≤ rank row)
greatest_next rank P Q at None h = tt
greatest_next rank P Q at (Some row) h = λ r l w. h r l w.0 w.1

pub none_next : (rank : ℕ → ℕ) (P Q : ℕ → Type 0) (at : ℕ) (found : Option ℕ)
    → IfNone found ((r : ℕ) → rank r < at → P r → Q r → ⊥)
    → IfNone found ((r : ℕ) → rank r < at → P r × Q r → ⊥)
none_next rank P Q at None h = λ r l w. h r l w.0 w.1
none_next rank P Q at (Some row) h = tt

module _ (r : Rule) (p : ℕ) (lookups : List Lookup) (n : ℕ) (l : Lookup) (rows : Tables) (columns : Columns)
    (heads : List Atom) (seats : List Seat)
    (plan : IsPlan r p (partners_of lookups)) (fits : FitsTables r lookups rows columns) (left : n < length lookups)
    (here : get_or lookups n l ≡ l) where
  within : (j : ℕ) → j < length lookups → j < length (partners_of lookups)
  within j h = let e = partners_len lookups in omega (arith, e, h)

  place_here : get_or (looked_in lookups) n 0 ≡ l.partner.place
  place_here = place_is lookups n l left here

  rank_of : (rank : Ranks) (row : ℕ) → rank_by rank (slice_get lookups n) row ≡ rank l.table l.index row
  rank_of rank row = ap (λ o. rank_by rank o row) (slice_get_read lookups (length lookups) n l refl left (sym here))

  -- the rank of the row in which the head at the place of this look-up sits
  rank_here : (rank : Ranks) (ss : List Seat)
      → rank_by rank (slice_get lookups n) (seat ss (get_or (looked_in lookups) n 0)).row
      ≡ rank l.table l.index (seat ss l.partner.place).row
  rank_here rank ss = ap (λ k. rank_by rank (slice_get lookups n) (seat ss k).row) place_here
      ∙ rank_of rank (seat ss l.partner.place).row

  pub place_within : l.partner.place < length (heads_of r)
  place_within = let a = plan.within n (within n left) in let e = place_here in omega (arith, a, e)

  pub place_other : l.partner.place ≡ p → ⊥
  place_other e = plan.others n (within n left) (place_here ∙ e)

  pub is_other : IsOther r p l.partner.place
  is_other = (place_within, place_other)

  -- a head that goes on lives in the table of the look-up, under the key
  row_known : (hs : List Atom) (ss : List Seat) → IsSeated r rows p hs ss
      → AgreeAtKnown (looked_in lookups) p n hs ss heads seats
      → ((seat ss l.partner.place).table ≡ l.table)
      × HasKey (columns l.table l.index) (map (λ k. source_value heads k.source) l.partner.key.items)
      (rows l.table (seat ss l.partner.place).row)
      × ((span : Span) → ((a : Atom) → list_all (allows heads a) l.partner.limits.items ≡ true → Spans span a)
      → LiesIn span (rows l.table (seat ss l.partner.place).row))
  row_known hs ss s same =
      let there = s.there l.partner.place is_other in
      let table : (seat ss l.partner.place).table ≡ l.table =
      fits.table n l (seat ss l.partner.place).table (seat ss l.partner.place).row (head hs l.partner.place) left here
      there
      (shape_known r s.instance.0 l.partner.place hs s.instance.1) in
      let key : key_of (columns_of l.partner.key.items) (head hs l.partner.place)
      ≡ map (λ k. source_value heads k.source) l.partner.key.items =
      key_known r (looked_in lookups) p n l.partner.place hs heads ss seats l.partner.key.items s.instance same
      (plan.keys n l.partner (within n left) (partner_is lookups n l left here)) in (
        table,
        (
          head hs l.partner.place,
          ap (λ t. rows t (seat ss l.partner.place).row) (sym table) ∙ there,
          ap (option_map (λ cs. key_of cs (head hs l.partner.place))) (fits.index n l left here) ∙ ap Some key,
        ),
        λ span all. (
          head hs l.partner.place,
          ap (λ t. rows t (seat ss l.partner.place).row) (sym table) ∙ there,
          all (head hs l.partner.place) (limits_known r (looked_in lookups) p n l.partner.place hs heads ss seats
              l.partner.limits.items s.instance same
              (plan.limits n l.partner (within n left) (partner_is lookups n l left here))),
        ),
      )

  -- where the heads fail a test, no instance goes on from them
  pub not_passed : false ≡ list_all (passes heads) l.partner.tests.items
      → NoneFrom r rows p (looked_in lookups) n heads seats
  not_passed failed hs ss s same =
      let all : list_all (passes heads) l.partner.tests.items ≡ true =
      tests_known r (looked_in lookups) p n hs heads ss seats l.partner.tests.items s.instance same
      (plan.tests n l.partner (within n left) (partner_is lookups n l left here)) in
      let z : false ≡ true = failed ∙ all in
      cc

  -- where the search begins at the rank of some row, no instance was passed
  reached : (rank : Ranks) (from : Option ℕ) → IfSome from (λ row. PastFrom r rows rank p lookups n heads seats row)
      → (hs : List Atom) (ss : List Seat) → IsSeated r rows p hs ss
      → AgreeAtKnown (looked_in lookups) p n hs ss heads seats
      → IfSome from (λ first. rank l.table l.index (seat ss l.partner.place).row ≤ rank l.table l.index first)
  reached rank None before hs ss s same = tt
  reached rank (Some first) before hs ss s same =
      elim (cases_lt (rank l.table l.index first) (rank l.table l.index (seat ss l.partner.place).row)) as (λ _.
      rank l.table l.index (seat ss l.partner.place).row ≤ rank l.table l.index first) [
        | inl less ↦ absurd (before left hs ss s same (let e = rank_here rank ss in let f = rank_of rank first in
            omega (arith, less, e, f)))
        | inr most ↦ most
      ]

  pub past_begun : (rank : Ranks) (span : Span) (from found : Option ℕ)
      → ((a : Atom) → list_all (allows heads a) l.partner.limits.items ≡ true → Spans span a)
      → IfSome from (λ row. PastFrom r rows rank p lookups n heads seats row)
      → ((q : ℕ) → IfSome from (λ first. rank l.table l.index q ≤ rank l.table l.index first)
      → HasKey (columns l.table l.index) (map (λ k. source_value heads k.source) l.partner.key.items) (rows l.table q)
      → LiesIn span (rows l.table q)
      → rank l.table l.index q < bound (rank l.table l.index) found)
      → Past r rows (rank l.table l.index) p (looked_in lookups) n l.partner.place heads seats
      (bound (rank l.table l.index) found)
  past_begun rank span from found all before below hs ss s same above =
      let w = row_known hs ss s same in
      let a = below (seat ss l.partner.place).row (reached rank from before hs ss s same) w.1 (w.2 span all) in
      omega (arith, a, above)

  -- the seat of this look-up, after the search of the next
  pub seat_found : (heads2 as' : List Atom) (seats2 ts : List Seat) (a : Atom) (x : Seat) → l.partner.place < length ts
      → AgreeAtKnown (looked_in lookups) p (n + 1) heads2 seats2 (set as' l.partner.place a) (set ts l.partner.place x)
      → seat seats2 l.partner.place ≡ x
  seat_found heads2 as' seats2 ts a x lt same = (same l.partner.place (inr (n, omega arith, place_here))).1
      ∙ get_or-set_same ts l.partner.place x no_seat lt

  pub past_found : (rank : Ranks) (seats2 : List Seat) (row : ℕ)
      → Past r rows (rank l.table l.index) p (looked_in lookups) n l.partner.place heads seats
      (rank l.table l.index row + 1) → (seat seats2 l.partner.place).row ≡ row
      → PastFrom r rows rank p lookups n heads seats (seat seats2 (get_or (looked_in lookups) n 0)).row
  past_found rank seats2 row past is more hs ss s same above =
      let e = rank_here rank seats2 ∙ ap (rank l.table l.index) is in
      let f = rank_here rank ss in
      past hs ss s same (omega (arith, above, e, f))

  -- the row that was looked at makes no instance
  pub past_next : (rank : ℕ → ℕ) (span : Span) (row to : ℕ) → HaveOwnRanks (rows l.table) rank
      → IsTrue (is_some (rows l.table row))
      → ((a : Atom) → list_all (allows heads a) l.partner.limits.items ≡ true → Spans span a)
      → ((q : ℕ) → rank q < rank row → IsWanted (columns l.table l.index)
      (map (λ k. source_value heads k.source) l.partner.key.items) span (rows l.table q) → rank q < to)
      → ((hs : List Atom) (ss : List Seat) → IsSeated r rows p hs ss
      → AgreeAtKnown (looked_in lookups) p n hs ss heads seats
      → seat ss l.partner.place ≡ record { table = l.table; row = row } → ⊥)
      → Past r rows rank p (looked_in lookups) n l.partner.place heads seats (rank row + 1)
      → Past r rows rank p (looked_in lookups) n l.partner.place heads seats to
  past_next rank span row to own lives all below not past hs ss s same from =
      let w = row_known hs ss s same in
      elim (cases_lt (rank row) (rank (seat ss l.partner.place).row)) as (λ _. ⊥) [
        | inl above ↦ past hs ss s same (omega (arith, above))
        | inr most ↦ elim (cases_lt (rank (seat ss l.partner.place).row) (rank row)) as (λ _. ⊥) [
          | inl less ↦ (let a = below (seat ss l.partner.place).row less (w.1, w.2 span all) in omega (arith, a, from))
          | inr least ↦ (let same_row : (seat ss l.partner.place).row ≡ row =
              own (seat ss l.partner.place).row row (ap is_some w.1.1) lives (omega (arith, most, least)) in
              not hs ss s same (λ i. record { table = w.0 i; row = same_row i }))
        ]
      ]

  -- a row in which an earlier partner sits
  pub not_taken : (x : Seat) (j : ℕ) → j < n → seat seats (get_or (looked_in lookups) j 0) ≡ x
      → (hs : List Atom) (ss : List Seat) → IsSeated r rows p hs ss
      → AgreeAtKnown (looked_in lookups) p n hs ss heads seats → seat ss l.partner.place ≡ x → ⊥
  not_taken x j g taken hs ss s same is =
      let early : j < length (partners_of lookups) = within j (omega (arith, g, left)) in
      s.apart (get_or (looked_in lookups) j 0) l.partner.place (plan.within j early, plan.others j early) is_other
      (λ e. plan.once j n g (within n left) (e ∙ sym place_here))
      ((same (get_or (looked_in lookups) j 0) (inr (j, g, refl))).1 ∙ taken ∙ sym is)

  -- the place of this look-up is none of those before
  not_known : (k : ℕ) → IsKnown (looked_in lookups) p n k → k ≡ l.partner.place → ⊥
  not_known k (inl e) same = place_other (sym same ∙ e)
  not_known k (inr w) same = plan.once w.0 n w.1 (within n left) (w.2 ∙ same ∙ sym place_here)

  same_at : (k : ℕ) (hs as' : List Atom) (ss ts : List Seat) → AgreeAtKnown (looked_in lookups) p n hs ss as' ts
      → (a : Atom) (x : Seat)
      → l.partner.place < length as' → l.partner.place < length ts → head hs l.partner.place ≡ a
      → seat ss l.partner.place ≡ x → IsKnown (looked_in lookups) p (n + 1) k
      → (head hs k ≡ head (set as' l.partner.place a) k) × (seat ss k ≡ seat (set ts l.partner.place x) k)
  same_at k hs as' ss ts same a x la lt ea ex (inl e) =
      let w = same k (inl e) in
      let ne : k ≡ l.partner.place → ⊥ = not_known k (inl e) in (
        w.0 ∙ sym (get_or-set_other as' l.partner.place k a no_atom ne),
        w.1
            ∙ sym (get_or-set_other ts l.partner.place k x no_seat ne),
      )
  same_at k hs as' ss ts same a x la lt ea ex (inr b) =
      elim (cases_lt b.0 n) as (λ _. (head hs k ≡ head (set as' l.partner.place a) k)
      × (seat ss k ≡ seat (set ts l.partner.place x) k)) [
        | inl less ↦ (let w = same k (inr (b.0, less, b.2)) in
            let ne : k ≡ l.partner.place → ⊥ = not_known k (inr (b.0, less, b.2)) in (
              w.0 ∙ sym (get_or-set_other as' l.partner.place k a no_atom ne),
              w.1
                  ∙ sym (get_or-set_other ts l.partner.place k x no_seat ne),
            ))
        | inr most ↦ (let i : b.0 ≡ n = (let g = b.1 in omega (arith, g, most)) in
            let q : k ≡ l.partner.place = sym b.2 ∙ ap (λ j. get_or (looked_in lookups) j 0) i ∙ place_here in (
              ap (head hs) q ∙ ea ∙ sym (get_or-set_same as' l.partner.place a no_atom la)
                  ∙ ap (head (set as' l.partner.place a)) (sym q),
              ap (seat ss) q ∙ ex ∙ sym (get_or-set_same ts l.partner.place x no_seat lt)
                  ∙ ap (seat (set ts l.partner.place x)) (sym q),
            ))
      ]

  -- what goes on from the row goes on from the next look-up
  pub not_found : (x : Seat) (a : Atom) (as' : List Atom) (ts : List Seat) → atom_in rows x ≡ Some a
      → l.partner.place < length as' → l.partner.place < length ts
      → AgreeAtKnown (looked_in lookups) p n as' ts heads seats
      → NoneFrom r rows p (looked_in lookups) (n + 1) (set as' l.partner.place a) (set ts l.partner.place x)
      → (hs : List Atom) (ss : List Seat) → IsSeated r rows p hs ss
      → AgreeAtKnown (looked_in lookups) p n hs ss heads seats → seat ss l.partner.place ≡ x → ⊥
  not_found x a as' ts is la lt kept none hs ss s same sits =
      let there = s.there l.partner.place is_other in
      let both : Some (head hs l.partner.place) ≡ Some a = sym there ∙ ap (atom_in rows) sits ∙ is in
      let atom : head hs l.partner.place ≡ a = cc in
      none hs ss s (λ k b. same_at k hs as' ss ts (λ j c.
      ((same j c).0 ∙ sym (kept j c).0, (same j c).1 ∙ sym (kept j c).1)) a x la lt atom sits b)

-- heads at all places, each in a row of its own
pub seated_all : (r : Rule) (rows : Tables) (p : ℕ) (lookups : List Lookup) (heads : List Atom) (seats : List Seat)
    → IsPlan r p (partners_of lookups)
    → AreStarted rows (looked_in lookups) (length lookups) heads seats → HasInstance r heads
    → IsSeated r rows p heads seats
seated_all r rows p lookups heads seats plan started h = record {
  instance = h;
  there = λ q o. (elim (plan.covers q o.0) as (λ _. atom_in rows (seat seats q) ≡ Some (head heads q)) [
    | inl e ↦ absurd (o.1 e)
    | inr w ↦ subst (λ k. atom_in rows (seat seats k) ≡ Some (head heads k)) w.2 (started.there w.0 (within w.0 w.1))
  ]);
  apart = λ q k o t ne e. (elim (plan.covers q o.0) as (λ _. ⊥) [
    | inl z ↦ o.1 z
    | inr w ↦ elim (plan.covers k t.0) as (λ _. ⊥) [
      | inl z ↦ t.1 z
      | inr v ↦ (let same : seat seats (get_or (looked_in lookups) w.0 0)
          ≡ seat seats (get_or (looked_in lookups) v.0 0) =
          ap (seat seats) w.2 ∙ e ∙ sym (ap (seat seats) v.2) in
          elim (cases_lt w.0 v.0) as (λ _. ⊥) [
            | inl less ↦ started.apart w.0 v.0 less (within v.0 v.1) same
            | inr most ↦ elim (cases_lt v.0 w.0) as (λ _. ⊥) [
              | inl more ↦ started.apart v.0 w.0 more (within w.0 w.1) (sym same)
              | inr least ↦ (let i : w.0 ≡ v.0 = omega (arith, most, least) in
                  ne (sym w.2 ∙ ap (λ j. get_or (looked_in lookups) j 0) i ∙ v.2))
            ]
          ])
    ]
  ]);
}
  where
    within : (j : ℕ) → j < length (partners_of lookups) → j < length lookups
    within j g = let e = partners_len lookups in omega (arith, e, g)

-- with heads at all places there is no other instance
pub none_all : (r : Rule) (rows : Tables) (p : ℕ) (lookups : List Lookup) (heads : List Atom) (seats : List Seat)
    → IsPlan r p (partners_of lookups)
    → length heads ≡ length (heads_of r) → (HasInstance r heads → ⊥) → NoneFrom r rows p (looked_in lookups)
    (length lookups) heads seats
none_all r rows p lookups heads seats plan len not hs ss s same =
    let n = instance_places r hs s.instance in
    let e : hs ≡ heads = ext_get_or no_atom hs heads (n ∙ sym len)
    (λ i l. (same i (known i (plan.covers i (omega (arith, l, n))))).0) in
    not (subst (HasInstance r) e s.instance)
  where
    known : (i : ℕ) → IsKnown (looked_in lookups) p (length (partners_of lookups)) i
        → IsKnown (looked_in lookups) p (length lookups) i
    known i (inl e) = inl e
    known i (inr w) = inr (w.0, (let g = w.1 in let n = partners_len lookups in omega (arith, g, n)), w.2)

-- the row of the look-up is one more
pub started_more : (r : Rule) (rows : Tables) (p : ℕ) (lookups : List Lookup) (n : ℕ) (l : Lookup)
    (heads heads' : List Atom) (seats seats' : List Seat) (a : Atom) (x : Seat)
    → IsPlan r p (partners_of lookups) → n < length lookups → get_or lookups n l ≡ l → l.partner.place < length heads'
    → l.partner.place < length seats'
    → AreStarted rows (looked_in lookups) n heads seats → AgreeAtKnown (looked_in lookups) p n heads' seats' heads seats
    → atom_in rows x ≡ Some a
    → ((j : ℕ) → j < n → seat seats' (get_or (looked_in lookups) j 0) ≡ x → ⊥)
    → AreStarted rows (looked_in lookups) (n + 1) (set heads' l.partner.place a) (set seats' l.partner.place x)
started_more r rows p lookups n l heads heads' seats seats' a x plan left here lh ls started same is free = record {
  there = λ j g. (elim (cases_lt j n) as (λ _. atom_in rows
      (seat (set seats' l.partner.place x) (get_or (looked_in lookups) j 0))
      ≡ Some (head (set heads' l.partner.place a) (get_or (looked_in lookups) j 0))) [
        | inl less ↦ (let w = same (get_or (looked_in lookups) j 0) (inr (j, less, refl)) in
            let hh : head (set heads' l.partner.place a) (get_or (looked_in lookups) j 0)
            ≡ head heads (get_or (looked_in lookups) j 0) =
            get_or-set_other heads' l.partner.place (get_or (looked_in lookups) j 0) a no_atom (other j less) ∙ w.0 in
            ap (atom_in rows) (kept j less ∙ w.1) ∙ started.there j less ∙ ap Some (sym hh))
        | inr most ↦ (let i : j ≡ n = omega (arith, g, most) in
            let q : get_or (looked_in lookups) j 0 ≡ l.partner.place = ap (λ j. get_or (looked_in lookups) j 0) i
            ∙ mine in
            let hh : head (set heads' l.partner.place a) (get_or (looked_in lookups) j 0) ≡ a =
            ap (head (set heads' l.partner.place a)) q ∙ get_or-set_same heads' l.partner.place a no_atom lh in
            ap (atom_in rows) (ap (seat (set seats' l.partner.place x)) q
            ∙ get_or-set_same seats' l.partner.place x no_seat ls) ∙ is ∙ ap Some (sym hh))
      ]);
  apart = λ i j less g e. (
      let low : i < n = omega (arith, less, g) in
      elim (cases_lt j n) as (λ _. ⊥) [
        | inl below ↦ started.apart i j less below (sym (same (get_or (looked_in lookups) i 0) (inr (i, low, refl))).1
            ∙ sym (kept i low) ∙ e ∙ kept j below
            ∙ (same (get_or (looked_in lookups) j 0) (inr (j, below, refl))).1)
        | inr most ↦ (let k : j ≡ n = omega (arith, g, most) in
            let q : get_or (looked_in lookups) j 0 ≡ l.partner.place = ap (λ j. get_or (looked_in lookups) j 0) k
            ∙ mine in
            free i low (sym (kept i low) ∙ e ∙ ap (seat (set seats' l.partner.place x)) q
            ∙ get_or-set_same seats' l.partner.place x no_seat ls))
      ]);
}
  where
    mine : get_or (looked_in lookups) n 0 ≡ l.partner.place
    mine = place_is lookups n l left here

    other : (j : ℕ) → j < n → get_or (looked_in lookups) j 0 ≡ l.partner.place → ⊥
    other j g e = plan.once j n g (let m = partners_len lookups in omega (arith, m, left)) (e ∙ sym mine)

    kept : (j : ℕ) → j < n → seat (set seats' l.partner.place x) (get_or (looked_in lookups) j 0)
        ≡ seat seats' (get_or (looked_in lookups) j 0)
    kept j g = get_or-set_other seats' l.partner.place (get_or (looked_in lookups) j 0) x no_seat (other j g)

-- what the search of the next look-up leaves at the places before
pub same_deeper : (r : Rule) (p : ℕ) (lookups : List Lookup) (n : ℕ) (l : Lookup) (heads heads' heads2 : List Atom)
    (seats seats' seats2 : List Seat) (a : Atom) (x : Seat)
    → IsPlan r p (partners_of lookups) → n < length lookups → get_or lookups n l ≡ l
    → AgreeAtKnown (looked_in lookups) p n heads' seats' heads seats
    → AgreeAtKnown (looked_in lookups) p (n + 1) heads2 seats2 (set heads' l.partner.place a)
    (set seats' l.partner.place x)
    → AgreeAtKnown (looked_in lookups) p n heads2 seats2 heads seats
same_deeper r p lookups n l heads heads' heads2 seats seats' seats2 a x plan left here same deeper k b =
    let w = same k b in
    let d = deeper k (more b) in
    let ne : k ≡ l.partner.place → ⊥ = other b in (
      d.0 ∙ get_or-set_other heads' l.partner.place k a no_atom ne ∙ w.0,
      d.1
          ∙ get_or-set_other seats' l.partner.place k x no_seat ne ∙ w.1,
    )
  where
    left' : n < length (partners_of lookups)
    left' = let m = partners_len lookups in omega (arith, m, left)

    more : IsKnown (looked_in lookups) p n k → IsKnown (looked_in lookups) p (n + 1) k
    more (inl e) = inl e
    more (inr w) = inr (w.0, (let g = w.1 in omega (arith, g)), w.2)

    mine : get_or (looked_in lookups) n 0 ≡ l.partner.place
    mine = place_is lookups n l left here

    other : IsKnown (looked_in lookups) p n k → k ≡ l.partner.place → ⊥
    other (inl e) z = plan.others n left' (mine ∙ sym z ∙ e)
    other (inr w) z = plan.once w.0 n w.1 left' (w.2 ∙ z ∙ sym mine)
