-- Each kind of step keeps the tie.
use Rattle.std.proofs.Common.{◌≡◌, ◌≢◌, ◌⊎◌, ℕ, zero, suc, ◌+◌, ◌≤◌, ◌<◌, Bool, true, false, cond, eqb, true≢false}
use Rattle.std.proofs.Common.{List, [], ◌∷◌, ◌++◌, length, set, All, refl, sym, ap, ◌∙◌, subst, ⊎_elim, inl, inr, arith}
use Rattle.std.proofs.Common.{get_or, eq-eqb, ne_eqb, drop}
use Rattle.std.specs.Prelude.{filter, ◌==◌}
use Rattle.std.proofs.lemmas.Bool.Decides.{nat_tests}
use Rattle.std.proofs.lemmas.List.Elements.{All-push, All-nil, filter-append}
use Rattle.std.proofs.lemmas.List.{append-nil}
use mathlib.Core.Option.{some, some-ne-none, some-injective}
use lib.ListN.{get_elem?, length-append}
use Rattle.std.proofs.lemmas.List.Sums.{length-filter}
use Rattle.chr_acts.specs.Journals.{count_of}
use Rattle.atomic_table.specs.Table.{State, Me, keeps, Allows, Splits, Joins, opening}
use Rattle.atomic_table.proofs.Lists.{at_set, set_else}
use Rattle.chr_acts.specs.declared.entry.Entry.{Entry}
use Rattle.chr_shared.specs.declared.tie.Known.{Known}
use Rattle.chr_shared.specs.Tie.{of_seat, keeper, sitting, nobody, dealing, newcomer, visited, alone, visitor, appended}
use Rattle.chr_shared.specs.Tie.{Appends, IsBySeat, Checks, Fits, IsTied}

off : false ≡ true → ⊥
off e = true≢false (sym e)

-- an entry of a seat that is added to the log is added to the seat's entries
of_seat_own : (n : ℕ) (log : List Entry) (e : Entry) → e.seat ≡ n → of_seat n (log ++ e ∷ []) ≡ of_seat n log ++ e ∷ []
of_seat_own n log e is = filter-append _ log (e ∷ []) ∙ ap (λ (b : Bool). of_seat n log ++ cond b (e ∷ []) [])
    (eq-eqb e.seat n is)

of_seat_other : (n : ℕ) (log : List Entry) (e : Entry) → e.seat ≢ n → of_seat n (log ++ e ∷ []) ≡ of_seat n log
of_seat_other n log e apart = filter-append _ log (e ∷ [])
    ∙ (ap (λ (b : Bool). of_seat n log ++ cond b (e ∷ []) []) (ne_eqb e.seat n apart) ∙ append-nil (of_seat n log))

-- the places of the seats, where that of one has changed
moved : (ℕ → ℕ) → ℕ → ℕ → ℕ → ℕ
moved places n k m = cond (eqb m n) k (places m)

moved_here : (places : ℕ → ℕ) (n k m : ℕ) → m ≡ n → moved places n k m ≡ k
unfolding moved
moved_here places n k m is = grind (arith, nat_tests)

moved_else : (places : ℕ → ℕ) (n k m : ℕ) → m ≢ n → moved places n k m ≡ places m
unfolding moved
moved_else places n k m apart = grind (arith, nat_tests)

-- what holds of each view holds of each after one has changed
fits_set : (F : ℕ → Known → Type 0) (views : List Known) (k : ℕ) (w : Known)
    → ((j : ℕ) (u : Known) → j ≢ k → get_elem? views j ≡ some u → F j u) → F k w → (j : ℕ) (u : Known)
    → get_elem? (set views k w) j ≡ some u → F j u
fits_set F views k w others mine j u at =
    ⊎_elim
    (λ (h : (j ≡ k) × (w ≡ u)). subst (λ (y : ℕ × Known). F y.0 y.1) (λ i. (sym h.0 i, h.1 i)) mine)
    (λ (h : (j ≢ k) × (get_elem? views j ≡ some u)). others j u h.0 h.1)
    (at_set views k j w u at)

-- a view in a list is the last or stands before it
at_end : (l : List Known) (a b : Known) (j : ℕ) → get_elem? (l ++ a ∷ []) j ≡ some b
    → ((get_elem? l j ≡ some b) × (j < length l)) ⊎ ((j ≡ length l) × (a ≡ b))
at_end [] a b zero e = inr (refl, some-injective a b e)
at_end [] a b (suc j) e = absurd (some-ne-none b (sym e))
at_end (x ∷ xs) a b zero e = inl (e, omega arith)
at_end (x ∷ xs) a b (suc j) e = ⊎_elim (λ t. inl (t.0, omega (arith, t.1))) (λ t. inr (ap suc t.0, t.1))
    (at_end xs a b j e)

-- what holds of all views but the last, and of the last, holds of each
fits_snoc : (F : ℕ → Known → Type 0) (views : List Known) (w : Known)
    → ((j : ℕ) (u : Known) → j < length views → get_elem? views j ≡ some u → F j u) → F (length views) w
    → (j : ℕ) (u : Known) → get_elem? (views ++ w ∷ []) j ≡ some u → F j u
fits_snoc F views w others mine j u at =
    ⊎_elim
    (λ (h : (get_elem? views j ≡ some u) × (j < length views)). others j u h.1 h.0)
    (λ (h : (j ≡ length views) × (w ≡ u)). subst (λ (y : ℕ × Known). F y.0 y.1) (λ i. (sym h.0 i, h.1 i)) mine)
    (at_end views w u j at)

-- a view that sits elsewhere fits where another seat has moved
fits_moved : (keeper_at count : ℕ) (log : List Entry) (places : ℕ → ℕ) (n k j : ℕ) (u : Known)
    → Fits keeper_at count log places j u → (u.sits ≡ true → u.number ≢ n)
    → Fits keeper_at count log (moved places n k) j u
fits_moved keeper_at count log places n k j u f apart =
    record {
      head = f.head;
      all = f.all;
      dealt = f.dealt;
      place =
          (λ s. f.place s ∙ sym (moved_else places n k u.number (apart s)));
      mine = f.mine;
      number = f.number;
    }

fits_nobody : (keeper_at count : ℕ) (log : List Entry) (places : ℕ → ℕ) (j : ℕ)
    → Fits keeper_at count log places j nobody
fits_nobody keeper_at count log places j =
    record {
      head = (λ h. absurd (off h));
      all = (λ h. absurd (off h));
      dealt = (λ h. absurd (off h));
      place =
          (λ h. absurd (off h));
      mine = (λ h. absurd (off h));
      number = (λ h. absurd (off h));
    }

-- the keeper's view without its visitor fits where it did with the visitor
fits_alone : (keeper_at count : ℕ) (log : List Entry) (places now : ℕ → ℕ) (j : ℕ) (v : Known) → v.keeps ≡ true
    → Fits keeper_at count log places j v → Fits keeper_at count log now j (alone v)
fits_alone keeper_at count log places now j v holds f =
    record {
      head = (λ _. f.head holds);
      all = (λ _. f.all holds);
      dealt = (λ _. f.dealt holds);
      place =
          (λ h. absurd (off h));
      mine = (λ h. absurd (off h));
      number = (λ h. absurd (off h));
    }

fits_seat : (keeper_at count : ℕ) (log : List Entry) (places : ℕ → ℕ) (n j : ℕ) (mine : List Entry)
    → mine ≡ of_seat n log → (0 < n) × (n ≤ count) → Fits keeper_at count log (moved places n j) j (sitting n mine)
fits_seat keeper_at count log places n j mine is number =
    record {
      head = (λ h. absurd (off h));
      all = (λ h. absurd (off h));
      dealt = (λ h. absurd (off h));
      place =
          (λ _. sym (moved_here places n j n refl));
      mine = (λ _. is);
      number = (λ _. number);
    }

-- the table is tied as it is made
pub begins : IsTied (opening (0 ∷ []) [] (keeper [] 0))
begins = record { keeper_at = 0; count = 0; log = []; places = (λ _. 0); each = one; seats = All-nil (IsBySeat 0) }
  where
    one : (k : ℕ) (v : Known) → get_elem? (keeper [] 0 ∷ []) k ≡ some v → Fits 0 0 [] (λ _. 0) k v
    one zero v at = subst (Fits 0 0 [] (λ _. 0) 0) (some-injective _ _ at) record {
      head = (λ _. refl);
      all =
          (λ _. refl);
      dealt = (λ _. refl);
      place = (λ h. absurd (off h));
      mine = (λ h. absurd (off h));
      number =
          (λ h. absurd (off h));
    }
    one (suc k) v at = absurd (some-ne-none v (sym at))

-- the caller's seat comes to the keeper
pub visits : (id : ℕ) (v : Known) (other : ℕ) (u : Known) → v.keeps ≡ true → u.sits ≡ true
    → Joins IsTied id v other u (visited v u) nobody
visits id v other u holds sits state tied at apart there =
    let host = visited v u in
    let mine = tied.each id v at in
    let was : get_elem? state.views other ≡ some u = sym (set_else state.views id other host apart) ∙ there in
    let theirs = tied.each other u was in
    let places = moved tied.places u.number id in
    record {
      keeper_at = tied.keeper_at;
      count = tied.count;
      log = tied.log;
      places = places;
      seats = tied.seats;
      each = fits_set (Fits tied.keeper_at tied.count tied.log places) (set state.views id host) other nobody
          (λ j t away e.
          ⊎_elim
          (λ (h : (j ≡ id) × (host ≡ t)). subst (λ (y : ℕ × Known). Fits tied.keeper_at tied.count tied.log places y.0
          y.1) (λ i. (sym h.0 i, h.1 i))
          record {
            head = (λ _. mine.head holds);
            all = (λ _. mine.all holds);
            dealt = (λ _. mine.dealt holds);
            place =
                (λ _. sym (moved_here tied.places u.number id u.number refl));
            mine = (λ _. theirs.mine sits);
            number =
                (λ _. theirs.number sits);
          })
          (λ (h : (j ≢ id) × (get_elem? state.views j ≡ some t)).
          let f = tied.each j t h.1 in
          fits_moved tied.keeper_at tied.count tied.log tied.places u.number id j t f
          (λ s same. away (f.place s ∙ ap tied.places same ∙ sym (theirs.place sits))))
          (at_set state.views id j host t e))
          (fits_nobody tied.keeper_at tied.count tied.log places other);
    }

-- the entry that is appended to both lists keeps the tie
appended_tied : (e : Entry) (state : State ℕ Known) (words : List ℕ) (tied : IsTied state) (id : ℕ) (v : Known)
    → get_elem? state.views id ≡ some v → v.keeps ≡ true → v.sits ≡ true → v.number ≡ e.seat
    → IsTied record { words = words; homes = state.homes; views = set state.views id (appended v e) }
appended_tied e state words tied id v at holds sits own =
    let mine = tied.each id v at in
    let log = tied.log ++ e ∷ [] in
    record {
      keeper_at = tied.keeper_at;
      count = tied.count;
      log = log;
      places = tied.places;
      seats = All-push (IsBySeat tied.count) tied.log e tied.seats
          (subst (λ (n : ℕ). (0 < n) × (n ≤ tied.count)) own (mine.number sits));
      each = fits_set (Fits tied.keeper_at tied.count log tied.places) state.views id (appended v e)
          (λ j u away there.
          let f = tied.each j u there in
          record {
            head = f.head;
            all = (λ k. absurd (away (f.head k ∙ sym (mine.head holds))));
            dealt = f.dealt;
            place = f.place;
            mine = (λ s. f.mine s ∙ sym (of_seat_other u.number tied.log e
                (λ same. away (f.place s ∙ ap tied.places (sym same ∙ sym own) ∙ sym (mine.place sits)))));
            number = f.number;
          })
          record {
            head = (λ _. mine.head holds);
            all = (λ _. ap (λ l. l ++ e ∷ []) (mine.all holds));
            dealt = (λ _. mine.dealt holds);
            place = (λ _. mine.place sits);
            mine = (λ _. ap (λ l. l ++ e ∷ []) (mine.mine sits) ∙ sym (of_seat_own v.number tied.log e (sym own)));
            number = (λ _. mine.number sits);
          };
    }

pub appends : (e : Entry) (slots id : ℕ) (me : Me ℕ Known) → me.0.keeps ≡ true → me.0.sits ≡ true → me.0.number ≡ e.seat
    → Allows IsTied slots id me 0 (λ n. n) (λ found after. Appends e me after)
appends e slots id me holds sits own state tied long at fits =
    let mine = tied.each id me.0 at in (
      appended me.0 e,
      keeps,
      tt,
      appended_tied e state _ tied id me.0 at holds sits own,
      (refl, mine.mine sits ∙ ap (of_seat me.0.number) (sym (mine.all holds))),
    )

-- the visitor's view is parted from the keeper's
pub parts : (id : ℕ) (v : Known) → v.keeps ≡ true → v.sits ≡ true → Splits IsTied id v (alone v) (visitor v)
parts id v holds sits state tied at =
    let mine = tied.each id v at in
    let views = set state.views id (alone v) in
    let places = moved tied.places v.number (length views) in
    record {
      keeper_at = tied.keeper_at;
      count = tied.count;
      log = tied.log;
      places = places;
      seats = tied.seats;
      each = fits_snoc (Fits tied.keeper_at tied.count tied.log places) views (visitor v)
          (λ j u below e.
          ⊎_elim
          (λ (h : (j ≡ id) × (alone v ≡ u)). subst (λ (y : ℕ × Known). Fits tied.keeper_at tied.count tied.log places
          y.0 y.1) (λ i. (sym h.0 i, h.1 i)) (fits_alone tied.keeper_at tied.count tied.log tied.places places id v
          holds mine))
          (λ (h : (j ≢ id) × (get_elem? state.views j ≡ some u)).
          let f = tied.each j u h.1 in
          fits_moved tied.keeper_at tied.count tied.log tied.places v.number (length views) j u f
          (λ s same. h.0 (f.place s ∙ ap tied.places same ∙ sym (mine.place sits))))
          (at_set state.views id j (alone v) u e))
          (fits_seat tied.keeper_at tied.count tied.log tied.places v.number (length views) v.mine (mine.mine sits)
          (mine.number sits));
    }

-- the one view of a badge
pub one_view : (views : List Known) (v w : Known) → views ≡ v ∷ [] → views ≡ w ∷ [] → v ≡ w
one_view views v w a b = ap one (sym a ∙ b)
  where
    one : List Known → Known
    one [] = nobody
    one (x ∷ xs) = x

no_entries : (n : ℕ) (log : List Entry) → log ≡ [] → [] ≡ of_seat n log
no_entries n log empty = sym (ap (of_seat n) empty)

-- a new seat is dealt, before any entry
pub deals : (id : ℕ) (v : Known) → v.keeps ≡ true → v.all ≡ [] → Splits IsTied id v (dealing v) (newcomer v)
deals id v holds empty state tied at =
    let mine = tied.each id v at in
    let views = set state.views id (dealing v) in
    let no_log : tied.log ≡ [] = sym (mine.all holds) ∙ empty in
    let count : v.dealt ≡ tied.count = mine.dealt holds in
    let places = moved tied.places (v.dealt + 1) (length views) in
    record {
      keeper_at = tied.keeper_at;
      count = tied.count + 1;
      log = tied.log;
      places = places;
      seats = subst (λ l. All (IsBySeat (tied.count + 1)) l) (sym no_log) (All-nil (IsBySeat (tied.count + 1)));
      each = fits_snoc (Fits tied.keeper_at (tied.count + 1) tied.log places) views (newcomer v)
          (λ j u below e.
          ⊎_elim
          (λ (h : (j ≡ id) × (dealing v ≡ u)). subst (λ (y : ℕ × Known). Fits tied.keeper_at
          (tied.count + 1) tied.log places y.0 y.1) (λ i. (sym h.0 i, h.1 i))
          record {
            head = (λ _. mine.head holds);
            all = (λ _. mine.all holds);
            dealt = (λ _. ap (λ n. n + 1) count);
            place = (λ h. absurd (off h));
            mine = (λ h. absurd (off h));
            number = (λ h. absurd (off h));
          })
          (λ (h : (j ≢ id) × (get_elem? state.views j ≡ some u)).
          let f = tied.each j u h.1 in
          let g = fits_moved tied.keeper_at tied.count tied.log tied.places (v.dealt + 1) (length views) j u f
          (λ s same. let b = f.number s in absurd (omega arith)) in
          record {
            head = g.head;
            all = g.all;
            dealt = (λ k. absurd (h.0 (f.head k ∙ sym (mine.head holds))));
            place =
                g.place;
            mine = g.mine;
            number = (λ s. let b = f.number s in (b.0, omega arith));
          })
          (at_set state.views id j (dealing v) u e))
          (fits_seat tied.keeper_at (tied.count + 1) tied.log tied.places (v.dealt + 1) (length views) []
          (no_entries (v.dealt + 1) tied.log no_log) (omega arith, omega arith));
    }

-- the visitor's list is compared with all entries
pub checks : (slots id : ℕ) (me : Me ℕ Known) → me.0.keeps ≡ true → me.0.sits ≡ true
    → Allows IsTied slots id me 0 (λ n. n) (λ found after. Checks me after)
checks slots id me holds sits state tied long at fits =
    let v = me.0 in
    let mine = tied.each id v at in (
      v,
      keeps,
      tt,
      record {
        keeper_at = tied.keeper_at;
        count = tied.count;
        log = tied.log;
        places = tied.places;
        seats = tied.seats;
        each = fits_set (Fits tied.keeper_at tied.count tied.log tied.places) state.views id v
            (λ j u away there. tied.each j u there) mine;
      },
      (
        refl,
        mine.mine sits ∙ ap (of_seat v.number) (sym (mine.all holds)),
        subst (λ (n : ℕ). All (IsBySeat n) v.all) (sym (mine.dealt holds))
            (subst (λ l. All (IsBySeat tied.count) l) (sym (mine.all holds)) tied.seats),
      ),
    )

pub all_back : {X : Type 0} (P : X → Type 0) (before after : List X) (one : X) → before ≡ after ++ one ∷ []
    → All P after → P one → All P before
all_back P before after one is rest own = subst (All P) (sym is) (All-push P after one rest own)

pub none_left : {X : Type 0} (xs : List X) → length xs ≡ 0 → xs ≡ []
none_left [] e = refl
none_left (x ∷ xs) e = absurd (omega arith)

drop_front : {X : Type 0} (xs ys : List X) → drop (length xs) (xs ++ ys) ≡ ys
drop_front [] ys = refl
drop_front (x ∷ xs) ys = drop_front xs ys

-- what stands behind the journal as it was before the opening
pub dropped : {X : Type 0} (before all after : List X) → all ≡ before ++ after → drop (length before) all ≡ after
dropped before all after is = ap (drop (length before)) is ∙ drop_front before after

-- what holds of each element at its place holds so after one more
pub each_pushed : {X : Type 0} (P : ℕ → X → Type 0) (xs : List X) (x : X)
    → ((k : ℕ) (d : X) → k < length xs → P k (get_or xs k d)) → P (length xs) x → (k : ℕ) (d : X)
    → k < length (xs ++ x ∷ []) → P k (get_or (xs ++ x ∷ []) k d)
each_pushed P [] x each own zero d lt = own
each_pushed P [] x each own (suc k) d lt = absurd (omega arith)
each_pushed P (y ∷ ys) x each own zero d lt = each zero d (omega arith)
each_pushed P (y ∷ ys) x each own (suc k) d lt = each_pushed (λ j. P (suc j)) ys x
    (λ j e l. each (suc j) e (omega (arith, l))) own k d (omega (arith, lt))

-- the number of an entry, counted from the journal before the opening
pub numbered : (n k : ℕ) (journal all entries mine : List Entry) → entries ≡ journal ++ all → mine ≡ of_seat n all
    → k ≡ count_of n entries + 1 → k ≡ count_of n journal + length mine + 1
numbered n k journal all entries mine is own number =
    let p : Entry → Bool = λ (e : Entry). e.seat == n in
    let whole : count_of n (journal ++ all) ≡ count_of n journal + count_of n all =
    omega (
      arith,
      length-filter p (journal ++ all),
      length-filter p journal,
      length-filter p all,
      ap length (filter-append p journal all),
      length-append (filter p journal) (filter p all),
    ) in
    let kept : length mine ≡ count_of n all = ap length own ∙ length-filter p all in
    let all_of : count_of n entries ≡ count_of n (journal ++ all) = ap (count_of n) is in
    omega (arith, whole, kept, all_of, number)
