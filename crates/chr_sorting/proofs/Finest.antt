-- What is gathered note by note are the finest sorts of the program.
use Rattle.std.specs.Prelude.{◌≡◌, ℕ, zero, suc, ◌*◌, ◌/◌, ◌-◌, cond, ◌<◌, ◌≤◌, ℤ, Bool, true, false, nat_eq, nat_le}
use Rattle.std.specs.Prelude.{nat_lt, List, [], ◌∷◌, map, length, get_or, ◌&&◌, Some, slice_get}
use Rattle.std.specs.List.{All, flat_map, list_all}
use mathlib.Core.Bool.{true≢false}
use Rattle.std.proofs.Common.{refl, sym, ap, subst, ◌∙◌, arith, inl, inr}
use Rattle.std.proofs.lemmas.Bool.{eqb-true, eq-eqb, and_parts, ltb-true, ltb-false}
use Rattle.chr_base.proofs.Declared.{le_from}
use Rattle.std.proofs.lemmas.List.{get_or_past, length-map}
use Rattle.chr_base.specs.declared.limits.TheConstants.{MAX_ARITY, MAX_RULES, MAX_SYMBOLS}
use Rattle.chr_base.specs.declared.term.Term.TheVariants.{Constant}
use Rattle.chr_base.specs.declared.term.Cmp.{Cmp}
use Rattle.chr_base.specs.declared.term.Pattern.{Pattern}
use Rattle.chr_base.specs.declared.rule.Rule.{Rule}
use Rattle.chr_base.specs.declared.program.Program.{Program}
use Rattle.chr_base.specs.ProgramTests.{Declaration, takes, is_declared, fits, is_in_range, are_distinct}
use Rattle.chr_base.specs.Names.{is_name}
use Rattle.chr_base.specs.Weights.{is_weight}
use Rattle.chr_base.specs.Programs.{declarations, rules_of}
use Rattle.chr_base.specs.Rules.{heads_of}
use Rattle.chr_types.specs.OrderTypes.{In}
use Rattle.chr_types.proofs.Members.{in_either}
use Rattle.chr_confluence.specs.Sorts.{Sorts, Kind, free, tells, Fit}
use Rattle.chr_confluence.proofs.SortMoves.{all_in}
use Rattle.chr_overlaps.specs.working.Gathering.{AreConstantsIn}
use Rattle.chr_sorting.specs.declared.kind.Kind.TheVariants.{Free}
use Rattle.chr_sorting.specs.declared.notes.Note.{Note}
use Rattle.chr_sorting.specs.declared.notes.Note.TheVariants.{Joined, Stands, Compared}
use Rattle.chr_sorting.specs.declared.sorting.Sorting.{Sorting}
use Rattle.chr_sorting.specs.FinestSorts.{AreShort, AreFinest, AreAsFine, AreNamedByFirst, position_of, sort_in}
use Rattle.chr_sorting.specs.FinestSorts.{kind_of}
use Rattle.chr_sorting.specs.FinestSorts.{sorts_of}
use Rattle.chr_sorting.specs.working.Notes.{IsBelow, Joins, MeetsJoin, MeetsKind, IsLeastKind, note_terms, terms_at}
use Rattle.chr_sorting.specs.working.Notes.{rule_notes}
use Rattle.chr_sorting.proofs.Fitting.{MeetsNote, in_flat, flat_in, fits_rule, meets_notes}
use Rattle.chr_sorting.proofs.LeastKinds.{free_least}

-- ---- atoms of a program have few arguments

in_range_few : (d : Declaration) → is_in_range d ≡ true → d.arity ≤ MAX_ARITY
in_range_few d h = le_from _ _ ((and_parts (is_name d.name && nat_le (length d.name) _) _
    (and_parts _ (is_weight d.weight) h).0).1)

takes_few : (ds : List Declaration) (k n : ℕ) → list_all is_in_range ds ≡ true → takes (slice_get ds k) n ≡ true
    → n ≤ MAX_ARITY
takes_few [] k n h t = absurd (true≢false (sym t))
takes_few (d ∷ ds) zero n h t = let e = eqb-true d.arity n t in let l = in_range_few d (and_parts _ _ h).0 in
    omega (arith, e, l)
takes_few (d ∷ ds) (suc k) n h t = takes_few ds k n (and_parts (is_in_range d) _ h).1 t

pub rule_in : (rules : List Rule) (i : ℕ) (r : Rule) → slice_get rules i ≡ Some r → In r rules
rule_in [] i r e = absurd cc
rule_in (s ∷ rules) zero r e = inl (let q : r ≡ s = cc in q)
rule_in (s ∷ rules) (suc i) r e = inr (rule_in rules i r e)

pub in_place : (rules : List Rule) (r : Rule) → In r rules → (i : ℕ) × (slice_get rules i ≡ Some r)
in_place [] r i = absurd i
in_place (s ∷ rules) r (inl e) = (0, ap Some (sym e))
in_place (s ∷ rules) r (inr i) = let w = in_place rules r i in (suc w.0, w.1)

module _ (p : Program) where
  ranges : list_all is_in_range (declarations p) ≡ true
  ranges =
      let a = (and_parts _ (list_all (fits (declarations p)) (rules_of p)) p.well_formed).0 in
      let b = (and_parts _ (are_distinct (declarations p)) a).0 in
      (and_parts (nat_le (length (declarations p)) MAX_SYMBOLS && nat_le (length (rules_of p)) MAX_RULES) _ b).1

  fitting : list_all (fits (declarations p)) (rules_of p) ≡ true
  fitting = (and_parts (nat_le (length (declarations p)) MAX_SYMBOLS && nat_le (length (rules_of p)) MAX_RULES
      && list_all is_in_range (declarations p) && are_distinct (declarations p)) _ p.well_formed).1

  short : (ps : List Pattern) → list_all (is_declared (declarations p)) ps ≡ true → AreShort ps
  short ps h q i = takes_few (declarations p) q.symbol.0 (length q.args.items) ranges
      (all_in (is_declared (declarations p)) ps h q i)

  module _ (r : Rule) (i : In r (rules_of p)) where
    declared : fits (declarations p) r ≡ true
    declared = all_in (fits (declarations p)) (rules_of p) fitting r i

    pub heads_short : AreShort (heads_of r)
    heads_short q j = elim (in_either q r.kept.items r.removed.items j) as (λ _. length q.args.items ≤ MAX_ARITY) [
      | inl k ↦ short r.kept.items (and_parts _ _ (and_parts _ (list_all (is_declared (declarations p)) r.body.items)
          declared).0).0 q k
      | inr k ↦ short r.removed.items (and_parts (list_all (is_declared (declarations p)) r.kept.items) _
          (and_parts _ (list_all (is_declared (declarations p)) r.body.items) declared).0).1 q k
    ]

    pub body_short : AreShort r.body.items
    body_short = short r.body.items (and_parts (list_all (is_declared (declarations p)) r.kept.items
        && list_all (is_declared (declarations p)) r.removed.items) _ declared).1

-- ---- numbers of positions

divided : (s k : ℕ) → k < MAX_ARITY → position_of s k / MAX_ARITY ≡ s
divided s k l = omega (arith, l)

-- the sort of the position of this number
abbrev by_number : Sorts → ℕ → ℕ
by_number o n = o.sort (n / MAX_ARITY) (n - MAX_ARITY * (n / MAX_ARITY))

by_number_is : (o : Sorts) (s k : ℕ) → k < MAX_ARITY → o.sort s k ≡ by_number o (position_of s k)
by_number_is o s k l =
    let d : position_of s k / MAX_ARITY ≡ s = divided s k l in
    let r : position_of s k - MAX_ARITY * (position_of s k / MAX_ARITY) ≡ k = omega (arith, d, l) in
    sym (λ i. o.sort (d i) (r i))

joins_from : (o : Sorts) (f : ℕ → ℕ) (n : Note) → MeetsNote o f n → MeetsJoin f n
joins_from o f (Joined p q) m = m
joins_from o f (Stands p c) m = tt
joins_from o f (Compared p s) m = tt

below_at : (n : ℕ) (notes : List Note) (e : Note) → All (IsBelow n) notes → In e notes → IsBelow n e
below_at n [] e h i = absurd i
below_at n (d ∷ notes) e h (inl q) = subst (IsBelow n) (sym q) (h 0 d (omega arith))
below_at n (d ∷ notes) e h (inr i) = below_at n notes e (λ k x l. h (suc k) x (omega (arith, l))) i

-- a constant of a sort stands in a note
pub stands_in : (f : ℕ → ℕ) (n : ℕ) (c : ℤ) (notes : List Note) → In (Constant c) (terms_at f n notes) → (p : ℕ)
    × In (Stands p c) notes × (f p ≡ n)
stands_in f n c notes i = let w = in_flat (note_terms f n) (Constant c) notes i in of_note w.0 w.1 w.2
  where
    of_note : (e : Note) → In e notes → In (Constant c) (note_terms f n e) → (p : ℕ) × In (Stands p c) notes × (f p ≡ n)
    of_note (Joined p q) j h = absurd h
    of_note (Compared p s) j h = absurd h
    of_note (Stands p d) j h = by (nat_eq (f p) n) refl h
      where
        by : (b : Bool) → nat_eq (f p) n ≡ b → In (Constant c) (cond b (Constant d ∷ []) []) → (x : ℕ)
            × In (Stands x c) notes × (f x ≡ n)
        by true e (inl q) = let same : d ≡ c = cc in (p, subst (λ x. In (Stands p x) notes) same j, eqb-true (f p) n e)
        by true e (inr q) = absurd q
        by false e q = absurd q

term_there : (f : ℕ → ℕ) (p : ℕ) (c : ℤ) → In (Constant c) (note_terms f (f p) (Stands p c))
term_there f p c = subst (λ b. In (Constant c) (cond b (Constant c ∷ []) [])) (sym (eq-eqb (f p) (f p) refl)) (inl refl)

-- ---- the theorem

module _ (p : Program) (notes : List Note) (all : notes ≡ flat_map rule_notes (rules_of p)) (ts : List ℕ)
    (joins : Joins notes ts)
    (kind : ℕ → Kind) (kinds : (n : ℕ) → IsLeastKind notes (sort_in ts) n (kind n))
    (constants : ℕ → List ℤ) (are : (n : ℕ) → AreConstantsIn (terms_at (sort_in ts) n notes) (constants n)) where
  abbrev t : ℕ → ℕ
  t = sort_in ts

  abbrev pub sorts_by_notes : Sorts
  sorts_by_notes = record { sort = λ a k. t (position_of a k); kind = kind; constants = constants }

  abbrev o : Sorts
  o = sorts_by_notes

  -- sorts that meet all notes
  abbrev MeetAll : Sorts → (ℕ → ℕ) → Type 0
  MeetAll q f = (n : Note) → In n notes → MeetsNote q f n

  met : MeetAll o t
  met (Joined a b) i = joins.meets (Joined a b) i
  met (Stands a c) i = (are (t a)).all c (flat_in (note_terms t (t a)) (Constant c) (Stands a c) notes i
      (term_there t a c))
  met (Compared a c) i = (kinds (t a)).meets (Compared a c) i refl

  of_rule : (r : Rule) → In r (rules_of p) → (n : Note) → In n (rule_notes r) → In n notes
  of_rule r i n j = subst (In n) (sym all) (flat_in rule_notes n r (rules_of p) i j)

  fit : Fit o (rules_of p)
  fit i r e =
      let j = rule_in (rules_of p) i r e in
      fits_rule o t (λ a k l. refl) r (heads_short p r j) (body_short p r j) (λ n k. met n (of_rule r j n k))

  module _ (q : Sorts) (fits_all : Fit q (rules_of p)) where
    abbrev f : ℕ → ℕ
    f = by_number q

    others_met : MeetAll q f
    others_met n i =
        let w = in_flat rule_notes n (rules_of p) (subst (In n) all i) in
        let place = in_place (rules_of p) w.0 w.1 in
        meets_notes q f (by_number_is q) w.0 (heads_short p w.0 w.1) (body_short p w.0 w.1)
        (fits_all place.0 w.0 place.1) n w.2

    through : (a : ℕ) → f a ≡ f (t a)
    through = joins.least f (λ n i. joins_from q f n (others_met n i))

    -- the sort of a position at n, which is that of a
    at_sort : (a k n b : ℕ) → k < MAX_ARITY → t (position_of a k) ≡ n → t b ≡ n → f b ≡ q.sort a k
    at_sort a k n b l e g = through b ∙ ap f (g ∙ sym e) ∙ sym (through (position_of a k)) ∙ sym (by_number_is q a k l)

    same_sorts : (a k b l : ℕ) → k < MAX_ARITY → l < MAX_ARITY → o.sort a k ≡ o.sort b l → q.sort a k ≡ q.sort b l
    same_sorts a k b l lk ll e = by_number_is q a k lk ∙ at_sort b l (t (position_of b l)) (position_of a k) ll refl e

    constants_kept : (a k : ℕ) (c : ℤ) → k < MAX_ARITY → In c (o.constants (o.sort a k))
        → In c (q.constants (q.sort a k))
    constants_kept a k c l i =
        let w = stands_in t (t (position_of a k)) c notes ((are (t (position_of a k))).stand c i) in
        subst (λ m. In c (q.constants m)) (at_sort a k (t (position_of a k)) w.0 l refl w.2)
        (others_met (Stands w.0 c) w.1)

    kinds_kept : (a k : ℕ) (c : Cmp) → k < MAX_ARITY → tells (o.kind (o.sort a k)) c ≡ true
        → tells (q.kind (q.sort a k)) c ≡ true
    kinds_kept a k c l h = (kinds (t (position_of a k))).least (q.kind (q.sort a k)) (λ d i. told d (others_met d i)) c
        h
      where
        told : (e : Note) → MeetsNote q f e → MeetsKind t (t (position_of a k)) (q.kind (q.sort a k)) e
        told (Joined x y) m = tt
        told (Stands x d) m = tt
        told (Compared x sign) m = λ g. subst (λ z. tells (q.kind z) sign ≡ true)
            (at_sort a k (t (position_of a k)) x l refl g) m

    as_fine : AreAsFine o q
    as_fine = record { sorts = same_sorts; constants = constants_kept; kinds = kinds_kept }

  -- the number of a sort is that of a position of the sort
  own : (a : ℕ) → t (t a) ≡ t a
  own a = sym (joins.least t joins.meets a)

  named : AreNamedByFirst o
  named = record {
    least = λ a k b l lk ll e. (let m = joins.below (position_of b l) in omega (arith, e, m));
    stands = λ a k lk.
        (let n = t (position_of a k) in
        let l : n - MAX_ARITY * (n / MAX_ARITY) < MAX_ARITY = omega arith in
        let e : position_of (n / MAX_ARITY) (n - MAX_ARITY * (n / MAX_ARITY)) ≡ n = omega arith in
        (n / MAX_ARITY, n - MAX_ARITY * (n / MAX_ARITY), l, ap t e ∙ own (position_of a k), sym e));
  }

  pub finest_by_notes : AreFinest (rules_of p) o
  finest_by_notes = record {
    short = λ i r e. heads_short p r (rule_in (rules_of p) i r e);
    fit = fit;
    finest = as_fine;
    named = named;
    rise = λ k. (are k).rise;
    values = λ k. (are k).values;
  }

-- ---- kinds and constants that are held in tables

module _ (p : Program) (s : Sorting) (notes : List Note)
    (all : notes ≡ flat_map rule_notes (rules_of p))
    (joins : Joins notes s.sorts.items)
    (below : All (IsBelow (length s.sorts.items)) notes)
    (kinds_len : length s.kinds.items ≡ length s.sorts.items)
    (kinds : (n : ℕ) → n < length s.sorts.items → IsLeastKind notes (sort_in s.sorts.items) n
    (kind_of (get_or s.kinds.items n Free)))
    (constants_len : length s.constants.items ≡ length s.sorts.items)
    (constants : (n : ℕ) → n < length s.sorts.items → AreConstantsIn (terms_at (sort_in s.sorts.items) n notes)
    (get_or (map (λ cs. cs.items) s.constants.items) n [])) where
  abbrev size : ℕ
  size = length s.sorts.items

  -- no note speaks of a sort beyond the tables
  not_beyond : (n a : ℕ) (e : Note) → In e notes → size ≤ n → (IsBelow size e → a < size) → sort_in s.sorts.items a ≡ n
      → ⊥
  not_beyond n a e i le low g = let b = joins.below a in let l = low (below_at size notes e below i) in
      omega (arith, b, l, g, le)

  all_kinds : (n : ℕ) → IsLeastKind notes (sort_in s.sorts.items) n ((sorts_of s).kind n)
  all_kinds n = by (nat_lt n size) refl
    where
      none : size ≤ n → (e : Note) → In e notes → MeetsKind (sort_in s.sorts.items) n free e
      none le (Joined a b) i = tt
      none le (Stands a c) i = tt
      none le (Compared a c) i = λ g. absurd (not_beyond n a (Compared a c) i le (λ l. l) g)

      by : (b : Bool) → nat_lt n size ≡ b → IsLeastKind notes (sort_in s.sorts.items) n ((sorts_of s).kind n)
      by true e = kinds n (ltb-true n size e)
      by false e =
          let le = ltb-false n size e in
          let past = get_or_past s.kinds.items n Free (omega (arith, le, kinds_len)) in
          subst (λ k. IsLeastKind notes (sort_in s.sorts.items) n (kind_of k)) (sym past)
          (record { meets = none le; least = λ l m c h. free_least l c h })

  all_constants : (n : ℕ) → AreConstantsIn (terms_at (sort_in s.sorts.items) n notes) ((sorts_of s).constants n)
  all_constants n = by (nat_lt n size) refl
    where
      by : (b : Bool) → nat_lt n size ≡ b → AreConstantsIn (terms_at (sort_in s.sorts.items) n notes)
          ((sorts_of s).constants n)
      by true e = constants n (ltb-true n size e)
      by false e =
          let le = ltb-false n size e in
          let m = length-map s.constants.items (λ cs. cs.items) in
          let past = get_or_past (map (λ cs. cs.items) s.constants.items) n [] (omega (arith, le, m, constants_len)) in
          subst (AreConstantsIn (terms_at (sort_in s.sorts.items) n notes)) (sym past) (record {
            rise = tt;
            values = λ v i. absurd i;
            stand = λ c i. absurd i;
            all = λ c i. (let w = stands_in (sort_in s.sorts.items) n c notes i in
                absurd (not_beyond n w.0 (Stands w.0 c) w.1 le (λ l. l) w.2));
          })

  pub are_finest : AreFinest (rules_of p) (sorts_of s)
  are_finest = finest_by_notes p notes all s.sorts.items joins (sorts_of s).kind all_kinds
      (sorts_of s).constants all_constants
