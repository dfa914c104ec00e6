-- One range more of those that others leave something out of.
use Rattle.std.specs.Prelude.{◌≡◌, ◌+◌, ◌-◌, ◌<◌, ◌≤◌, Bool, true, false, not, ◌&&◌, ◌||◌, nat_lt, List, [], ◌∷◌, ◌++◌}
use Rattle.std.specs.Prelude.{cond, length, slice_index_or}
use Rattle.std.proofs.Common.{refl, sym, ap, ◌∙◌, subst, arith, append-nil, ⊎_elim, take, drop}
use Rattle.std.proofs.Math.Seq.{take-length}
use mathlib.Core.Bool.{true≢false}
use Rattle.std.specs.List.{AllByRecursion}
use Rattle.std.proofs.lemmas.Bool.{cases_lt, cases_eq}
use Rattle.std.proofs.lemmas.Bool.Decides.{nat_tests}
use Rattle.chr_ops.specs.declared.id.OpId.{OpId}
use Rattle.chr_ops.specs.declared.range.IdRange.{IdRange}
use Rattle.chr_ops.specs.Summaries.{in_range, covers, IsBefore, IsApart}
use Rattle.chr_ops.specs.working.Walks.{first_id, ends_before, rest_from}
use Rattle.chr_ops.specs.working.Outside.{AreBefore, part_before, IsNext, AddsOutside}
use Rattle.chr_ops.proofs.Merged.{all_push, all_map, apart_push, covers_push}
use Rattle.chr_ops.proofs.OneSummary.{from_first}
use Rattle.chr_ops.proofs.WalkSteps.{blank, rest_covers, rest_apart, rest_not_ended}

-- a range begins behind the end of another
abbrev IsBehind : IdRange → IdRange → Type 0
IsBehind r s = (r.origin ≤ s.origin) × (r.origin ≡ s.origin → r.hi < s.lo)

behind_misses : (r s : IdRange) (id : OpId) → IsBehind r s → in_range r id ≡ true → in_range s id ≡ false
behind_misses r s id behind has =
    ⊎_elim (λ e. (let far = behind.1 e in grind (arith, nat_tests, e, far, has)))
    (λ ne. (let far = behind.0 in grind (arith, nat_tests, ne, far, has))) (cases_eq r.origin s.origin)

behind_further : (r s t : IdRange) → IsBehind r s → s.lo ≤ s.hi → IsBefore s t → IsBehind r t
behind_further r s t h l g = (
  omega (arith, h.0, g.0),
  λ e. (
      let a : r.origin ≡ s.origin = omega (arith, h.0, g.0, e) in
      let b : s.origin ≡ t.origin = omega (arith, h.0, g.0, e) in
      omega (arith, h.1 a, g.1 b, l)),
)

all_miss : (r s : IdRange) (rs : List IdRange) (id : OpId) → IsBehind r s → s.lo ≤ s.hi → AllByRecursion (IsBefore s) rs
    → in_range r id ≡ true → covers rs id ≡ false
all_miss r s [] id behind range before has = refl
all_miss r s (t ∷ rs) id behind range before has =
    ap (λ b. b || covers rs id) (behind_misses r t id (behind_further r s t behind range before.0) has)
    ∙ all_miss r s rs id behind range before.1 has

whole : (a c : Bool) → (a ≡ true → c ≡ false) → (a || false) ≡ (a && not c)
whole true c h = ap not (sym (h refl))
whole false c h = refl

begins_by : (r o : IdRange) → ends_before o (first_id r) ≡ false → r.origin ≤ o.origin
begins_by r o h = grind (arith, nat_tests, h)

-- where the others are all behind the range, all of it is left out
all_left : (parts : List IdRange) (r : IdRange) (others : List IdRange) → IsNext parts r others
    → ((id : OpId) → in_range r id ≡ true → covers others id ≡ false) → AddsOutside parts r others (parts ++ r ∷ [])
all_left parts r others next misses = record {
  apart = apart_push parts r next.apart next.behind next.holds;
  covering = λ id. covers_push parts r id ∙ ap (λ b. covers parts id || b)
      (whole (in_range r id) (covers others id) (misses id));
  in_order = λ later h g. all_push (λ s. IsBefore s later) parts r h g;
}

pub none_left : (parts : List IdRange) (r : IdRange) → IsNext parts r [] → AddsOutside parts r [] (parts ++ r ∷ [])
none_left parts r next = all_left parts r [] next (λ id _. refl)

pub next_behind : (parts : List IdRange) (r o : IdRange) (os : List IdRange) → IsNext parts r (o ∷ os)
    → ¬ ((o.origin ≡ r.origin) × (o.lo ≤ r.hi)) → AddsOutside parts r (o ∷ os) (parts ++ r ∷ [])
next_behind parts r o os next far =
    let behind : IsBehind r o = (
      begins_by r o next.not_ended.0,
      λ e. ⊎_elim (λ less. less)
          (λ more. absurd (far (sym e, more))) (cases_lt r.hi o.lo),
    ) in
    all_left parts r (o ∷ os) next (λ id has. ap (λ b. b || covers os id) (behind_misses r o id behind has)
    ∙ all_miss r o os id behind next.others_apart.0 next.others_apart.1 has)

-- whether an id is in the part of a range before another begins
abbrev has_before : IdRange → IdRange → OpId → Bool
has_before r o id = in_range r id && nat_lt id.number o.lo

-- what adding the part of a range before another begins comes to
record AddsPart (parts : List IdRange) (r o : IdRange) (new : List IdRange) : Type 0 where
  apart : IsApart new
  covering : (id : OpId) → covers new id ≡ (covers parts id || has_before r o id)
  in_order : (later : IdRange) → AreBefore parts later → IsBefore r later → AreBefore new later
  behind : (later : IdRange) → AreBefore parts later → later.origin ≡ r.origin → o.lo < later.lo → AreBefore new later

part_has : (r o : IdRange) (id : OpId) → o.lo ≤ r.hi → r.lo < o.lo
    → in_range record { origin = r.origin; lo = r.lo; hi = o.lo - 1 } id ≡ has_before r o id
part_has r o id near less = grind (arith, nat_tests, near, less)

no_part : (r o : IdRange) (id : OpId) → o.lo ≤ r.lo → has_before r o id ≡ false
no_part r o id more = grind (arith, nat_tests, more)

before_end : (r o later : IdRange) → o.lo ≤ r.hi → IsBefore r later
    → IsBefore record { origin = r.origin; lo = r.lo; hi = o.lo - 1 } later
before_end r o later near h = (h.0, λ e. (let far = h.1 e in omega (arith, near, far)))

or_none : (b : Bool) → b ≡ (b || false)
or_none true = refl
or_none false = refl

part_added : (parts : List IdRange) (r o : IdRange) → IsApart parts → AreBefore parts r → o.lo ≤ r.hi
    → AddsPart parts r o (parts ++ part_before r o)
part_added parts r o apart behind near = ⊎_elim some none (cases_lt r.lo o.lo)
  where
    part : IdRange
    part = record { origin = r.origin; lo = r.lo; hi = o.lo - 1 }

    some : r.lo < o.lo → AddsPart parts r o (parts ++ part_before r o)
    some less =
        let is : nat_lt r.lo o.lo ≡ true = grind (arith, nat_tests, less) in
        subst (λ b. AddsPart parts r o (parts ++ cond b (part ∷ []) [])) (sym is) (record {
          apart = apart_push parts part apart behind (omega (arith, less));
          covering = λ id. covers_push parts part id ∙ ap (λ b. covers parts id || b)
              (sym (or_none (in_range part id)) ∙ part_has r o id near less);
          in_order = λ later h g. all_push (λ s. IsBefore s later) parts part h (before_end r o later near g);
          behind = λ later h e g. all_push (λ s. IsBefore s later) parts part h
              (omega (arith, e), λ _. omega (arith, g, less));
        })

    none : o.lo ≤ r.lo → AddsPart parts r o (parts ++ part_before r o)
    none more =
        let is : nat_lt r.lo o.lo ≡ false = grind (arith, nat_tests, more) in
        subst (λ b. AddsPart parts r o (parts ++ cond b (part ∷ []) [])) (sym is)
        (subst (AddsPart parts r o) (sym (append-nil parts)) (record {
          apart = apart;
          covering = λ id. or_none (covers parts id) ∙ ap (λ b. covers parts id || b) (sym (no_part r o id more));
          in_order = λ later h g. h;
          behind = λ later h e g. h;
        }))

-- an id before a range is not in one behind it
other_misses : (r o s : IdRange) (id : OpId) → o.origin ≡ r.origin → o.lo ≤ o.hi → IsBefore o s → in_range r id ≡ true
    → nat_lt id.number o.lo ≡ true → in_range s id ≡ false
other_misses r o s id same range before has less =
    ⊎_elim (λ e. (let far = before.1 e in grind (arith, nat_tests, same, range, e, far, has, less)))
    (λ ne. (let far = before.0 in grind (arith, nat_tests, same, ne, far, has, less))) (cases_eq o.origin s.origin)

first_misses : (r o : IdRange) (os : List IdRange) (id : OpId) → o.origin ≡ r.origin → o.lo ≤ o.hi
    → AllByRecursion (IsBefore o) os → in_range r id ≡ true → nat_lt id.number o.lo ≡ true → covers os id ≡ false
first_misses r o [] id same range before has less = refl
first_misses r o (s ∷ os) id same range before has less =
    ap (λ b. b || covers os id) (other_misses r o s id same range before.0 has less)
    ∙ first_misses r o os id same range before.1 has less

here_misses : (o : IdRange) (id : OpId) → nat_lt id.number o.lo ≡ true → in_range o id ≡ false
here_misses o id less = grind (arith, nat_tests, less)

here_has : (r o : IdRange) (id : OpId) → o.origin ≡ r.origin → r.hi ≤ o.hi → in_range r id ≡ true
    → nat_lt id.number o.lo ≡ false → in_range o id ≡ true
here_has r o id same past has more = grind (arith, nat_tests, same, past, has, more)

settle_past : (r l o c : Bool) → (r ≡ true → l ≡ false → o ≡ true) → (l ≡ true → o ≡ false)
    → (r ≡ true → l ≡ true → c ≡ false) → (r && l) ≡ (r && not (o || c))
settle_past false l o c h g k = refl
settle_past true false true c h g k = refl
settle_past true false false c h g k = absurd (true≢false (sym (h refl refl)))
settle_past true true true c h g k = absurd (true≢false (g refl))
settle_past true true false true h g k = absurd (true≢false (k refl refl))
settle_past true true false false h g k = refl

settle_more : (r l o c : Bool) → (l ≡ true → o ≡ false) → (r ≡ true → l ≡ true → c ≡ false)
    → ((r && l) || ((r && (not l && not o)) && not c)) ≡ (r && not (o || c))
settle_more false l o c g k = refl
settle_more true false true c g k = refl
settle_more true false false c g k = refl
settle_more true true true c g k = absurd (true≢false (g refl))
settle_more true true false true g k = absurd (true≢false (k refl refl))
settle_more true true false false g k = refl

-- what is left of a range behind another one
abbrev pub left_behind : IdRange → IdRange → IdRange
left_behind r o = record { origin = r.origin; lo = o.hi + 1; hi = r.hi }

left_has : (r o : IdRange) (id : OpId) → o.origin ≡ r.origin → o.lo ≤ o.hi → r.lo ≤ o.hi → in_range (left_behind r o) id
    ≡ (in_range r id && (not (nat_lt id.number o.lo) && not (in_range o id)))
left_has r o id same range not_ended = grind (arith, nat_tests, same, range, not_ended)

left_not_ended : (r o : IdRange) (os : List IdRange) → o.origin ≡ r.origin → AllByRecursion (IsBefore o) os → IsApart os
    → AllByRecursion (λ s. ends_before s (first_id (left_behind r o)) ≡ false) os
left_not_ended r o [] same before apart = tt
left_not_ended r o (s ∷ os) same before apart = (
  ⊎_elim (λ e. (let far = before.0.1 e in let holds = apart.0 in grind (arith, nat_tests, same, e, far, holds)))
      (λ ne. (let far = before.0.0 in grind (arith, nat_tests, same, ne, far))) (cases_eq o.origin s.origin),
  left_not_ended r o os same before.1 apart.2,
)

ends_in : (r o : IdRange) → ends_before o (first_id r) ≡ false → o.origin ≡ r.origin → r.lo ≤ o.hi
ends_in r o h same = grind (arith, nat_tests, h, same)

regroup : (a b c d : Bool) → (b || c) ≡ d → ((a || b) || c) ≡ (a || d)
regroup true b c d e = refl
regroup false b c d e = e

module _ (parts : List IdRange) (r o : IdRange) (os : List IdRange) (next : IsNext parts r (o ∷ os))
    (same : o.origin ≡ r.origin) (near : o.lo ≤ r.hi) where
  added : AddsPart parts r o (parts ++ part_before r o)
  added = part_added parts r o next.apart next.behind near

  misses : (id : OpId) → in_range r id ≡ true → nat_lt id.number o.lo ≡ true → covers os id ≡ false
  misses id = first_misses r o os id same next.others_apart.0 next.others_apart.1

  -- where the other range ends no earlier than the range, the part before the other is all that is left of it
  pub next_past : r.hi ≤ o.hi → AddsOutside parts r (o ∷ os) (parts ++ part_before r o)
  next_past past = record {
    apart = added.apart;
    covering = λ id. added.covering id ∙ ap (λ b. covers parts id || b)
        (settle_past (in_range r id) (nat_lt id.number o.lo) (in_range o id) (covers os id) (here_has r o id same past)
        (here_misses o id) (misses id));
    in_order = added.in_order;
  }

  -- where the other range ends earlier, what is left of the range is next
  pub next_left : o.hi < r.hi → IsNext (parts ++ part_before r o) (left_behind r o) os
  next_left less = record {
    holds = omega (arith, less);
    apart = added.apart;
    behind = added.behind (left_behind r o) (all_map (λ s. IsBefore s r) (λ s. IsBefore s (left_behind r o)) parts
        (λ s h. (
          h.0,
          λ e. (let far = h.1 e in let in_it = ends_in r o next.not_ended.0 same in
              omega (arith, far, in_it)),
        )) next.behind)
        refl (let range = next.others_apart.0 in omega (arith, range));
    others_apart = next.others_apart.2;
    not_ended = left_not_ended r o os same next.others_apart.1 next.others_apart.2;
  }

  pub added_left : (new : List IdRange) → AddsOutside (parts ++ part_before r o) (left_behind r o) os new
      → AddsOutside parts r (o ∷ os) new
  added_left new h = record {
    apart = h.apart;
    covering = λ id. h.covering id ∙ ap (λ b. b || (in_range (left_behind r o) id && not (covers os id)))
        (added.covering id)
        ∙ regroup (covers parts id) (has_before r o id) (in_range (left_behind r o) id && not (covers os id))
        (in_range r id && not (in_range o id || covers os id))
        (ap (λ b. has_before r o id || (b && not (covers os id)))
        (left_has r o id same next.others_apart.0 (ends_in r o next.not_ended.0 same))
        ∙ settle_more (in_range r id) (nat_lt id.number o.lo) (in_range o id) (covers os id) (here_misses o id)
        (misses id));
    in_order = λ later before after. h.in_order later (added.in_order later before after) after;
  }

-- the first range of a list, and those behind it
abbrev pub front : List IdRange → IdRange
front xs = slice_index_or xs 0 blank

abbrev pub others_of : List IdRange → List IdRange
others_of xs = take (length xs - 1) (drop 1 xs)

cut : (x : IdRange) (xs : List IdRange) → others_of (x ∷ xs) ≡ xs
cut x xs =
    let all : length (x ∷ xs) - 1 ≡ length xs = omega arith in
    ap (λ n. take n xs) all ∙ take-length xs

no_front : (xs : List IdRange) → length xs < 1 → xs ≡ []
no_front [] below = refl
no_front (x ∷ xs) below = absurd (omega (arith, below))

pub none_front : (parts : List IdRange) (r : IdRange) (xs : List IdRange) → length xs < 1 → IsNext parts r xs
    → AddsOutside parts r xs (parts ++ r ∷ [])
none_front parts r xs below next =
    let none = no_front xs below in
    subst (λ ys. AddsOutside parts r ys (parts ++ r ∷ [])) (sym none)
    (none_left parts r (subst (IsNext parts r) none next))

pub behind_front : (parts : List IdRange) (r : IdRange) (xs : List IdRange) → 1 ≤ length xs → IsNext parts r xs
    → ¬ (((front xs).origin ≡ r.origin) × ((front xs).lo ≤ r.hi)) → AddsOutside parts r xs (parts ++ r ∷ [])
behind_front parts r [] some next far = absurd (omega (arith, some))
behind_front parts r (x ∷ xs) some next far = next_behind parts r x xs next far

pub past_front : (parts : List IdRange) (r : IdRange) (xs : List IdRange) → 1 ≤ length xs → IsNext parts r xs
    → (front xs).origin ≡ r.origin → (front xs).lo ≤ r.hi → r.hi ≤ (front xs).hi
    → AddsOutside parts r xs (parts ++ part_before r (front xs))
past_front parts r [] some next same near past = absurd (omega (arith, some))
past_front parts r (x ∷ xs) some next same near past = next_past parts r x xs next same near past

pub left_front : (parts : List IdRange) (r : IdRange) (xs : List IdRange) → 1 ≤ length xs → IsNext parts r xs
    → (front xs).origin ≡ r.origin → (front xs).lo ≤ r.hi → (front xs).hi < r.hi
    → IsNext (parts ++ part_before r (front xs)) (left_behind r (front xs)) (others_of xs)
left_front parts r [] some next same near less = absurd (omega (arith, some))
left_front parts r (x ∷ xs) some next same near less = subst (IsNext (parts ++ part_before r x) (left_behind r x))
    (sym (cut x xs)) (next_left parts r x xs next same near less)

pub added_front : (parts : List IdRange) (r : IdRange) (xs : List IdRange) → 1 ≤ length xs → IsNext parts r xs
    → (front xs).origin ≡ r.origin → (front xs).lo ≤ r.hi
    → (new : List IdRange) → AddsOutside (parts ++ part_before r (front xs)) (left_behind r (front xs))
    (others_of xs) new → AddsOutside parts r xs new
added_front parts r [] some next same near new h = absurd (omega (arith, some))
added_front parts r (x ∷ xs) some next same near new h =
    added_left parts r x xs next same near new (subst (λ ys. AddsOutside (parts ++ part_before r x)
    (left_behind r x) ys new) (cut x xs) h)

-- parts are had of the ranges before some, and others are left that none of these begins behind
pub record IsWalked (parts rs rest ranges others : List IdRange) : Type 0 where
  pub apart : IsApart parts
  pub to_come : IsApart rs
  pub still_apart : IsApart rest
  pub behind : AllByRecursion (AreBefore parts) rs
  pub covering : (id : OpId) → (covers parts id || (covers rs id && not (covers rest id)))
      ≡ (covers ranges id && not (covers others id))

all_before_none : (rs : List IdRange) → AllByRecursion (AreBefore []) rs
all_before_none [] = tt
all_before_none (r ∷ rs) = (tt, all_before_none rs)

pub walked_none : (ranges others : List IdRange) → IsApart ranges → IsApart others → IsWalked []
    ranges others ranges others
walked_none ranges others apart others_apart = record {
  apart = tt;
  to_come = apart;
  still_apart = others_apart;
  behind = all_before_none ranges;
  covering = λ id. refl;
}

pub walked_all : (parts rest ranges others : List IdRange) → IsWalked parts [] rest ranges others → (id : OpId)
    → covers parts id ≡ (covers ranges id && not (covers others id))
walked_all parts rest ranges others walked id = or_none (covers parts id) ∙ walked.covering id

gather : (p r s t u : Bool) → ((r || s) ≡ true → t ≡ u) → ((p || (r && not u)) || (s && not u))
    ≡ (p || ((r || s) && not t))
gather true r s t u h = refl
gather false true true t true h = sym (ap not (h refl))
gather false true true t false h = sym (ap not (h refl))
gather false true false t true h = sym (ap not (h refl))
gather false true false t false h = sym (ap not (h refl))
gather false false true t u h = sym (ap not (h refl))
gather false false false t u h = refl

module _ (parts : List IdRange) (r : IdRange) (rs rest ranges others : List IdRange)
    (walked : IsWalked parts (r ∷ rs) rest ranges others) where
  abbrev left : List IdRange
  left = rest_from rest (first_id r)

  pub walked_next : IsNext parts r (rest_from rest (first_id r))
  walked_next = record {
    holds = walked.to_come.0;
    apart = walked.apart;
    behind = walked.behind.0;
    others_apart = rest_apart rest (first_id r) walked.still_apart;
    not_ended = rest_not_ended rest (first_id r) walked.still_apart;
  }

  all_behind : (new : List IdRange) → ((later : IdRange) → AreBefore parts later → IsBefore r later
      → AreBefore new later) → (ss : List IdRange) → AllByRecursion (AreBefore parts) ss
      → AllByRecursion (IsBefore r) ss → AllByRecursion (AreBefore new) ss
  all_behind new order [] h g = tt
  all_behind new order (s ∷ ss) h g = (order s h.0 g.0, all_behind new order ss h.1 g.1)

  same_rest : (id : OpId) → (in_range r id || covers rs id) ≡ true → covers rest id ≡ covers left id
  same_rest id has = (let from = from_first r rs id walked.to_come has in
      rest_covers rest (first_id r) id (from.origin, from.number))

  pub walked_more : (new : List IdRange) → AddsOutside parts r (rest_from rest (first_id r)) new
      → IsWalked new rs (rest_from rest (first_id r)) ranges others
  walked_more new adds = record {
    apart = adds.apart;
    to_come = walked.to_come.2;
    still_apart = rest_apart rest (first_id r) walked.still_apart;
    behind = all_behind new adds.in_order rs walked.behind.1 walked.to_come.1;
    covering = λ id. ap (λ b. b || (covers rs id && not (covers left id))) (adds.covering id)
        ∙ gather (covers parts id) (in_range r id) (covers rs id) (covers rest id) (covers left id) (same_rest id)
        ∙ walked.covering id;
  }
