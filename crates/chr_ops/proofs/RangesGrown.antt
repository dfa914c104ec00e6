-- A range that reaches on along a run, and the range that it then meets.
use Rattle.std.specs.Prelude.{◌≡◌, ℕ, ◌+◌, ◌^◌, ◌<◌, ◌≤◌, Bool, true, false, ◌||◌, Some, None, Option, cond, IsSome}
use Rattle.std.proofs.Common.{refl, sym, ap, ◌∙◌, arith, subst, ⊎_elim, inl, inr}
use mathlib.Core.Bool.{true≢false}
use mathlib.Core.Logic.{◌⊎◌}
use Rattle.std.specs.Option.{is_some, unwrap_or}
use Rattle.std.specs.Ordering.{eq_by_cmp, is_gt}
use Rattle.std.proofs.Math.Bool.{or-true}
use Rattle.std.proofs.lemmas.Bool.{cases_lt, cases_eq}
use Rattle.std.proofs.lemmas.Bool.Decides.{nat_tests}
use Rattle.std.specs.FinMap as map
use Rattle.chr_ops.specs.declared.id.OpId.{OpId}
use Rattle.chr_ops.specs.declared.range.IdRange.{IdRange}
use Rattle.chr_ops.specs.Ids.{id_cmp}
use Rattle.chr_ops.specs.Summaries.{in_range, covers}
use Rattle.chr_ops.specs.working.Covering.{Ends, end_range, end_ranges, AreDisjoint, AreAsLongAsPossible, IsSeam}
use Rattle.chr_ops.specs.working.Covering.{GainsWithin}
use Rattle.chr_ops.proofs.IdOrder.{id_total, id_exact, same_id}
use Rattle.chr_ops.proofs.RangeLookups.{HasOne, covers_has, has_covers, in_origin, in_low, in_high, in_from}
use Rattle.chr_ops.proofs.RangeJoins.{differs, eq_from, eq_self, one_id, some_not_none, touching_joined}

cond_twice : (b : Bool) (x y z : Option ℕ) → cond b x (cond b y z) ≡ cond b x z
cond_twice true x y z = refl
cond_twice false x y z = refl

-- no range begins behind the end of the one that grows and up to its new end
module _ (m : Ends) (d : AreAsLongAsPossible m) (run : IdRange) (k : OpId) (h e : ℕ) (at_k : map.get m k ≡ Some h)
    (along : k.origin ≡ run.origin) (low : run.lo ≤ h) (more : h ≤ e) (high : e ≤ run.hi) (fit : e < 2 ^ 64)
    (none : (q : OpId) → k.origin ≡ q.origin → h < q.number → q.number ≤ e → map.get m q ≡ None) where
  grown : Ends
  grown = map.insert m k e

  get_grown : (q : OpId) → map.get grown q ≡ cond (eq_by_cmp id_cmp q k) (Some e) (map.get m q)
  unfolding grown
  get_grown q = map.get-insert id_total m k e q

  record IsOther (q : OpId) (x : ℕ) : Type 0 where
    pub not_k : q ≡ k → ⊥
    pub at : map.get m q ≡ Some x

  is_either : (q : OpId) (x : ℕ) → map.get grown q ≡ Some x → ((q ≡ k) × (x ≡ e)) ⊎ IsOther q x
  is_either q x g = by (eq_by_cmp id_cmp q k) refl (sym (get_grown q) ∙ g)
    where
      by : (b : Bool) → eq_by_cmp id_cmp q k ≡ b → cond b (Some e) (map.get m q) ≡ Some x
          → ((q ≡ k) × (x ≡ e)) ⊎ IsOther q x
      by true p f = inl (same_id q k p, sym (ap (λ o. unwrap_or o e) f))
      by false p f = inr record { not_k = λ s. true≢false (sym (eq_from q k s) ∙ p); at = f }

  other_stays : (q : OpId) (x : ℕ) → IsOther q x → map.get grown q ≡ Some x
  other_stays q x o = get_grown q ∙ ap (λ b. cond b (Some e) (map.get m q)) (differs q k o.not_k) ∙ o.at

  first_grown : map.get grown k ≡ Some e
  first_grown = get_grown k ∙ ap (λ b. cond b (Some e) (map.get m k)) (eq_self k)

  k_low : k.number ≤ h
  k_low = (d.disjoint.fits k h at_k).0

  fits : (q : OpId) (x : ℕ) → map.get grown q ≡ Some x → (q.number ≤ x) × (x < 2 ^ 64)
  fits q x g = ⊎_elim (λ f. (
      let n : q.number ≡ k.number = ap (λ a. a.number) f.0 in
      let last = f.1 in
      (omega (arith, n, last, k_low, more), omega (arith, last, fit)))) (λ o. d.disjoint.fits q x o.at)
      (is_either q x g)

  -- another range that begins behind the one that grows begins behind its new end
  behind : (l : OpId) (y : ℕ) → IsOther l y → k.origin ≡ l.origin → k.number < l.number → e < l.number
  behind l y o org less =
      let past = d.disjoint.apart k l h y at_k o.at org less in
      ⊎_elim (λ far. far) (λ near. absurd (some_not_none (map.get m l) y (none l org past near) o.at))
      (cases_lt e l.number)

  apart : (q l : OpId) (x y : ℕ) → map.get grown q ≡ Some x → map.get grown l ≡ Some y → q.origin ≡ l.origin
      → q.number < l.number → x < l.number
  apart q l x y at_q at_l org less = ⊎_elim (λ f. ⊎_elim (λ f'. both f f') (λ o'. first f o') (is_either l y at_l))
      (λ o. ⊎_elim (λ f'. second o f') (λ o'. d.disjoint.apart q l x y o.at o'.at org less) (is_either l y at_l))
      (is_either q x at_q)
    where
      both : (q ≡ k) × (x ≡ e) → (l ≡ k) × (y ≡ e) → x < l.number
      both f f' = (let a : q.number ≡ k.number = ap (λ a. a.number) f.0 in let b : l.number ≡ k.number =
          ap (λ a. a.number) f'.0 in absurd (omega (arith, a, b, less)))

      first : (q ≡ k) × (x ≡ e) → IsOther l y → x < l.number
      first f o =
          let a : q.number ≡ k.number = ap (λ a. a.number) f.0 in
          let b : q.origin ≡ k.origin = ap (λ a. a.origin) f.0 in
          let far = behind l y o (sym b ∙ org) (omega (arith, a, less)) in
          let last = f.1 in
          omega (arith, far, last)

      second : IsOther q x → (l ≡ k) × (y ≡ e) → x < l.number
      second o f =
          let a : l.number ≡ k.number = ap (λ a. a.number) f.0 in
          let b : l.origin ≡ k.origin = ap (λ a. a.origin) f.0 in
          let far = d.disjoint.apart q k x h o.at at_k (org ∙ b) (omega (arith, a, less)) in
          omega (arith, far, a)

  grown_disjoint : AreDisjoint grown
  grown_disjoint = record { fits = fits; apart = apart }

  old_or_run : (q : OpId) → HasOne grown q → (covers (end_ranges m) q || in_range run q) ≡ true
  old_or_run q (j, x, at_j, has) = ⊎_elim (λ f. by f (cases_lt h q.number))
      (λ o. ap (λ b. b || in_range run q) (has_covers m q j x o.at has)) (is_either j x at_j)
    where
      by : (j ≡ k) × (x ≡ e) → (h < q.number) ⊎ (q.number ≤ h) → (covers (end_ranges m) q || in_range run q) ≡ true
      by f side =
          let n : j.number ≡ k.number = ap (λ a. a.number) f.0 in
          let org : j.origin ≡ k.origin = ap (λ a. a.origin) f.0 in
          let o = in_origin (end_range (j, x)) q has in
          let from = in_low (end_range (j, x)) q has in
          let upto = in_high (end_range (j, x)) q has in
          let last = f.1 in
          ⊎_elim (λ far. ap (λ b. covers (end_ranges m) q || b)
          (in_from run q (sym along ∙ sym org ∙ o) (omega (arith, far, low)) (omega (arith, upto, last, high)))
          ∙ or-true (covers (end_ranges m) q))
          (λ near. ap (λ b. b || in_range run q)
          (has_covers m q k h at_k (in_from (end_range (k, h)) q (sym org ∙ o) (omega (arith, from, n)) near)))
          side

  stays : (q : OpId) → HasOne m q → covers (end_ranges grown) q ≡ true
  stays q (j, x, at_j, has) = by (eq_by_cmp id_cmp j k) refl
    where
      by : (b : Bool) → eq_by_cmp id_cmp j k ≡ b → covers (end_ranges grown) q ≡ true
      by true p =
          let is = same_id j k p in
          let n : j.number ≡ k.number = ap (λ a. a.number) is in
          let org : j.origin ≡ k.origin = ap (λ a. a.origin) is in
          let last : x ≡ h = ap (λ o. unwrap_or o x) (sym at_j ∙ ap (map.get m) is ∙ at_k) in
          let o = in_origin (end_range (j, x)) q has in
          let from = in_low (end_range (j, x)) q has in
          let upto = in_high (end_range (j, x)) q has in
          has_covers grown q k e first_grown (in_from (end_range (k, e)) q (sym org ∙ o) (omega (arith, n, from))
          (omega (arith, upto, last, more)))
      by false p = has_covers grown q j x
          (other_stays j x record { not_k = λ s. true≢false (sym (eq_from j k s) ∙ p); at = at_j }) has

  begins : (q : OpId) → IsSome (map.get grown q) → IsSome (map.get m q)
  begins q there = by (eq_by_cmp id_cmp q k) refl
    where
      by : (b : Bool) → eq_by_cmp id_cmp q k ≡ b → IsSome (map.get m q)
      by true p = ap is_some (ap (map.get m) (same_id q k p) ∙ at_k)
      by false p = subst IsSome (get_grown q ∙ ap (λ b. cond b (Some e) (map.get m q)) p) there

  record IsBehind (q : OpId) : Type 0 where
    pub same : k.origin ≡ q.origin
    pub next : e + 1 ≡ q.number
    pub there : IsSome (map.get m q)

  -- a seam is right behind the new end of the range
  seam_behind : (q : OpId) → IsSeam grown q → IsBehind q
  seam_behind q (j, (x, at_j, org, touch), there) = ⊎_elim (λ f. (
      let same : j.origin ≡ k.origin = ap (λ a. a.origin) f.0 in
      let last = f.1 in
      record { same = sym same ∙ org; next = omega (arith, last, touch); there = begins q there }))
      (λ o. absurd (d.closed q (j, (x, o.at, org, touch), begins q there))) (is_either j x at_j)

  -- where no range begins right behind the new end, the range is as long as possible
  pub reached : ((q : OpId) → k.origin ≡ q.origin → e + 1 ≡ q.number → map.get m q ≡ None)
      → GainsWithin m run (map.insert m k e)
  unfolding grown
  reached clear = record {
    longest = record {
      disjoint = grown_disjoint;
      closed = λ q s. (let b = seam_behind q s in true≢false (sym b.there ∙ ap is_some (clear q b.same b.next)));
    };
    stays = λ q g. stays q (covers_has m q g);
    within = λ q g. old_or_run q (covers_has grown q g);
  }

  -- where a range begins right behind the new end, the two are joined
  module _ (id : OpId) (g : ℕ) (at_id : map.get m id ≡ Some g) (org : k.origin ≡ id.origin)
      (touch : e + 1 ≡ id.number) where
    id_stays : map.get grown id ≡ Some g
    id_stays = other_stays id g record {
      not_k = λ s. (let n : id.number ≡ k.number = ap (λ a. a.number) s in omega (arith, n, k_low, more, touch));
      at = at_id;
    }

    twice : map.insert grown k g ≡ map.insert m k g
    twice = map.same_map id_total id_exact _ _ (λ q.
        map.get-insert id_total grown k g q ∙ ap (cond (eq_by_cmp id_cmp q k) (Some g)) (get_grown q)
        ∙ cond_twice (eq_by_cmp id_cmp q k) (Some g) (Some e) (map.get m q)
        ∙ sym (map.get-insert id_total m k g q))

    joined : GainsWithin m run (map.remove (map.insert grown k g) id)
    joined =
        let j = touching_joined grown k id e g grown_disjoint first_grown id_stays org touch in
        record {
          longest = record {
            disjoint = j.disjoint;
            closed = λ q s. (
                let old = j.seams q s in
                let b = seam_behind q old.0 in
                let is : q ≡ id = one_id q id (sym b.same ∙ org) (sym b.next ∙ touch) in
                true≢false (sym (eq_from q id is) ∙ old.1));
          };
          stays = λ q f. j.covering q ∙ stays q (covers_has m q f);
          within = λ q f. old_or_run q (covers_has grown q (sym (j.covering q) ∙ f));
        }

    pub met : GainsWithin m run (map.remove (map.insert m k g) id)
    met = subst (λ n. GainsWithin m run (map.remove n id)) twice joined

pub set_there : (m : Ends) (k : OpId) (x : ℕ) → map.get (map.insert m k x) k ≡ Some x
set_there m k x = map.get-insert id_total m k x k ∙ ap (λ b. cond b (Some x) (map.get m k)) (eq_self k)

pub still_there : (m : Ends) (k id : OpId) (x : ℕ) → (k ≡ id → ⊥)
    → map.get (map.remove (map.insert m k x) id) k ≡ Some x
still_there m k id x ne = map.get-remove id_total (map.insert m k x) id k
    ∙ ap (λ b. cond b None (map.get (map.insert m k x) k)) (differs k id ne) ∙ set_there m k x

-- the id behind a last number
abbrev pub id_behind : OpId → ℕ → OpId
id_behind k h = record { origin = k.origin; number = h + 1 }

not_below : (k q : OpId) (h : ℕ) → k.origin ≡ q.origin → h < q.number → is_gt (id_cmp (id_behind k h) q) ≡ false
not_below k q h o l = grind (arith, nat_tests, o, l)

pub past_from : (k id : OpId) (h : ℕ) → is_gt (id_cmp (id_behind k h) id) ≡ false → k.origin ≤ id.origin
past_from k id h l = grind (arith, nat_tests, l)

pub past_number : (k id : OpId) (h : ℕ) → is_gt (id_cmp (id_behind k h) id) ≡ false → k.origin ≡ id.origin
    → h < id.number
past_number k id h l o = grind (arith, nat_tests, l, o)

above : (q id : OpId) → q.origin ≡ id.origin → q.number < id.number → is_gt (id_cmp id q) ≡ true
above q id o l = grind (arith, nat_tests, o, l)

above_all : (q id : OpId) → q.origin < id.origin → is_gt (id_cmp id q) ≡ true
above_all q id l = grind (arith, nat_tests, l)

module _ (m : Ends) (k : OpId) (h : ℕ) where
  -- no range begins behind a last number
  pub none_behind : ((q : OpId) → is_gt (id_cmp (id_behind k h) q) ≡ false → map.get m q ≡ None) → (q : OpId)
      → k.origin ≡ q.origin → h < q.number → map.get m q ≡ None
  none_behind none q o l = none q (not_below k q h o l)

  module _ (id : OpId)
      (first : (q : OpId) → is_gt (id_cmp (id_behind k h) q) ≡ false → IsSome (map.get m q) → is_gt (id_cmp id q)
      ≡ false) where
    before_first : (q : OpId) → k.origin ≡ q.origin → h < q.number → is_gt (id_cmp id q) ≡ true → map.get m q ≡ None
    before_first q o l g = by (map.get m q) refl
      where
        by : (v : Option ℕ) → map.get m q ≡ v → v ≡ None
        by None f = refl
        by (Some x) f = absurd (true≢false (sym g ∙ first q (not_below k q h o l) (ap is_some f)))

    -- no range begins between a last number and the first one behind it
    pub none_before : k.origin ≡ id.origin → (q : OpId) → k.origin ≡ q.origin → h < q.number → q.number < id.number
        → map.get m q ≡ None
    none_before same q o l less = before_first q o l (above q id (sym o ∙ same) less)

    -- no range begins up to a number that the first range behind is past
    pub none_up_to : is_gt (id_cmp (id_behind k h) id) ≡ false → (e : ℕ) → (k.origin ≡ id.origin → e < id.number)
        → (q : OpId) → k.origin ≡ q.origin → h < q.number → q.number ≤ e → map.get m q ≡ None
    none_up_to past e far q o l less = ⊎_elim
        (λ same. (let f = far same in before_first q o l (above q id (sym o ∙ same) (omega (arith, f, less)))))
        (λ other. (let from = past_from k id h past in
        before_first q o l (above_all q id (omega (arith, from, other, o))))) (cases_eq k.origin id.origin)
