-- Two ranges that touch become one.
use Rattle.std.specs.Prelude.{◌≡◌, ℕ, ◌+◌, ◌^◌, ◌<◌, ◌≤◌, Bool, true, false, ◌||◌, Some, None, Option, cond, IsSome}
use Rattle.std.proofs.Common.{refl, sym, ap, ◌∙◌, arith, subst, ⊎_elim, inl, inr}
use mathlib.Core.Bool.{true≢false}
use mathlib.Core.Logic.{◌⊎◌}
use Rattle.std.specs.Option.{is_some, unwrap_or}
use Rattle.std.specs.Ordering.{eq_by_cmp}
use Rattle.std.specs.Cmp.{eq_by_cmp_equiv}
use Rattle.std.proofs.lemmas.Bool.{cases_lt}
use Rattle.std.specs.FinMap as map
use Rattle.chr_ops.specs.declared.id.OpId.{OpId}
use Rattle.chr_ops.specs.Ids.{id_cmp}
use Rattle.chr_ops.specs.Summaries.{covers}
use Rattle.chr_ops.specs.working.Covering.{Ends, end_range, end_ranges, AreDisjoint, AreJoined, EndsRightBefore, IsSeam}
use Rattle.chr_ops.specs.working.Covering.{next_id, is_beside}
use Rattle.chr_ops.proofs.IdOrder.{id_total, same_id}
use Rattle.chr_ops.proofs.RangeLookups.{HasOne, covers_has, has_covers, in_origin, in_low, in_high, in_from, same_bool}

pub one_id : (a b : OpId) → a.origin ≡ b.origin → a.number ≡ b.number → a ≡ b
one_id a b o n = λ i. record { origin = o i; number = n i }

pub eq_self : (a : OpId) → eq_by_cmp id_cmp a a ≡ true
eq_self a = (eq_by_cmp_equiv id_total).refl a

pub eq_from : (a b : OpId) → a ≡ b → eq_by_cmp id_cmp a b ≡ true
eq_from a b e = ap (eq_by_cmp id_cmp a) (sym e) ∙ eq_self a

pub differs : (a b : OpId) → (a ≡ b → ⊥) → eq_by_cmp id_cmp a b ≡ false
differs a b ne = by (eq_by_cmp id_cmp a b) refl
  where
    by : (c : Bool) → eq_by_cmp id_cmp a b ≡ c → c ≡ false
    by true e = absurd (ne (same_id a b e))
    by false e = refl

pub some_not_none : {X : Type 0} (o : Option X) (x : X) → o ≡ None → o ≡ Some x → ⊥
some_not_none o x n s = true≢false (sym (ap is_some s) ∙ ap is_some n)

-- a range joined to the one that begins right behind it
module _ (m : Ends) (k id : OpId) (h g : ℕ) (d : AreDisjoint m) (at_k : map.get m k ≡ Some h)
    (at_id : map.get m id ≡ Some g) (same : k.origin ≡ id.origin) (touch : h + 1 ≡ id.number) where
  joined : Ends
  joined = map.remove (map.insert m k g) id

  get_joined : (q : OpId) → map.get joined q ≡ cond (eq_by_cmp id_cmp q id) None
      (cond (eq_by_cmp id_cmp q k) (Some g) (map.get m q))
  unfolding joined
  get_joined q = map.get-remove id_total (map.insert m k g) id q ∙ ap (cond (eq_by_cmp id_cmp q id) None)
      (map.get-insert id_total m k g q)

  k_low : k.number ≤ h
  k_low = (d.fits k h at_k).0

  id_low : id.number ≤ g
  id_low = (d.fits id g at_id).0

  k_not_id : k ≡ id → ⊥
  k_not_id e = (let n : k.number ≡ id.number = ap (λ a. a.number) e in omega (arith, n, k_low, touch))

  record IsOther (q : OpId) (x : ℕ) : Type 0 where
    pub not_id : q ≡ id → ⊥
    pub not_k : q ≡ k → ⊥
    pub at : map.get m q ≡ Some x

  is_either : (q : OpId) (x : ℕ) → map.get joined q ≡ Some x → ((q ≡ k) × (x ≡ g)) ⊎ IsOther q x
  is_either q x e = by (eq_by_cmp id_cmp q id) (eq_by_cmp id_cmp q k) refl refl (sym (get_joined q) ∙ e)
    where
      by : (b c : Bool) → eq_by_cmp id_cmp q id ≡ b → eq_by_cmp id_cmp q k ≡ c
          → cond b None (cond c (Some g) (map.get m q)) ≡ Some x → ((q ≡ k) × (x ≡ g)) ⊎ IsOther q x
      by true c p r f = absurd (some_not_none None x refl f)
      by false true p r f = inl (same_id q k r, sym (ap (λ o. unwrap_or o g) f))
      by false false p r f = inr record {
        not_id = λ s. true≢false (sym (eq_from q id s) ∙ p);
        not_k =
            λ s. true≢false (sym (eq_from q k s) ∙ r);
        at = f;
      }

  other_stays : (q : OpId) (x : ℕ) → IsOther q x → map.get joined q ≡ Some x
  other_stays q x o = get_joined q ∙ ap (λ b. cond b None (cond (eq_by_cmp id_cmp q k) (Some g) (map.get m q)))
      (differs q id o.not_id) ∙ ap (λ b. cond b (Some g) (map.get m q)) (differs q k o.not_k) ∙ o.at

  first_stays : map.get joined k ≡ Some g
  first_stays = get_joined k ∙ ap (λ b. cond b None (cond (eq_by_cmp id_cmp k k) (Some g) (map.get m k)))
      (differs k id k_not_id) ∙ ap (λ b. cond b (Some g) (map.get m k)) (eq_self k)

  id_gone : map.get joined id ≡ None
  id_gone = get_joined id ∙ ap (λ b. cond b None (cond (eq_by_cmp id_cmp id k) (Some g) (map.get m id))) (eq_self id)

  fits : (q : OpId) (x : ℕ) → map.get joined q ≡ Some x → (q.number ≤ x) × (x < 2 ^ 64)
  fits q x e = ⊎_elim (λ f. (
      let n : q.number ≡ k.number = ap (λ a. a.number) f.0 in
      let last = f.1 in
      let big = (d.fits id g at_id).1 in
      (omega (arith, n, last, k_low, id_low, touch), omega (arith, last, big)))) (λ o. d.fits q x o.at)
      (is_either q x e)

  -- an other range that begins behind the first begins behind the second
  behind : (l : OpId) (y : ℕ) → IsOther l y → k.origin ≡ l.origin → k.number < l.number → g < l.number
  behind l y o org less =
      let past = d.apart k l h y at_k o.at org less in
      ⊎_elim (λ more. d.apart id l g y at_id o.at (sym same ∙ org) more)
      (λ no. absurd (o.not_id (one_id l id (sym org ∙ same) (omega (arith, past, no, touch)))))
      (cases_lt id.number l.number)

  apart : (q l : OpId) (x y : ℕ) → map.get joined q ≡ Some x → map.get joined l ≡ Some y → q.origin ≡ l.origin
      → q.number < l.number → x < l.number
  apart q l x y at_q at_l org less = ⊎_elim (λ f. ⊎_elim (λ f'. both f f') (λ o'. first f o') (is_either l y at_l))
      (λ o. ⊎_elim (λ f'. second o f') (λ o'. d.apart q l x y o.at o'.at org less) (is_either l y at_l))
      (is_either q x at_q)
    where
      both : (q ≡ k) × (x ≡ g) → (l ≡ k) × (y ≡ g) → x < l.number
      both f f' = (let a : q.number ≡ k.number = ap (λ a. a.number) f.0 in let b : l.number ≡ k.number =
          ap (λ a. a.number) f'.0 in absurd (omega (arith, a, b, less)))

      first : (q ≡ k) × (x ≡ g) → IsOther l y → x < l.number
      first f o =
          let a : q.number ≡ k.number = ap (λ a. a.number) f.0 in
          let b : q.origin ≡ k.origin = ap (λ a. a.origin) f.0 in
          let far = behind l y o (sym b ∙ org) (omega (arith, a, less)) in
          let last = f.1 in
          omega (arith, far, last)

      second : IsOther q x → (l ≡ k) × (y ≡ g) → x < l.number
      second o f =
          let a : l.number ≡ k.number = ap (λ a. a.number) f.0 in
          let b : l.origin ≡ k.origin = ap (λ a. a.origin) f.0 in
          let far = d.apart q k x h o.at at_k (org ∙ b) (omega (arith, a, less)) in
          omega (arith, far, a)

  old_covers : (q : OpId) → HasOne joined q → covers (end_ranges m) q ≡ true
  old_covers q (j, x, at, has) = ⊎_elim (λ f. by f (cases_lt h q.number)) (λ o. has_covers m q j x o.at has)
      (is_either j x at)
    where
      by : (j ≡ k) × (x ≡ g) → (h < q.number) ⊎ (q.number ≤ h) → covers (end_ranges m) q ≡ true
      by f side =
          let n : j.number ≡ k.number = ap (λ a. a.number) f.0 in
          let org : j.origin ≡ k.origin = ap (λ a. a.origin) f.0 in
          let o = in_origin (end_range (j, x)) q has in
          let low = in_low (end_range (j, x)) q has in
          let high = in_high (end_range (j, x)) q has in
          let last = f.1 in
          ⊎_elim (λ far. has_covers m q id g at_id (in_from (end_range (id, g)) q (sym same ∙ sym org ∙ o)
          (omega (arith, far, touch)) (omega (arith, high, last))))
          (λ near. has_covers m q k h at_k (in_from (end_range (k, h)) q (sym org ∙ o) (omega (arith, low, n)) near))
          side

  new_covers : (q : OpId) → HasOne m q → covers (end_ranges joined) q ≡ true
  new_covers q (j, x, at, has) = by (eq_by_cmp id_cmp j id) (eq_by_cmp id_cmp j k) refl refl
    where
      o : j.origin ≡ q.origin
      o = in_origin (end_range (j, x)) q has

      low : j.number ≤ q.number
      low = in_low (end_range (j, x)) q has

      high : q.number ≤ x
      high = in_high (end_range (j, x)) q has

      value : (y : ℕ) → map.get m j ≡ Some y → x ≡ y
      value y e = ap (λ u. unwrap_or u x) (sym at ∙ e)

      by : (b c : Bool) → eq_by_cmp id_cmp j id ≡ b → eq_by_cmp id_cmp j k ≡ c → covers (end_ranges joined) q ≡ true
      by true c p r =
          let e = same_id j id p in
          let n : j.number ≡ id.number = ap (λ a. a.number) e in
          let org : j.origin ≡ id.origin = ap (λ a. a.origin) e in
          let last = value g (ap (map.get m) e ∙ at_id) in
          has_covers joined q k g first_stays (in_from (end_range (k, g)) q (same ∙ sym org ∙ o)
          (omega (arith, k_low, touch, n, low)) (omega (arith, high, last)))
      by false true p r =
          let e = same_id j k r in
          let n : j.number ≡ k.number = ap (λ a. a.number) e in
          let org : j.origin ≡ k.origin = ap (λ a. a.origin) e in
          let last = value h (ap (map.get m) e ∙ at_k) in
          has_covers joined q k g first_stays (in_from (end_range (k, g)) q (sym org ∙ o) (omega (arith, n, low))
          (omega (arith, high, last, touch, id_low)))
      by false false p r = has_covers joined q j x (other_stays j x record {
        not_id =
            λ s. true≢false (sym (eq_from j id s) ∙ p);
        not_k = λ s. true≢false (sym (eq_from j k s) ∙ r);
        at = at;
      }) has

  begins : (q : OpId) (x : ℕ) → map.get joined q ≡ Some x → IsSome (map.get m q)
  begins q x at = ⊎_elim (λ f. ap is_some (ap (map.get m) f.0 ∙ at_k)) (λ o. ap is_some o.at) (is_either q x at)

  old_seam : (q : OpId) → IsSome (map.get m q) → (j : OpId) (x : ℕ) → map.get joined j ≡ Some x → j.origin ≡ q.origin
      → x + 1 ≡ q.number → IsSeam m q
  old_seam q there j x at org next = ⊎_elim (λ f. (
      let b : j.origin ≡ k.origin = ap (λ a. a.origin) f.0 in
      let last = f.1 in
      (id, (g, at_id, sym same ∙ sym b ∙ org, omega (arith, next, last)), there)))
      (λ o. (j, (x, o.at, org, next), there)) (is_either j x at)

  seams : (q : OpId) → IsSeam joined q → IsSeam m q × (eq_by_cmp id_cmp q id ≡ false)
  seams q (j, (x, at, org, next), there) = by (map.get joined q) refl there
    where
      by : (v : Option ℕ) → map.get joined q ≡ v → IsSome v → IsSeam m q × (eq_by_cmp id_cmp q id ≡ false)
      by None e t = absurd (true≢false (sym t))
      by (Some y) e t = (
        old_seam q (begins q y e) j x at org next,
        differs q id (λ s. some_not_none (map.get joined q) y (ap (map.get joined) s ∙ id_gone) e),
      )

  pub touching_joined : AreJoined m (λ q. eq_by_cmp id_cmp q id) (map.remove (map.insert m k g) id)
  unfolding joined
  touching_joined = record {
    disjoint = record { fits = fits; apart = apart };
    covering = λ q. same_bool (covers (end_ranges joined) q) (covers (end_ranges m) q)
        (λ h. old_covers q (covers_has joined q h)) (λ h. new_covers q (covers_has m q h));
    seams = seams;
  }

-- where no range begins, there is nothing to join
pub none_begins : (m : Ends) (id : OpId) → AreDisjoint m → map.get m id ≡ None
    → AreJoined m (λ q. eq_by_cmp id_cmp q id) m
none_begins m id d none = record {
  disjoint = d;
  covering = λ q. refl;
  seams = λ q s. (s, differs q id (λ e. true≢false (sym (subst IsSome (ap (map.get m) e ∙ none) s.2))));
}

-- where no range ends right before an id, there is nothing to join
pub none_ends : (m : Ends) (id : OpId) → AreDisjoint m → ((k : OpId) → ¬ (EndsRightBefore m id k))
    → AreJoined m (λ q. eq_by_cmp id_cmp q id) m
none_ends m id d none = record {
  disjoint = d;
  covering = λ q. refl;
  seams = λ q s. (s, differs q id (λ e. none s.0 (subst (λ x. EndsRightBefore m x s.0) e s.1)));
}

neither : (a b : Bool) → a ≡ false → b ≡ false → (a || b) ≡ false
neither true b p r = p
neither false b p r = r

-- two joinings, one after the other, are one
pub joined_twice : (m n o : Ends) (p r : OpId → Bool) → AreJoined m p n → AreJoined n r o
    → AreJoined m (λ q. p q || r q) o
joined_twice m n o p r h g = record {
  disjoint = g.disjoint;
  covering = λ q. g.covering q ∙ h.covering q;
  seams = λ q s. (let later = g.seams q s in let sooner = h.seams q later.0 in
      (sooner.0, neither (p q) (r q) sooner.1 later.1));
}

-- ranges that are joined by one test are joined by another that agrees where there is a seam
pub joined_for : (m n : Ends) (p r : OpId → Bool) → ((q : OpId) → IsSeam m q → p q ≡ false → r q ≡ false)
    → AreJoined m p n → AreJoined m r n
joined_for m n p r same h = record {
  disjoint = h.disjoint;
  covering = h.covering;
  seams = λ q s. (let old = h.seams q s in (old.0, same q old.0 old.1));
}

-- no range has a number past the greatest, so none begins behind it
pub none_past : (m n : Ends) (id : OpId) → AreDisjoint m → id.number + 1 ≡ 2 ^ 64
    → AreJoined m (λ q. eq_by_cmp id_cmp q id) n → AreJoined m (λ q. is_beside q id) n
none_past m n id d last h = joined_for m n (λ q. eq_by_cmp id_cmp q id) (λ q. is_beside q id)
    (λ q s e. neither (eq_by_cmp id_cmp q id) (eq_by_cmp id_cmp q (next_id id)) e (differs q (next_id id) (past q s))) h
  where
    past : (q : OpId) → IsSeam m q → q ≡ next_id id → ⊥
    past q s e = by (map.get m q) refl s.2
      where
        by : (v : Option ℕ) → map.get m q ≡ v → IsSome v → ⊥
        by None g t = absurd (true≢false (sym t))
        by (Some y) g t = (let fit = d.fits q y g in let n : q.number ≡ id.number + 1 = ap (λ a. a.number) e in
            omega (arith, fit.0, fit.1, n, last))

-- nothing is joined where no test holds
pub joined_none : (m : Ends) (p : OpId → Bool) → AreDisjoint m → ((q : OpId) → p q ≡ false) → AreJoined m p m
joined_none m p d none = record { disjoint = d; covering = λ q. refl; seams = λ q s. (s, none q) }
