-- Ids that are put in as ranges of their own, and the seams that they make.
use Rattle.std.specs.Prelude.{◌≡◌, ℕ, ◌+◌, ◌^◌, ◌<◌, ◌≤◌, Bool, true, false, ◌||◌, List, [], ◌∷◌, Some, None, Option}
use Rattle.std.specs.Prelude.{cond, IsSome, zero, suc, length}
use Rattle.std.proofs.Common.{refl, sym, ap, ◌∙◌, arith, subst, ⊎_elim, inl, inr, get_or, take}
use mathlib.Core.Bool.{true≢false}
use mathlib.Core.Logic.{◌⊎◌}
use Rattle.std.specs.Option.{unwrap_or}
use Rattle.std.specs.List.{list_any}
use Rattle.std.specs.Ordering.{eq_by_cmp}
use Rattle.std.proofs.Math.Bool.{or-true}
use Rattle.std.proofs.lemmas.Bool.{cases_lt}
use Rattle.std.proofs.lemmas.List.Folds.{list_any_more}
use Rattle.std.specs.FinMap as map
use Rattle.chr_ops.specs.declared.id.OpId.{OpId}
use Rattle.chr_ops.specs.Ids.{id_cmp}
use Rattle.chr_ops.specs.News.{is_one_of}
use Rattle.chr_ops.specs.Summaries.{covers}
use Rattle.chr_ops.specs.working.Joining.{IsWithout}
use Rattle.chr_ops.specs.working.Covering.{Ends, end_range, end_ranges, AreDisjoint, AreAsLongAsPossible, AreJoined}
use Rattle.chr_ops.specs.working.Covering.{IsLaid, IsSameBut, IsSeam, is_beside, next_id}
use Rattle.chr_ops.proofs.IdOrder.{id_total, id_exact, same_id}
use Rattle.chr_ops.proofs.RangeLookups.{HasOne, covers_has, has_covers, in_origin, in_low, in_high, in_from, same_bool}
use Rattle.chr_ops.proofs.RangeJoins.{one_id, eq_from, joined_twice, joined_for}

false_or : (a b : Bool) → (a || b) ≡ false → (a ≡ false) × (b ≡ false)
false_or true b h = absurd (true≢false h)
false_or false b h = (refl, h)

none_among : (ids : List OpId) (q : OpId) → list_any (is_beside q) ids ≡ false → is_one_of ids q ≡ false
none_among [] q h = refl
none_among (id ∷ ids) q h =
    let parts = false_or (is_beside q id) (list_any (is_beside q) ids) h in
    ap (λ b. b || is_one_of ids q) (false_or (eq_by_cmp id_cmp q id) (eq_by_cmp id_cmp q (next_id id)) parts.0).0
    ∙ none_among ids q parts.1

after_among : (ids : List OpId) (k q : OpId) → q ≡ next_id k → is_one_of ids k ≡ true → list_any (is_beside q) ids
    ≡ true
after_among [] k q e h = absurd (true≢false (sym h))
after_among (id ∷ ids) k q e h = by (eq_by_cmp id_cmp k id) refl h (λ g. after_among ids k q e g)
  where
    by : (b : Bool) → eq_by_cmp id_cmp k id ≡ b → (b || is_one_of ids k) ≡ true
        → (is_one_of ids k ≡ true → list_any (is_beside q) ids ≡ true)
        → (is_beside q id || list_any (is_beside q) ids) ≡ true
    by true same g more =
        ap (λ b. (eq_by_cmp id_cmp q id || b) || list_any (is_beside q) ids)
        (eq_from q (next_id id) (e ∙ ap next_id (same_id k id same)))
        ∙ ap (λ b. b || list_any (is_beside q) ids) (or-true (eq_by_cmp id_cmp q id))
    by false same g more = ap (λ b. is_beside q id || b) (more g) ∙ or-true (is_beside q id)

module _ (m : Ends) (ids : List OpId) (n : Ends) (d : AreAsLongAsPossible m)
    (new : (q : OpId) → is_one_of ids q ≡ true → covers (end_ranges m) q ≡ false) (laid : IsLaid m ids n) where
  at_among : (q : OpId) (x : ℕ) → is_one_of ids q ≡ true → map.get n q ≡ Some x → x ≡ q.number
  at_among q x a e = ap (λ o. unwrap_or o x) (sym e ∙ laid.at q ∙ ap (λ b. cond b (Some q.number) (map.get m q)) a)

  at_other : (q : OpId) → is_one_of ids q ≡ false → map.get n q ≡ map.get m q
  at_other q a = laid.at q ∙ ap (λ b. cond b (Some q.number) (map.get m q)) a

  fits : (q : OpId) (x : ℕ) → map.get n q ≡ Some x → (q.number ≤ x) × (x < 2 ^ 64)
  fits q x e = by (is_one_of ids q) refl
    where
      by : (b : Bool) → is_one_of ids q ≡ b → (q.number ≤ x) × (x < 2 ^ 64)
      by true a = (let same = at_among q x a e in let fit = laid.fits q a in
          (omega (arith, same), omega (arith, same, fit)))
      by false a = d.disjoint.fits q x (sym (at_other q a) ∙ e)

  -- a range that was there has none of the ids
  clear : (k : OpId) (h : ℕ) (q : OpId) → map.get m k ≡ Some h → is_one_of ids q ≡ true → k.origin ≡ q.origin
      → k.number ≤ q.number → h < q.number
  clear k h q at a org low = ⊎_elim (λ l. l) (λ no. absurd
      (true≢false (sym (has_covers m q k h at (in_from (end_range (k, h)) q org low no)) ∙ new q a)))
      (cases_lt h q.number)

  apart : (k l : OpId) (h g : ℕ) → map.get n k ≡ Some h → map.get n l ≡ Some g → k.origin ≡ l.origin
      → k.number < l.number → h < l.number
  apart k l h g at_k at_l org less = by (is_one_of ids k) (is_one_of ids l) refl refl
    where
      by : (b c : Bool) → is_one_of ids k ≡ b → is_one_of ids l ≡ c → h < l.number
      by true c p r = (let same = at_among k h p at_k in omega (arith, same, less))
      by false true p r = clear k h l (sym (at_other k p) ∙ at_k) r org (omega (arith, less))
      by false false p r = d.disjoint.apart k l h g (sym (at_other k p) ∙ at_k) (sym (at_other l r) ∙ at_l) org less

  pub laid_disjoint : AreDisjoint n
  laid_disjoint = record { fits = fits; apart = apart }

  old_or_new : (q : OpId) → HasOne n q → (covers (end_ranges m) q || is_one_of ids q) ≡ true
  old_or_new q (j, x, at, has) = by (is_one_of ids j) refl
    where
      by : (b : Bool) → is_one_of ids j ≡ b → (covers (end_ranges m) q || is_one_of ids q) ≡ true
      by true a =
          let same = at_among j x a at in
          let low = in_low (end_range (j, x)) q has in
          let high = in_high (end_range (j, x)) q has in
          let is : j ≡ q = one_id j q (in_origin (end_range (j, x)) q has) (omega (arith, same, low, high)) in
          ap (λ b. covers (end_ranges m) q || b) (sym (ap (is_one_of ids) is) ∙ a)
          ∙ or-true (covers (end_ranges m) q)
      by false a = ap (λ b. b || is_one_of ids q) (has_covers m q j x (sym (at_other j a) ∙ at) has)

  stays : (q : OpId) → HasOne m q → covers (end_ranges n) q ≡ true
  stays q (j, x, at, has) = by (is_one_of ids j) refl
    where
      by : (b : Bool) → is_one_of ids j ≡ b → covers (end_ranges n) q ≡ true
      by true a = absurd (true≢false (sym (has_covers m j j x at
          (in_from (end_range (j, x)) j refl (omega arith) (d.disjoint.fits j x at).0)) ∙ new j a))
      by false a = has_covers n q j x (at_other j a ∙ at) has

  comes : (q : OpId) → is_one_of ids q ≡ true → covers (end_ranges n) q ≡ true
  comes q a = has_covers n q q q.number (laid.at q ∙ ap (λ b. cond b (Some q.number) (map.get m q)) a)
      (in_from (end_range (q, q.number)) q refl (omega arith) (omega arith))

  pub laid_covers : (q : OpId) → covers (end_ranges n) q ≡ (covers (end_ranges m) q || is_one_of ids q)
  laid_covers q = same_bool (covers (end_ranges n) q) (covers (end_ranges m) q || is_one_of ids q)
      (λ h. old_or_new q (covers_has n q h)) (λ h. by (covers (end_ranges m) q) refl h)
    where
      by : (b : Bool) → covers (end_ranges m) q ≡ b → (b || is_one_of ids q) ≡ true → covers (end_ranges n) q ≡ true
      by true e h = stays q (covers_has m q e)
      by false e h = comes q h

  -- each seam is beside one of the ids
  seam_beside : (q : OpId) → IsSeam n q → list_any (is_beside q) ids ≡ false → ⊥
  seam_beside q (k, (h, at, org, touch), there) far = by (is_one_of ids k) refl
    where
      by : (b : Bool) → is_one_of ids k ≡ b → ⊥
      by true a = (let same = at_among k h a at in true≢false
          (sym (after_among ids k q (one_id q (next_id k) (sym org) (omega (arith, same, touch))) a) ∙ far))
      by false a = d.closed q (
        k,
        (h, sym (at_other k a) ∙ at, org, touch),
        subst IsSome (at_other q (none_among ids q far)) there,
      )

  pub joined_longest : (o : Ends) → AreJoined n (λ q. list_any (is_beside q) ids) o → AreAsLongAsPossible o
  joined_longest o h = record {
    disjoint = h.disjoint;
    closed =
        λ q s. (let old = h.seams q s in seam_beside q old.0 old.1);
  }

  pub joined_covers : (o : Ends) → AreJoined n (λ q. list_any (is_beside q) ids) o → (q : OpId)
      → covers (end_ranges o) q ≡ (covers (end_ranges m) q || is_one_of ids q)
  joined_covers o h q = h.covering q ∙ laid_covers q

-- no range begins at an id that is not covered
pub fresh_begin : (m : Ends) (ids : List OpId) → AreDisjoint m
    → ((q : OpId) → is_one_of ids q ≡ true → covers (end_ranges m) q ≡ false) → (q : OpId) → is_one_of ids q
    ≡ true → map.get m q ≡ None
fresh_begin m ids d new q a = by (map.get m q) refl
  where
    by : (v : Option ℕ) → map.get m q ≡ v → v ≡ None
    by None e = refl
    by (Some x) e = absurd (true≢false (sym (has_covers m q q x e
        (in_from (end_range (q, x)) q refl (omega arith) (d.fits q x e).0)) ∙ new q a))

-- what was laid is taken up again
pub lifted : (m n r : Ends) (ids : List OpId) → ((q : OpId) → is_one_of ids q ≡ true → map.get m q ≡ None)
    → IsSameBut m ids n → IsWithout r ids n → r ≡ m
lifted m n r ids none same without = map.same_map id_total id_exact r m
    (λ q. without q ∙ by q (is_one_of ids q) refl)
  where
    by : (q : OpId) (b : Bool) → is_one_of ids q ≡ b → cond b None (map.get n q) ≡ map.get m q
    by q true a = sym (none q a)
    by q false a = same q a

-- an id is one of the ids so far, or the next one
stepped : (past here : Bool) (x y : ℕ) (o : Option ℕ) → (here ≡ true → x ≡ y)
    → cond here (Some x) (cond past (Some y) o) ≡ cond (past || here) (Some y) o
stepped true true x y o h = ap Some (h refl)
stepped false true x y o h = ap Some (h refl)
stepped true false x y o h = refl
stepped false false x y o h = refl

either_one : (a b : Bool) → (a || b) ≡ true → (a ≡ true) ⊎ (b ≡ true)
either_one true b h = inl refl
either_one false b h = inr h

pub laid_more : (before now : Ends) (ids : List OpId) (i : ℕ) (d : OpId) → i < length ids
    → (get_or ids i d).number < 2 ^ 64 → IsLaid before (take i ids) now
    → IsLaid before (take (i + 1) ids) (map.insert now (get_or ids i d) (get_or ids i d).number)
laid_more before now ids i d there fit h =
    let k = get_or ids i d in
    record {
      at = λ q.
          map.get-insert id_total now k k.number q ∙ ap (cond (eq_by_cmp id_cmp q k) (Some k.number)) (h.at q)
          ∙ stepped (is_one_of (take i ids) q) (eq_by_cmp id_cmp q k) k.number q.number (map.get before q)
          (λ e. ap (λ x. x.number) (sym (same_id q k e)))
          ∙ ap (λ b. cond b (Some q.number) (map.get before q))
          (sym (list_any_more (eq_by_cmp id_cmp q) ids i d there));
      fits = λ q a. ⊎_elim (λ e. h.fits q e) (λ e. (let n : q.number ≡ k.number = ap (λ x. x.number) (same_id q k e) in
          omega (arith, n, fit)))
          (either_one (is_one_of (take i ids) q) (eq_by_cmp id_cmp q k)
          (sym (list_any_more (eq_by_cmp id_cmp q) ids i d there) ∙ a));
    }

pub laid_none : (m : Ends) → IsLaid m [] m
laid_none m = record { at = λ q. refl; fits = λ q a. absurd (true≢false (sym a)) }

among_front : (ids : List OpId) (i : ℕ) (q : OpId) → is_one_of ids q ≡ false → is_one_of (take i ids) q ≡ false
among_front [] zero q h = refl
among_front [] (suc i) q h = refl
among_front (id ∷ ids) zero q h = refl
among_front (id ∷ ids) (suc i) q h =
    let parts = false_or (eq_by_cmp id_cmp q id) (is_one_of ids q) h in
    ap (λ b. b || is_one_of (take i ids) q) parts.0 ∙ among_front ids i q parts.1

pub same_but : (before now : Ends) (ids : List OpId) (i : ℕ) → IsLaid before (take i ids) now → IsSameBut before ids now
same_but before now ids i h q far = h.at q ∙ ap (λ b. cond b (Some q.number) (map.get before q))
    (among_front ids i q far)

pub joined_more : (before now after : Ends) (ids : List OpId) (i : ℕ) (d : OpId) → i < length ids
    → AreJoined before (λ q. list_any (is_beside q) (take i ids)) now
    → AreJoined now (λ q. is_beside q (get_or ids i d)) after
    → AreJoined before (λ q. list_any (is_beside q) (take (i + 1) ids)) after
joined_more before now after ids i d there h g =
    joined_for before after (λ q. list_any (is_beside q) (take i ids) || is_beside q (get_or ids i d))
    (λ q. list_any (is_beside q) (take (i + 1) ids)) (λ q s e. list_any_more (is_beside q) ids i d there ∙ e)
    (joined_twice before now after (λ q. list_any (is_beside q) (take i ids)) (λ q. is_beside q (get_or ids i d)) h g)
