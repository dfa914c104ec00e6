-- What changes of records keep.
use Rattle.std.proofs.Common.{◌≡◌, ℕ, ◌+◌, ◌-◌, ◌*◌, ◌%◌, ◌<◌, ◌≤◌, ◌≢◌, ◌⊎◌, inl, inr, List, [], ◌∷◌, ◌++◌}
use Rattle.std.proofs.Common.{length, get_or, set, true, false, refl, sym, ap, ◌∙◌, arith, length-append}
use Rattle.std.proofs.lemmas.List.{get_or-set_same, get_or-set_other, get_or_append_left, length-set}
use Rattle.std.proofs.Math.Seq.{get_or-append_seam}
use Rattle.std.proofs.lemmas.Bool.{cases_lt}
use Rattle.chr_portions.specs.declared.record.Record.{Record}
use Rattle.chr_portions.specs.declared.record.Hull.{Hull}
use Rattle.chr_portions.specs.declared.record.Sought.{Sought}
use Rattle.chr_portions.specs.declared.skips.Skip.{Skip}
use Rattle.chr_portions.specs.working.Skips.{no_record, record_at, IsInHull, IsSought, Covers, IsSkip, no_skip}
use Rattle.chr_portions.specs.working.Skips.{skip_at, AreSkips}
use Rattle.chr_portions.specs.working.Chains.{slot_of, IsNewest, AreNext, AreHeads, AreAlike}
use Rattle.chr_portions.specs.working.Placed.{AgreeBelow}

-- the first k records that live were alive before, and have the hash and values that they had
pub record IsKept (k : ℕ) (before after : List Record) : Type 0 where
  pub hash : (q : ℕ) → q < k → (record_at after q).hash ≡ (record_at before q).hash
  pub alive : (q : ℕ) → q < k → (record_at after q).alive ≡ true → (record_at before q).alive ≡ true
  pub first : (q : ℕ) → q < k → (record_at after q).first ≡ (record_at before q).first
  pub second : (q : ℕ) → q < k → (record_at after q).second ≡ (record_at before q).second

pub same_or : (m n : ℕ) → (m ≡ n) ⊎ (m ≢ n)
same_or m n = elim (cases_lt m n) as (λ _. (m ≡ n) ⊎ (m ≢ n)) [
  | inl less ↦ inr (λ e. (absurd (omega (arith, e, less))))
  | inr most ↦ elim (cases_lt n m) as (λ _. (m ≡ n) ⊎ (m ≢ n)) [
    | inl less ↦ inr (λ e. (absurd (omega (arith, e, less))))
    | inr least ↦ inl (omega arith)
  ]
]

pub alike_kept : (k : ℕ) (before after : List Record) → AreAlike before after → IsKept k before after
alike_kept k before after a = record {
  hash = λ q l. (a q).0;
  alive = λ q l e. (sym (a q).1 ∙ e);
  first = λ q l. (a q).3;
  second = λ q l. (a q).4;
}

pub agree_kept : (k : ℕ) (before after : List Record) → AgreeBelow k before after → IsKept k before after
agree_kept k before after a = record {
  hash = λ q l. ap (λ (r : Record). r.hash) (a q l);
  alive = λ q l e. (ap (λ (r : Record). r.alive) (sym (a q l)) ∙ e);
  first = λ q l. ap (λ (r : Record). r.first) (a q l);
  second = λ q l. ap (λ (r : Record). r.second) (a q l);
}

pub alike_self : (records : List Record) → AreAlike records records
alike_self records p = (refl, refl, refl, refl, refl)

pub alike_trans : (before middle after : List Record) → AreAlike before middle → AreAlike middle after
    → AreAlike before after
alike_trans before middle after a b p = (
  (b p).0 ∙ (a p).0,
  (b p).1 ∙ (a p).1,
  (b p).2 ∙ (a p).2,
  (b p).3 ∙ (a p).3,
  (b p).4 ∙ (a p).4,
)

pub sought_back : (s : Sought) (before after : List Record) (p : ℕ) → AreAlike before after
    → IsSought s (record_at after p) → IsSought s (record_at before p)
sought_back s before after p a w = (
  sym (a p).1 ∙ w.0,
  sym (a p).0 ∙ w.1,
  rw (a p).3 at w.2,
  rw (a p).4 at w.3,
)

pub sought_on : (s : Sought) (before after : List Record) (p : ℕ) → AreAlike before after
    → IsSought s (record_at before p) → IsSought s (record_at after p)
sought_on s before after p a w = (
  (a p).1 ∙ w.0,
  (a p).0 ∙ w.1,
  rw (← (a p).3) at w.2,
  rw (← (a p).4) at w.3,
)

module _ (n k : ℕ) (before after : List Record) (kept : IsKept k before after) where
  pub same_slot : (q : ℕ) → q < k → slot_of n after q ≡ slot_of n before q
  same_slot q l = ap (λ h. h % n) (kept.hash q l)

  pub newest_kept : (b s p : ℕ) → b ≤ k → IsNewest n before b s p → IsNewest n after b s p
  newest_kept b s p few i = record {
    within = i.within;
    of_slot = λ some. (let w = i.within in same_slot (p - 1) (omega (arith, w, some, few)) ∙ i.of_slot some);
    none_above = λ q l e live. (let less : q < k = omega (arith, l, few) in
        i.none_above q l (sym (same_slot q less) ∙ e) (kept.alive q less live));
  }

  pub next_kept : ((p : ℕ) → p < k → (record_at after p).next ≡ (record_at before p).next) → AreNext n before k
      → AreNext n after k
  next_kept same a p l =
      rw (same_slot p l, same p l)
      (newest_kept p (slot_of n before p) (record_at before p).next (omega (arith, l)) (a p l))

  pub in_hull : (h : Hull) (q : ℕ) → q < k → IsInHull h (record_at before q) → IsInHull h (record_at after q)
  in_hull h q l w = (
    rw (kept.hash q l) w.0,
    rw (kept.hash q l) w.1,
    rw (kept.first q l) w.2,
    rw (kept.second q l) w.3,
  )

  pub covers_kept : (from to : ℕ) (h : Hull) → to ≤ k → Covers before from to h → Covers after from to h
  covers_kept from to h few a p least most live =
      let less : p < k = omega (arith, most, few) in
      in_hull h p less (a p least most (kept.alive p less live))

  pub skip_kept : (b : ℕ) (s : Skip) → 8 * b + 8 ≤ k → IsSkip before b s → IsSkip after b s
  skip_kept b s few a = record {
    jump = a.jump;
    own = covers_kept (8 * b) (8 * b + 8) s.own few a.own;
    all = covers_kept (8 * s.jump) (8 * b + 8) s.all few a.all;
  }

  pub skips_kept : (skips : List Skip) (m : ℕ) → 8 * m ≤ k → AreSkips before skips m → AreSkips after skips m
  skips_kept skips m few a b l = skip_kept b (skip_at skips b) (omega (arith, few, l)) (a b l)

pub heads_kept : (k : ℕ) (before after : List Record) (heads : List ℕ) → IsKept k before after
    → AreHeads before heads k → AreHeads after heads k
heads_kept k before after heads kept a s l =
    newest_kept (length heads) k before after kept k s (get_or heads s 0) (omega arith) (a s l)

-- past a dead record the place after it takes its part
pub past_dead : (n : ℕ) (records : List Record) (bound slot at next : ℕ) → IsNewest n records bound slot at → 0 < at
    → (record_at records (at - 1)).alive ≡ false
    → IsNewest n records (at - 1) (slot_of n records (at - 1)) next → IsNewest n records bound slot next
past_dead n records bound slot at next a some dead b = record {
  within = (let w = a.within in let v = b.within in omega (arith, w, v, some));
  of_slot = λ p. (b.of_slot p ∙ a.of_slot some);
  none_above = λ q l e live. (let less = a.none_above q l e live in
      elim (cases_lt q (at - 1)) as (λ _. q < next) [
        | inl low ↦ b.none_above q low (e ∙ sym (a.of_slot some)) live
        | inr most ↦ (let is : q ≡ at - 1 = omega (arith, most, less) in
            let c : true ≡ false = sym live ∙ ap (λ p. (record_at records p).alive) is ∙ dead in cc)
      ]);
}

-- below a bound the place after a place takes its part
pub past : (n : ℕ) (records : List Record) (above bound slot at next : ℕ) → IsNewest n records above slot at
    → bound < at → IsNewest n records (at - 1) (slot_of n records (at - 1)) next
    → IsNewest n records (at - 1) slot next
past n records above bound slot at next a more b =
    let some : 0 < at = omega (arith, more) in record {
      within = b.within;
      of_slot = λ p. (b.of_slot p ∙ a.of_slot some);
      none_above = λ q l e live. b.none_above q l (e ∙ sym (a.of_slot some)) live;
    }

-- a slot gets another place
pub heads_set : (records : List Record) (heads : List ℕ) (k slot at : ℕ) → slot < length heads
    → AreHeads records heads k → IsNewest (length heads) records k slot at → AreHeads records (set heads slot at) k
heads_set records heads k slot at here a b s l =
    let size = length-set heads slot at in
    rw size (elim (same_or s slot) as (λ _. IsNewest (length heads) records k s (get_or (set heads slot at) s 0)) [
      | inl e ↦ rw (e, get_or-set_same heads slot at 0 here) b
      | inr d ↦ rw (get_or-set_other heads slot s at 0 d) (a s (omega (arith, l, size)))
    ])

-- a record that leads on to another place
pub alike_set : (records : List Record) (place : ℕ) (x : Record) → place < length records
    → x.hash ≡ (record_at records place).hash → x.alive ≡ (record_at records place).alive
    → x.row ≡ (record_at records place).row → x.first ≡ (record_at records place).first
    → x.second ≡ (record_at records place).second → AreAlike records (set records place x)
alike_set records place x here eh ea er ef es p =
    elim (same_or p place) as (λ _. ((record_at (set records place x) p).hash ≡ (record_at records p).hash)
    × ((record_at (set records place x) p).alive ≡ (record_at records p).alive)
    × ((record_at (set records place x) p).row ≡ (record_at records p).row)
    × ((record_at (set records place x) p).first ≡ (record_at records p).first)
    × ((record_at (set records place x) p).second ≡ (record_at records p).second)) [
      | inl e ↦ rw (e, get_or-set_same records place x no_record here) (eh, ea, er, ef, es)
      | inr d ↦ rw (get_or-set_other records place p x no_record d) (refl, refl, refl, refl, refl)
    ]

pub next_set : (n : ℕ) (records : List Record) (k place : ℕ) (x : Record) → place < length records
    → AreAlike records (set records place x) → AreNext n records k
    → IsNewest n records place (slot_of n records place) x.next → AreNext n (set records place x) k
next_set n records k place x here alike a b p l =
    let kept : IsKept (k + place + 1) records (set records place x) = alike_kept (k + place + 1) _ _ alike in
    elim (same_or p place) as (λ _. IsNewest n (set records place x) p (slot_of n (set records place x) p)
    (record_at (set records place x) p).next) [
      | inl e ↦ rw (
        e,
        same_slot n _ records _ kept place (omega arith),
        ap (λ (r : Record). r.next) (get_or-set_same records place x no_record here),
      )
          (newest_kept n _ records _ kept place (slot_of n records place) x.next (omega arith) b)
      | inr d ↦ rw (
        same_slot n _ records _ kept p (omega (arith, l)),
        ap (λ (r : Record). r.next) (get_or-set_other records place p x no_record d),
      )
          (newest_kept n _ records _ kept p (slot_of n records p) (record_at records p).next (omega (arith, l)) (a p l))
    ]

-- a block gets another skip
pub skips_set : (records : List Record) (skips : List Skip) (m block : ℕ) (x : Skip) → block < length skips
    → AreSkips records skips m → IsSkip records block x → AreSkips records (set skips block x) m
skips_set records skips m block x here a i b l =
    elim (same_or b block) as (λ _. IsSkip records b (skip_at (set skips block x) b)) [
      | inl e ↦ rw (e, get_or-set_same skips block x no_skip here) i
      | inr d ↦ rw (get_or-set_other skips block b x no_skip d) (a b l)
    ]

-- one skip more
pub skips_more : (records : List Record) (skips : List Skip) (m : ℕ) (x : Skip) → length skips ≡ m
    → AreSkips records skips (length skips) → IsSkip records m x
    → AreSkips records (skips ++ x ∷ []) (length (skips ++ x ∷ []))
skips_more records skips m x e a i b l =
    let longer : length (skips ++ x ∷ []) ≡ length skips + 1 = length-append skips (x ∷ []) in
    elim (cases_lt b (length skips)) as (λ _. IsSkip records b (skip_at (skips ++ x ∷ []) b)) [
      | inl less ↦ rw (get_or_append_left skips (x ∷ []) no_skip b less) (a b less)
      | inr most ↦ (let is : b ≡ length skips = omega (arith, most, l, longer) in
          rw (is, get_or-append_seam skips x [] no_skip, e) i)
    ]
