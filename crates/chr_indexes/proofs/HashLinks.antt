-- What a change of one place keeps of a chain.
use Rattle.std.proofs.Common.{◌≡◌, ℕ, zero, suc, ◌+◌, ◌-◌, ◌<◌, ◌≤◌, ◌≢◌, ◌^◌, ◌⊎◌, inl, inr, List, [], ◌∷◌, ◌++◌}
use Rattle.std.proofs.Common.{length, get_or, set, Bool, true, false, sym, ap, ◌∙◌, arith, length-append, refl}
use Rattle.std.proofs.lemmas.List.{get_or-set_same, get_or-set_other, length-set, get_or_append_left}
use Rattle.std.proofs.Math.Seq.{get_or-append_seam}
use Rattle.std.proofs.lemmas.Bool.{cases_lt}
use Rattle.chr_indexes.specs.working.HashChains.{IsChained}

same_or : (m n : ℕ) → (m ≡ n) ⊎ (m ≢ n)
same_or m n = elim (cases_lt m n) as (λ _. (m ≡ n) ⊎ (m ≢ n)) [
  | inl less ↦ inr (λ e. (absurd (omega (arith, e, less))))
  | inr most ↦ elim (cases_lt n m) as (λ _. (m ≡ n) ⊎ (m ≢ n)) [
    | inl less ↦ inr (λ e. (absurd (omega (arith, e, less))))
    | inr least ↦ inl (omega arith)
  ]
]

-- a place after one write
at_set : (xs : List ℕ) (i j y : ℕ) → i < length xs → ((j ≡ i) × (get_or (set xs i y) j 0 ≡ y))
    ⊎ ((j ≢ i) × (get_or (set xs i y) j 0 ≡ get_or xs j 0))
at_set xs i j y l = elim (same_or j i) as (λ _. ((j ≡ i) × (get_or (set xs i y) j 0 ≡ y))
    ⊎ ((j ≢ i) × (get_or (set xs i y) j 0 ≡ get_or xs j 0))) [
      | inl e ↦ inl (e, ap (λ k. get_or (set xs i y) k 0) e ∙ get_or-set_same xs i y 0 l)
      | inr d ↦ inr (d, get_or-set_other xs i j y 0 d)
    ]

-- a live row is not a dead one
pub live_not : (alive : List Bool) (r d : ℕ) → get_or alive r false ≡ true → get_or alive d false ≡ false → r ≢ d
live_not alive r d a b e = let c : true ≡ false = sym a ∙ ap (λ k. get_or alive k false) e ∙ b in cc

-- a row that lives after another died
lives_before : (alive : List Bool) (r q : ℕ) → get_or (set alive r false) q false ≡ true → get_or alive q false ≡ true
lives_before [] r q e = e
lives_before (b ∷ alive) zero zero e = cc
lives_before (b ∷ alive) zero (suc q) e = e
lives_before (b ∷ alive) (suc r) zero e = e
lives_before (b ∷ alive) (suc r) (suc q) e = lives_before alive r q e

-- a row dies
pub killed : (slots : List ℕ) (alive : List Bool) (links heads : List ℕ) (d : ℕ) → IsChained slots alive links heads
    → IsChained slots (set alive d false) links heads
killed slots alive links heads d c = record {
  as_links = c.as_links;
  as_alive = length-set alive d false ∙ c.as_alive;
  few = c.few;
  in_heads = c.in_heads;
  first = λ r g live. c.first r g (lives_before alive d r live);
  next = λ r q g under same live. c.next r q g under same (lives_before alive d q live);
  first_slot = c.first_slot;
  next_slot = c.next_slot;
  first_in = c.first_in;
  next_in = c.next_in;
}

-- the newest place of a slot holds a dead row: the place after it takes its part
pub skip_head : (slots : List ℕ) (alive : List Bool) (links heads : List ℕ) (s h : ℕ)
    → IsChained slots alive links heads → s < length heads → h ≡ get_or heads s 0 → 0 < h
    → get_or alive (h - 1) false ≡ false → IsChained slots alive links (set heads s (get_or links (h - 1) 0))
skip_head slots alive links heads s h c l e p dead =
    let hin : h ≤ length slots = (let a = c.first_in s l in omega (arith, a, e)) in
    let hslot : get_or slots (h - 1) 0 ≡ s = ap (λ k. get_or slots (k - 1) 0) e
    ∙ c.first_slot s l (omega (arith, e, p)) in
    let low : h - 1 < length slots = omega (arith, hin, p) in
    let down : get_or links (h - 1) 0 ≤ h - 1 = c.next_in (h - 1) low in
    record {
      as_links = c.as_links;
      as_alive = c.as_alive;
      few = c.few;
      in_heads = λ r g. (let a = c.in_heads r g in let b = length-set heads s (get_or links (h - 1) 0) in
          omega (arith, a, b));
      first = λ r g live. (elim (at_set heads s (get_or slots r 0) (get_or links (h - 1) 0) l) as (λ _. r < get_or
          (set heads s (get_or links (h - 1) 0)) (get_or slots r 0) 0) [
            | inl w ↦ (let a = c.first r g live in let a2 : r < h =
                (let k = ap (λ k. get_or heads k 0) w.0 in omega (arith, a, k, e)) in
                let d = live_not alive r (h - 1) live dead in
                let b = c.next (h - 1) r low (omega (arith, a2, d)) (w.0 ∙ sym hslot) live in let v = w.1 in
                omega (arith, b, v))
            | inr w ↦ (let a = c.first r g live in let v = w.1 in omega (arith, a, v))
          ]);
      next = c.next;
      first_slot = λ t g q. (elim (at_set heads s t (get_or links (h - 1) 0) l) as (λ _. get_or slots
          (get_or (set heads s (get_or links (h - 1) 0)) t 0 - 1) 0 ≡ t) [
            | inl w ↦ (let v = w.1 in ap (λ k. get_or slots (k - 1) 0) v ∙ c.next_slot (h - 1) low (omega (arith, q, v))
                ∙ hslot ∙ sym w.0)
            | inr w ↦ (let v = w.1 in let b = length-set heads s (get_or links (h - 1) 0) in
                ap (λ k. get_or slots (k - 1) 0) v ∙ c.first_slot t (omega (arith, g, b)) (omega (arith, q, v)))
          ]);
      next_slot = c.next_slot;
      first_in = λ t g. (elim (at_set heads s t (get_or links (h - 1) 0) l) as (λ _. get_or
          (set heads s (get_or links (h - 1) 0)) t 0 ≤ length slots) [
            | inl w ↦ (let v = w.1 in omega (arith, v, down, hin))
            | inr w ↦ (let v = w.1 in let b = length-set heads s (get_or links (h - 1) 0) in let a =
                c.first_in t (omega (arith, g, b)) in omega (arith, a, v))
          ]);
      next_in = c.next_in;
    }

-- the place after a row holds a dead row: the place after that takes its part
pub skip_link : (slots : List ℕ) (alive : List Bool) (links heads : List ℕ) (r h : ℕ)
    → IsChained slots alive links heads → r < length slots → h ≡ get_or links r 0 → 0 < h
    → get_or alive (h - 1) false ≡ false → IsChained slots alive (set links r (get_or links (h - 1) 0)) heads
skip_link slots alive links heads r h c l e p dead =
    let hin : h ≤ r = (let a = c.next_in r l in omega (arith, a, e)) in
    let low : h - 1 < length slots = omega (arith, hin, p, l) in
    let hslot : get_or slots (h - 1) 0 ≡ get_or slots r 0 = ap (λ k. get_or slots (k - 1) 0) e
    ∙ c.next_slot r l (omega (arith, e, p)) in
    let down : get_or links (h - 1) 0 ≤ h - 1 = c.next_in (h - 1) low in
    let lr : r < length links = (let a = c.as_links in omega (arith, a, l)) in
    record {
      as_links = length-set links r (get_or links (h - 1) 0) ∙ c.as_links;
      as_alive = c.as_alive;
      few = c.few;
      in_heads = c.in_heads;
      first = c.first;
      next = λ t q g under same live. (elim (at_set links r t (get_or links (h - 1) 0) lr) as (λ _. q < get_or
          (set links r (get_or links (h - 1) 0)) t 0) [
            | inl w ↦ (let is = w.0 in let v = w.1 in
                let here : get_or slots q 0 ≡ get_or slots r 0 = same ∙ ap (λ k. get_or slots k 0) is in
                let a = c.next r q l (omega (arith, under, is)) here live in
                let d = live_not alive q (h - 1) live dead in
                let b = c.next (h - 1) q low (omega (arith, a, e, d)) (here ∙ sym hslot) live in omega (arith, b, v))
            | inr w ↦ (let v = w.1 in let a = c.next t q g under same live in omega (arith, a, v))
          ]);
      first_slot = c.first_slot;
      next_slot = λ t g q. (elim (at_set links r t (get_or links (h - 1) 0) lr) as (λ _. get_or slots
          (get_or (set links r (get_or links (h - 1) 0)) t 0 - 1) 0 ≡ get_or slots t 0) [
            | inl w ↦ (let v = w.1 in ap (λ k. get_or slots (k - 1) 0) v ∙ c.next_slot (h - 1) low (omega (arith, q, v))
                ∙ hslot ∙ sym (ap (λ k. get_or slots k 0) w.0))
            | inr w ↦ (let v = w.1 in ap (λ k. get_or slots (k - 1) 0) v ∙ c.next_slot t g (omega (arith, q, v)))
          ]);
      first_in = c.first_in;
      next_in = λ t g. (elim (at_set links r t (get_or links (h - 1) 0) lr) as (λ _. get_or
          (set links r (get_or links (h - 1) 0)) t 0 ≤ t) [
            | inl w ↦ (let is = w.0 in let v = w.1 in omega (arith, v, down, hin, is))
            | inr w ↦ (let v = w.1 in let a = c.next_in t g in omega (arith, a, v))
          ]);
    }

-- a place of a list with one item more
at_end : {X : Type 0} (xs : List X) (y d : X) (i : ℕ) → i < length xs + 1
    → ((i ≡ length xs) × (get_or (xs ++ y ∷ []) i d ≡ y))
    ⊎ ((i < length xs) × (get_or (xs ++ y ∷ []) i d ≡ get_or xs i d))
at_end xs y d i l = elim (cases_lt i (length xs)) as (λ _. ((i ≡ length xs) × (get_or (xs ++ y ∷ []) i d ≡ y))
    ⊎ ((i < length xs) × (get_or (xs ++ y ∷ []) i d ≡ get_or xs i d))) [
      | inl less ↦ inr (less, get_or_append_left xs (y ∷ []) d i less)
      | inr most ↦ (let e : i ≡ length xs = omega (arith, most, l) in
          inl (e, ap (λ k. get_or (xs ++ y ∷ []) k d) e ∙ get_or-append_seam xs y [] d))
    ]

pub skip_head_to : (slots : List ℕ) (alive : List Bool) (links heads : List ℕ) (s h x : ℕ)
    → IsChained slots alive links heads → s < length heads → h ≡ get_or heads s 0 → 0 < h
    → get_or alive (h - 1) false ≡ false → x ≡ get_or links (h - 1) 0 → IsChained slots alive links (set heads s x)
skip_head_to slots alive links heads s h x c l e p dead is = rw is (skip_head slots alive links heads s h c l e p dead)

pub skip_link_to : (slots : List ℕ) (alive : List Bool) (links heads : List ℕ) (r h x : ℕ)
    → IsChained slots alive links heads → r < length slots → h ≡ get_or links r 0 → 0 < h
    → get_or alive (h - 1) false ≡ false → x ≡ get_or links (h - 1) 0 → IsChained slots alive (set links r x) heads
skip_link_to slots alive links heads r h x c l e p dead is = rw is (skip_link slots alive links heads r h c l e p dead)

-- one more row, the newest of its slot
pub pushed : (slots : List ℕ) (alive : List Bool) (links heads : List ℕ) (s n x : ℕ) (flag : Bool)
    → IsChained slots alive links heads → s < length heads → length slots + 1 < 2 ^ 32 → n ≡ length slots + 1
    → x ≡ get_or heads s 0
    → IsChained (slots ++ s ∷ []) (alive ++ flag ∷ []) (links ++ x ∷ []) (set heads s n)
pushed slots alive links heads s n x flag c l room en is =
    let big : length (slots ++ s ∷ []) ≡ length slots + 1 = length-append slots (s ∷ []) in
    let xin : x ≤ length slots = (let a = c.first_in s l in omega (arith, a, is)) in
    let heads_len : length (set heads s n) ≡ length heads = length-set heads s n in
    let la = c.as_links in
    let aa = c.as_alive in
    record {
      as_links = (let a = length-append links (x ∷ []) in omega (arith, a, big, la));
      as_alive = (let a = length-append alive (flag ∷ []) in omega (arith, a, big, aa));
      few = omega (arith, big, room);
      in_heads = λ r g. (elim (at_end slots s 0 r (omega (arith, g, big))) as (λ _. get_or
          (slots ++ s ∷ []) r 0 < length (set heads s n)) [
            | inl w ↦ (let v = w.1 in omega (arith, v, l, heads_len))
            | inr w ↦ (let v = w.1 in let a = c.in_heads r w.0 in omega (arith, v, a, heads_len))
          ]);
      first = λ r g live. (elim (at_set heads s (get_or (slots ++ s ∷ []) r 0) n l) as (λ _. r < get_or (set heads s n)
          (get_or (slots ++ s ∷ []) r 0) 0) [
            | inl w ↦ (let v = w.1 in omega (arith, v, g, big, en))
            | inr w ↦ elim (at_end slots s 0 r (omega (arith, g, big))) as (λ _. r < get_or (set heads s n)
                (get_or (slots ++ s ∷ []) r 0) 0) [
                  | inl u ↦ absurd (w.0 u.1)
                  | inr u ↦ (let v = w.1 in let old = c.first r u.0
                      (sym (get_or_append_left alive (flag ∷ []) false r (let b = u.0 in omega (arith, b, aa)))
                      ∙ live) in
                      let k = ap (λ k. get_or heads k 0) u.1 in omega (arith, v, old, k))
                ]
          ]);
      next = λ r q g under same live. (
          let qin : q < length slots = omega (arith, g, under, big) in
          let qs : get_or (slots ++ s ∷ []) q 0 ≡ get_or slots q 0 = get_or_append_left slots (s ∷ []) 0 q qin in
          let ql : get_or alive q false ≡ true = sym (get_or_append_left alive (flag ∷ []) false q
          (omega (arith, qin, aa))) ∙ live in
          elim (at_end slots s 0 r (omega (arith, g, big))) as (λ _. q < get_or (links ++ x ∷ []) r 0) [
            | inl u ↦ (let old = c.first q qin ql in
                let k : get_or heads (get_or slots q 0) 0 ≡ x = ap (λ k. get_or heads k 0) (sym qs ∙ same ∙ u.1)
                ∙ sym is in
                let v : get_or (links ++ x ∷ []) r 0 ≡ x = ap (λ k. get_or (links ++ x ∷ []) k 0) (u.0 ∙ sym la)
                ∙ get_or-append_seam links x [] 0 in omega (arith, old, k, v))
            | inr u ↦ (let old = c.next r q u.0 under (sym qs ∙ same ∙ u.1) ql in
                let v = get_or_append_left links (x ∷ []) 0 r (let b = u.0 in omega (arith, b, la)) in
                omega (arith, old, v))
          ]);
      first_slot = λ t g p. (elim (at_set heads s t n l) as (λ _. get_or (slots ++ s ∷ [])
          (get_or (set heads s n) t 0 - 1) 0 ≡ t) [
            | inl w ↦ (let v = w.1 in let at : get_or (set heads s n) t 0 - 1 ≡ length slots = omega (arith, v, en) in
                ap (λ k. get_or (slots ++ s ∷ []) k 0) at ∙ get_or-append_seam slots s [] 0 ∙ sym w.0)
            | inr w ↦ (let v = w.1 in let tin : t < length heads = omega (arith, g, heads_len) in let a =
                c.first_in t tin in
                ap (λ k. get_or (slots ++ s ∷ []) (k - 1) 0) v ∙ get_or_append_left slots (s ∷ []) 0
                (get_or heads t 0 - 1)
                (omega (arith, a, p, v)) ∙ c.first_slot t tin (omega (arith, p, v)))
          ]);
      next_slot = λ r g p. (elim (at_end slots s 0 r (omega (arith, g, big))) as (λ _. get_or (slots ++ s ∷ [])
          (get_or (links ++ x ∷ []) r 0 - 1) 0 ≡ get_or (slots ++ s ∷ []) r 0) [
            | inl u ↦ (let v : get_or (links ++ x ∷ []) r 0 ≡ x = ap (λ k. get_or (links ++ x ∷ []) k 0) (u.0 ∙ sym la)
                ∙ get_or-append_seam links x [] 0 in
                ap (λ k. get_or (slots ++ s ∷ []) (k - 1) 0) (v ∙ is) ∙ get_or_append_left slots (s ∷ []) 0
                (get_or heads s 0 - 1) (omega (arith, xin, is, v, p)) ∙ c.first_slot s l (omega (arith, p, v, is))
                ∙ sym u.1)
            | inr u ↦ (let rin = u.0 in let v = get_or_append_left links (x ∷ []) 0 r (omega (arith, rin, la)) in
                let a =
                c.next_in r rin in
                ap (λ k. get_or (slots ++ s ∷ []) (k - 1) 0) v ∙ get_or_append_left slots (s ∷ []) 0
                (get_or links r 0 - 1)
                (omega (arith, a, rin, p, v)) ∙ c.next_slot r rin (omega (arith, p, v)) ∙ sym u.1)
          ]);
      first_in = λ t g. (elim (at_set heads s t n l) as (λ _. get_or (set heads s n) t 0 ≤ length (slots ++ s ∷ [])) [
        | inl w ↦ (let v = w.1 in omega (arith, v, en, big))
        | inr w ↦ (let v = w.1 in let a = c.first_in t (omega (arith, g, heads_len)) in omega (arith, v, a, big))
      ]);
      next_in = λ r g. (elim (at_end slots s 0 r (omega (arith, g, big))) as (λ _. get_or (links ++ x ∷ []) r 0 ≤ r) [
        | inl u ↦ (let v : get_or (links ++ x ∷ []) r 0 ≡ x = ap (λ k. get_or (links ++ x ∷ []) k 0) (u.0 ∙ sym la)
            ∙ get_or-append_seam links x [] 0 in let b = u.0 in omega (arith, v, b, xin))
        | inr u ↦ (let rin = u.0 in let v = get_or_append_left links (x ∷ []) 0 r (omega (arith, rin, la)) in let a =
            c.next_in r rin in omega (arith, v, a))
      ]);
    }
