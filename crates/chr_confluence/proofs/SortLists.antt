-- The lists of each kind cover, and all combinations of them cover all sorts.
use Rattle.std.specs.List.{zip}
use Rattle.std.specs.Prelude.{◌≡◌, ℕ, suc, ℤ, pos, ◌≤◌, true, false, cond, nat_eq, ◌↔◌, ◌⊎◌, List, [], ◌∷◌, length}
use Rattle.std.proofs.Common.{refl, sym, ap, subst, ◌∙◌, inl, inr, arith}
use Rattle.std.proofs.lemmas.Bool.{eqb-true}
use Rattle.std.specs.Ordering.{int_eq}
use Rattle.chr_types.specs.OrderTypes.{In, RisesBy, AreValues}
use Rattle.chr_types.specs.working.Search.{has}
use Rattle.chr_types.proofs.Holes.{has_in, has_not, same_yes, same_no}
use Rattle.chr_confluence.specs.Sorts.{Sorts}
use Rattle.chr_confluence.specs.SortLists.{StandsAt, StandsFor, CoverAt, AreBlocks, values_at, sort_count}
use Rattle.chr_confluence.specs.laws.SortedLists.{NewValuesCover, BlocksCover, OrderTypesCover, CombinationsCover}
use Rattle.chr_confluence.proofs.SortStanding.{at_most}

-- ---- one list for a free sort

in_zip : (us vs : List ℤ) (p : ℤ × ℤ) → In p (zip us vs) → In p.0 us
in_zip [] vs p i = absurd i
in_zip (u ∷ us) [] p i = absurd i
in_zip (u ∷ us) (v ∷ vs) p (inl e) = inl (ap (λ (q : ℤ × ℤ). q.0) e)
in_zip (u ∷ us) (v ∷ vs) p (inr i) = inr (in_zip us vs p i)

-- a value that stands once has one partner
one_partner : (us vs : List ℤ) → RisesBy (λ x y. ¬ (x ≡ y)) us → (p q : ℤ × ℤ) → In p (zip us vs) → In q (zip us vs)
    → p.0 ≡ q.0 → p.1 ≡ q.1
one_partner [] vs d p q i j e = absurd i
one_partner (u ∷ us) [] d p q i j e = absurd i
one_partner (u ∷ us) (v ∷ vs) d p q (inl i) (inl j) e = ap (λ (r : ℤ × ℤ). r.1) (i ∙ sym j)
one_partner (u ∷ us) (v ∷ vs) d p q (inl i) (inr j) e =
    absurd (d.0 q.0 (in_zip us vs q j) (sym (ap (λ (r : ℤ × ℤ). r.0) i) ∙ e))
one_partner (u ∷ us) (v ∷ vs) d p q (inr i) (inl j) e =
    absurd (d.0 p.0 (in_zip us vs p i) (sym (ap (λ (r : ℤ × ℤ). r.0) j) ∙ sym e))
one_partner (u ∷ us) (v ∷ vs) d p q (inr i) (inr j) e = one_partner us vs d.1 p q i j e

pub new_values_cover : NewValuesCover
new_values_cover cs us new vs count values = (
  us,
  inl refl,
  record {
    count = sym count;
    classes = one_partner us vs new.0;
    against = λ p c i j e. absurd (new.1 p.0 (in_zip us vs p i) (subst (λ z. In z cs) (sym e) j));
  },
)

pub order_types_cover : OrderTypesCover
order_types_cover cs n rs types vs count values = types.complete vs count values

-- ---- blocks

-- the first parts of the two pairs are equal just where their second parts are
abbrev Together : ℤ × ℤ → ℤ × ℤ → Type 0
Together p q = (p.0 ≡ q.0) ↔ (p.1 ≡ q.1)

-- the pair is of a constant twice, or of two values that are no constants
abbrev IsProper : List ℤ → ℤ × ℤ → Type 0
IsProper cs p = (In p.0 cs × (p.0 ≡ p.1)) ⊎ ((In p.0 cs → ⊥) × (In p.1 cs → ⊥))

turned : (p q : ℤ × ℤ) → Together p q → Together q p
turned p q h = (λ e. sym (h.0 (sym e)), λ e. sym (h.1 (sym e)))

itself : (p : ℤ × ℤ) → Together p p
itself p = (λ e. refl, λ e. refl)

-- a pair of a constant and another proper pair are equal in both parts or in none
constant_beside : (cs : List ℤ) (v : ℤ) (q : ℤ × ℤ) → In v cs → IsProper cs q → Together (v, v) q
constant_beside cs v q i (inl h) = (λ e. e ∙ h.1, λ e. e ∙ sym h.1)
constant_beside cs v q i (inr h) = (
  λ e. absurd (h.0 (subst (λ z. In z cs) e i)),
  λ e. absurd (h.1 (subst (λ z. In z cs) e i)),
)

proper_against : (cs : List ℤ) (p : ℤ × ℤ) (c : ℤ) → IsProper cs p → In c cs → (p.0 ≡ c) ↔ (p.1 ≡ c)
proper_against cs p c (inl h) i = (λ e. sym h.1 ∙ e, λ e. h.1 ∙ e)
proper_against cs p c (inr h) i = (
  λ e. absurd (h.0 (subst (λ z. In z cs) (sym e) i)),
  λ e. absurd (h.1 (subst (λ z. In z cs) (sym e) i)),
)

-- the first parts of pairs
abbrev firsts : List (ℤ × ℤ) → List ℤ
firsts [] = []
firsts (p ∷ ps) = p.0 ∷ firsts ps

in_firsts : (p : ℤ × ℤ) (ps : List (ℤ × ℤ)) → In p ps → In p.0 (firsts ps)
in_firsts p [] i = absurd i
in_firsts p (q ∷ ps) (inl e) = inl (ap (λ (r : ℤ × ℤ). r.0) e)
in_firsts p (q ∷ ps) (inr i) = inr (in_firsts p ps i)

-- the pair that has the value as its second part, or none
find : (v : ℤ) (ps : List (ℤ × ℤ)) → ((p : ℤ × ℤ) × In p ps × (v ≡ p.1)) ⊎ ((p : ℤ × ℤ) → In p ps → v ≡ p.1 → ⊥)
find v [] = inr (λ p i e. i)
find v (q ∷ ps) = elim (int_eq v q.1) as (λ b. int_eq v q.1 ≡ b → ((p : ℤ × ℤ) × In p (q ∷ ps) × (v ≡ p.1))
    ⊎ ((p : ℤ × ℤ) → In p (q ∷ ps) → v ≡ p.1 → ⊥)) [
      | true ↦ λ e. inl (q, inl refl, same_yes v q.1 e)
      | false ↦ λ e. elim (find v ps) as (λ _. ((p : ℤ × ℤ) × In p (q ∷ ps) × (v ≡ p.1))
          ⊎ ((p : ℤ × ℤ) → In p (q ∷ ps) → v ≡ p.1 → ⊥)) [
            | inl w ↦ inl (w.0, inr w.1, w.2)
            | inr n ↦ inr (λ p i h. elim i as (λ _. ⊥) [
              | inl k ↦ same_no v q.1 e (h ∙ ap (λ (r : ℤ × ℤ). r.1) k)
              | inr j ↦ n p j
                  h
            ])
          ]
    ] refl

-- the blocks begun so far, each with the value that it stands for
record AreBegun (cs ns : List ℤ) (seen : List (ℤ × ℤ)) : Type 0 where
  together : (p q : ℤ × ℤ) → In p seen → In q seen → Together p q
  others : (p : ℤ × ℤ) → In p seen → (In p.0 cs → ⊥) × (In p.1 cs → ⊥)
  apart : (p : ℤ × ℤ) → In p seen → In p.0 ns → ⊥

-- blocks for the values vs
record Blocks (cs ns : List ℤ) (seen : List (ℤ × ℤ)) (vs : List ℤ) : Type 0 where
  us : List ℤ
  count : length us ≡ length vs
  blocks : AreBlocks cs (firsts seen) ns us
  proper : (p : ℤ × ℤ) → In p (zip us vs) → IsProper cs p
  together : (p q : ℤ × ℤ) → In p (zip us vs) → In q (zip us vs) → Together p q
  beside : (p q : ℤ × ℤ) → In p (zip us vs) → In q seen → Together p q

-- one value more, whose pair is proper, and which is equal in both parts or in none to each pair before and after
more_blocks : (cs ns : List ℤ) (seen : List (ℤ × ℤ)) (u v : ℤ) (vs : List ℤ) (ns' : List ℤ) (seen' : List (ℤ × ℤ))
    (b : Blocks cs ns' seen' vs) → AreBlocks cs (firsts seen) ns (u ∷ b.us) → IsProper cs (u, v)
    → ((q : ℤ × ℤ) → In q (zip b.us vs) → Together (u, v) q) → ((q : ℤ × ℤ) → In q seen → Together (u, v) q)
    → ((q : ℤ × ℤ) → In q seen → In q seen') → Blocks cs ns seen (v ∷ vs)
more_blocks cs ns seen u v vs ns' seen' b blocks proper later before sub = record {
  us = u ∷ b.us;
  count = ap suc b.count;
  blocks = blocks;
  proper = λ p i. elim i as (λ _. IsProper cs p) [ inl e ↦ subst (IsProper cs) (sym e) proper | inr j ↦ b.proper p j ];
  together = λ p q i j. elim i as (λ _. Together p q) [
    | inl e ↦ elim j as (λ _. Together p q) [
      | inl g ↦ subst (Together p) (e ∙ sym g) (itself p)
      | inr k ↦ subst (λ z. Together z q) (sym e) (later q k)
    ]
    | inr h ↦ elim j as (λ _. Together p q) [
      | inl g ↦ subst (Together p) (sym g) (turned (u, v) p (later p h))
      | inr k ↦ b.together p q h k
    ]
  ];
  beside = λ p q i j. elim i as (λ _. Together p q) [
    | inl e ↦ subst (λ z. Together z q) (sym e)
        (before q j)
    | inr h ↦ b.beside p q h (sub q j)
  ];
}

-- a value of a block before, or a constant
old_block : (cs before ns : List ℤ) (z : ℤ) (zs : List ℤ) → In z cs ⊎ In z before → AreBlocks cs before ns zs
    → AreBlocks cs before ns (z ∷ zs)
old_block cs before [] z zs h b = (h, b)
old_block cs before (n ∷ ns) z zs h b = inl (h, b)

abbrev Differ : List ℤ → Type 0
Differ ns = RisesBy (λ x y. ¬ (x ≡ y)) ns

abbrev BlocksFor : List ℤ → List ℤ → Type 0
BlocksFor cs vs = (ns : List ℤ) (seen : List (ℤ × ℤ)) → Differ ns → ((z : ℤ) → In z ns → ¬ In z cs)
    → length vs ≤ length ns → AreBegun cs ns seen → Blocks cs ns seen vs

-- a value that is no constant and has no block yet begins the next one
new_block : (cs : List ℤ) (v : ℤ) (vs : List ℤ) → BlocksFor cs vs → (In v cs → ⊥) → (ns : List ℤ) (seen : List (ℤ × ℤ))
    → Differ ns → ((z : ℤ) → In z ns → ¬ In z cs) → suc (length vs) ≤ length ns → AreBegun cs ns seen
    → ((p : ℤ × ℤ) → In p seen → v ≡ p.1 → ⊥) → Blocks cs ns seen (v ∷ vs)
new_block cs v vs rec plain [] seen differ new l begun none = absurd (omega (arith, l))
new_block cs v vs rec plain (n ∷ ns) seen differ new l begun none =
    let b = rec ns ((n, v) ∷ seen) differ.1 (λ z i. new z (inr i)) (omega (arith, l)) begun' in
    more_blocks cs (n ∷ ns) seen n v vs ns ((n, v) ∷ seen) b (inr (refl, b.blocks)) (inr (new n (inl refl), plain))
    (λ q i. turned q (n, v) (b.beside q (n, v) i (inl refl))) fresh (λ q i. inr i)
  where
    fresh : (q : ℤ × ℤ) → In q seen → Together (n, v) q
    fresh q i = (λ h. absurd (begun.apart q i (inl (sym h))), λ h. absurd (none q i h))

    begun' : AreBegun cs ns ((n, v) ∷ seen)
    begun' = record {
      together = λ p q i j. elim i as (λ _. Together p q) [
        | inl e ↦ elim j as (λ _. Together p q) [
          | inl g ↦ subst (Together p) (e ∙ sym g) (itself p)
          | inr k ↦ subst
              (λ z. Together z q) (sym e) (fresh q k)
        ]
        | inr h ↦ elim j as (λ _. Together p q) [
          | inl g ↦ subst (Together p) (sym g) (turned (n, v) p (fresh p h))
          | inr
              k ↦ begun.together p q h k
        ]
      ];
      others = λ p i. elim i as (λ _. (In p.0 cs → ⊥) × (In p.1 cs → ⊥)) [
        | inl e ↦ subst (λ (z : ℤ × ℤ). (In z.0 cs → ⊥) × (In z.1 cs → ⊥)) (sym e) (new n (inl refl), plain)
        | inr h ↦
            begun.others p h
      ];
      apart = λ p i j. elim i as (λ _. ⊥) [
        | inl e ↦ differ.0 p.0 j (sym (ap (λ (z : ℤ × ℤ). z.0) e))
        | inr h ↦
            begun.apart p h (inr j)
      ];
    }

next_value : (cs : List ℤ) (v : ℤ) (vs : List ℤ) → BlocksFor cs vs → BlocksFor cs (v ∷ vs)
next_value cs v vs rec ns seen differ new l begun =
    elim (has v cs) as (λ b. has v cs ≡ b → Blocks cs ns seen (v ∷ vs)) [
      | true ↦ λ e. (let i = has_in v cs e in let b = rec ns seen differ new (omega (arith, l)) begun in
          more_blocks cs ns seen v v vs ns seen b (old_block cs (firsts seen) ns v b.us (inl i) b.blocks)
          (inl (i, refl))
          (λ q j. constant_beside cs v q i (b.proper q j)) (λ q j. constant_beside cs v q i (inr (begun.others q j)))
          (λ q j. j))
      | false ↦ λ e. elim (find v seen) as (λ _. Blocks cs ns seen (v ∷ vs)) [
        | inl w ↦ (let b = rec ns seen differ new (omega (arith, l)) begun in
            let k : (w.0.0, v) ≡ w.0 = λ i. (w.0.0, w.2 i) in
            more_blocks cs ns seen w.0.0 v vs ns seen b (old_block cs (firsts seen) ns w.0.0 b.us
            (inr (in_firsts w.0 seen w.1)) b.blocks)
            (inr ((begun.others w.0 w.1).0, has_not v cs e))
            (λ q j. subst (λ z. Together z q) (sym k) (turned q w.0 (b.beside q w.0 j w.1)))
            (λ q j. subst (λ z. Together z q) (sym k) (begun.together w.0 q w.1 j)) (λ q j. j))
        | inr n ↦ new_block cs v vs rec (has_not v cs e) ns seen differ new l begun n
      ]
    ] refl

blocks_for : (cs vs : List ℤ) → BlocksFor cs vs
blocks_for cs [] ns seen differ new l begun = record {
  us = [];
  count = refl;
  blocks = tt;
  proper = λ p i. absurd i;
  together = λ p q i j. absurd i;
  beside = λ p q i j. absurd i;
}
blocks_for cs (v ∷ vs) ns seen differ new l begun = next_value cs v vs (blocks_for cs vs) ns seen differ new l begun

pub blocks_cover : BlocksCover
blocks_cover cs ns n rs new l all vs count values =
    let b = blocks_for cs vs ns [] new.0 new.1 (omega (arith, count, l))
    (record { together = λ p q i j. absurd i; others = λ p i. absurd i; apart = λ p i j. i }) in (
      b.us,
      all b.us (b.count ∙ count) b.blocks,
      record {
        count = b.count;
        classes = b.together;
        against =
            λ p c i j. proper_against cs p c (b.proper p i) j;
      },
    )

-- ---- combinations

-- the values of each sort in their places
first : List ℤ → ℤ
first [] = pos 0
first (z ∷ zs) = z

rest : List ℤ → List ℤ
rest [] = []
rest (z ∷ zs) = zs

merge : List ℕ → (ℕ → List ℤ) → List ℤ
merge [] f = []
merge (j ∷ ks) f = first (f j) ∷ merge ks (λ k. cond (nat_eq j k) (rest (f k)) (f k))

length-rest : (zs : List ℤ) (n : ℕ) → length zs ≡ suc n → length (rest zs) ≡ n
unfolding rest
length-rest [] n e = absurd (omega (arith, e))
length-rest (z ∷ zs) n e = omega (arith, e)

first_rest : (zs : List ℤ) (n : ℕ) → length zs ≡ suc n → first zs ∷ rest zs ≡ zs
unfolding rest first
first_rest [] n e = absurd (omega (arith, e))
first_rest (z ∷ zs) n e = refl

no_values : (zs : List ℤ) → length zs ≡ 0 → [] ≡ zs
no_values [] e = refl
no_values (z ∷ zs) e = absurd (omega (arith, e))

length-merge : (ks : List ℕ) (f : ℕ → List ℤ) → length (merge ks f) ≡ length ks
unfolding merge
length-merge [] f = refl
length-merge (j ∷ ks) f = ap suc (length-merge ks (λ k. cond (nat_eq j k) (rest (f k)) (f k)))

merged : (ks : List ℕ) (f : ℕ → List ℤ) → ((k : ℕ) → length (f k) ≡ sort_count k ks) → (k : ℕ)
    → values_at k ks (merge ks f) ≡ f k
unfolding merge
merged [] f h k = no_values (f k) (h k)
merged (j ∷ ks) f h k =
    elim (nat_eq j k) as (λ b. nat_eq j k ≡ b → values_at k ks (merge ks g) ≡ cond b (rest (f k)) (f k) → length (f k)
    ≡ cond b (suc (sort_count k ks)) (sort_count k ks)
    → cond b (first (f j) ∷ values_at k ks (merge ks g)) (values_at k ks (merge ks g)) ≡ f k) [
      | true ↦ λ e m l. (λ i. first (f (eqb-true j k e i)) ∷ m i) ∙ first_rest (f k) (sort_count k ks) l
      | false ↦ λ e m l. m
    ] refl (merged ks g fewer k) (h k)
  where
    g : ℕ → List ℤ
    g i = cond (nat_eq j i) (rest (f i)) (f i)

    fewer : (i : ℕ) → length (g i) ≡ sort_count i ks
    fewer i = elim (nat_eq j i) as (λ b. length (f i) ≡ cond b (suc (sort_count i ks)) (sort_count i ks)
        → length (cond b (rest (f i)) (f i)) ≡ sort_count i ks) [
          | true ↦ λ l. length-rest (f i) (sort_count i ks) l
          | false ↦ λ l. l
        ] (h i)

length-at : (k : ℕ) (ks : List ℕ) (vs : List ℤ) → length vs ≡ length ks → length (values_at k ks vs) ≡ sort_count k ks
length-at k [] vs e = refl
length-at k (j ∷ ks) [] e = absurd (omega (arith, e))
length-at k (j ∷ ks) (v ∷ vs) e = elim (nat_eq j k) as (λ b. length (cond b (v ∷ values_at k ks vs) (values_at k ks vs))
    ≡ cond b (suc (sort_count k ks)) (sort_count k ks)) [
      | true ↦ ap suc (length-at k ks vs (omega (arith, e)))
      | false ↦ length-at k ks vs (omega (arith, e))
    ]

in_values_at : (k : ℕ) (ks : List ℕ) (vs : List ℤ) (z : ℤ) → In z (values_at k ks vs) → In z vs
in_values_at k [] vs z i = absurd i
in_values_at k (j ∷ ks) [] z i = absurd i
in_values_at k (j ∷ ks) (v ∷ vs) z i = elim (nat_eq j k) as (λ b. In z
    (cond b (v ∷ values_at k ks vs) (values_at k ks vs)) → In z (v ∷ vs)) [
      | true ↦ λ i. elim i as (λ _. In z (v ∷ vs)) [ inl e ↦ inl e | inr h ↦ inr (in_values_at k ks vs z h) ]
      | false ↦ λ i. inr (in_values_at k ks vs z i)
    ] i

module _ (o : Sorts) (ks : List ℕ) (lists : ℕ → List (List ℤ))
    (covers : (k : ℕ) → CoverAt (o.kind k) (o.constants k) (sort_count k ks) (lists k)) (vs : List ℤ)
    (count : length vs ≡ length ks) (values : AreValues vs) where
  -- a list that stands for the values at one sort
  one : (k : ℕ) → (us : List ℤ) × In us (lists k) × StandsAt (o.kind k) (o.constants k) us (values_at k ks vs)
  one k = covers k (values_at k ks vs) (length-at k ks vs count) (λ z i. values z (in_values_at k ks vs z i))

  same : (k : ℕ) → values_at k ks (merge ks (λ k. (one k).0)) ≡ (one k).0
  same k = merged ks (λ k. (one k).0) (λ k. (at_most (o.kind k) (o.constants k) (one k).0 (values_at k ks vs)
      (one k).2).count ∙ length-at k ks vs count) k

  stands : (rs : List (List ℤ)) → ((us : List ℤ) → length us ≡ length ks → ((k : ℕ) → In (values_at k ks us) (lists k))
      → In us rs) → (us : List ℤ) × In us rs × StandsFor o ks us vs
  stands rs all = (
    merge ks (λ k. (one k).0),
    all (merge ks (λ k. (one k).0)) (length-merge ks (λ k. (one k).0))
        (λ k. subst (λ zs. In zs (lists k)) (sym (same k)) (one k).1),
    record {
      count = length-merge ks (λ k. (one k).0);
      each = λ k. subst (λ zs. StandsAt (o.kind k) (o.constants k) zs (values_at k ks vs)) (sym (same k)) (one k).2;
    },
  )

pub combinations_cover : CombinationsCover
combinations_cover o ks lists rs covers all vs count values = stands o ks lists covers vs count values rs all
