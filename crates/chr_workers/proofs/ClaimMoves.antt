-- Each kind of step keeps the rule of the claims.
use Rattle.std.proofs.Common.{◌≡◌, ◌≢◌, ◌⊎◌, ℕ, zero, suc, ◌+◌, ◌≤◌, ◌<◌, ◌^◌, ◌%◌, List, [], ◌∷◌, ◌++◌, set, refl, sym}
use Rattle.std.proofs.Common.{ap, ◌∙◌, subst, ⊎_elim, inl, inr, zero-add, arith}
use Rattle.std.specs.Prelude.{slice_index}
use Rattle.std.specs.List.{sum_by}
use Rattle.std.proofs.lemmas.List.Sums.{sum_by-append, sum_by_push}
use Rattle.std.proofs.lemmas.Bool.Decides.{nat_tests}
use mathlib.Core.Option.{some, none, some-ne-none, some-injective}
use lib.ListN.{get_elem?}
use Rattle.atomic_table.specs.Table.{State, Me, step, Act, keeps, stepped, Valid, carried_after, Allows, Splits, Joins}
use Rattle.atomic_table.specs.Table.{opening, Final, Seen}
use Rattle.atomic_table.proofs.Lists.{at_set, at_snoc, set_else}
use Rattle.chr_workers.specs.declared.claims.law.Hand.{Hand}
use Rattle.chr_workers.specs.declared.claims.law.Size.{Size}
use Rattle.chr_workers.specs.Claiming.{first_hand, dealt, newcomer, gathered, nobody, times, once_below, drawing, Draws}
use Rattle.chr_workers.specs.Claiming.{IsFair, IsKept}
use Rattle.chr_workers.proofs.ClaimTotals.{total_set, total_le, total_one}

once_more : (x n : ℕ) → once_below x (n + 1) ≡ once_below x n + times x (n ∷ [])
once_more x n = grind (arith, nat_tests)

times_push : (x : ℕ) (xs : List ℕ) (n : ℕ) → times x (xs ++ n ∷ []) ≡ times x xs + times x (n ∷ [])
times_push x xs n = sum_by-append _ xs (n ∷ [])

times_append : (x : ℕ) (xs ys : List ℕ) → times x (xs ++ ys) ≡ times x xs + times x ys
times_append x xs ys = sum_by-append _ xs ys

some_over : (a b : ℕ) → 0 < a + b → (0 < a) ⊎ (0 < b)
some_over zero b h = inr (omega arith)
some_over (suc a) b h = inl (omega arith)

-- what the rule says of each view, after one view has changed
fair_set : (size : Size) (word : ℕ) (views : List Hand) (k : ℕ) (w : Hand)
    → ((j : ℕ) (u : Hand) → j ≢ k → get_elem? views j ≡ some u → IsFair size word u) → IsFair size word w
    → (j : ℕ) (u : Hand) → get_elem? (set views k w) j ≡ some u → IsFair size word u
fair_set size word views k w others mine j u at =
    ⊎_elim
    (λ (h : (j ≡ k) × (w ≡ u)). subst (IsFair size word) h.1 mine)
    (λ (h : (j ≢ k) × (get_elem? views j ≡ some u)). others j u h.0 h.1)
    (at_set views k j w u at)

-- the word can go on by one
word_below : (size : Size) (state : State ℕ Hand) (kept : IsKept size state) → kept.word ≤ size.parts + size.seats
word_below size state kept =
    omega (
      arith,
      kept.bound,
      kept.shares,
      total_le (λ (v : Hand). v.over) (λ (v : Hand). v.shares) state.views
          (λ k v at. (kept.each k v at).over),
    )

draws_next : (size : Size) (state : State ℕ Hand) (kept : IsKept size state) (id : ℕ) (v : Hand)
    → get_elem? state.views id ≡ some v → 0 < v.shares → v.over < v.shares
    → IsKept size record {
      words = (kept.word + 1) % 2 ^ 64 ∷ [];
      homes = state.homes;
      views =
          set state.views id (drawing v kept.word);
    }
draws_next size state kept id v at some_share room =
    let below = word_below size state kept in
    let fair = kept.each id v at in
    let w = drawing v kept.word in
    let limit : v.limit ≡ size.parts = fair.limit some_share in
    let over : w.over ≤ v.over + 1 = grind (arith, nat_tests) in
    let past : 0 < w.over → size.parts < kept.word + 1 = λ h. grind (arith, nat_tests, fair.past) in
    let bound : kept.word + v.over + 1 ≤ size.parts + sum_by (λ (u : Hand). u.over) state.views + w.over = let b =
    kept.bound in grind (arith, nat_tests) in
    record {
      word = kept.word + 1;
      words = ap (λ (n : ℕ). n ∷ []) (grind (arith, kept.room));
      room = kept.room;
      shares = omega (arith, kept.shares, total_set (λ (u : Hand). u.shares) state.views id v w at);
      once = λ x. omega (
        arith,
        kept.once x,
        once_more x kept.word,
        times_push x v.drawn kept.word,
        total_set (λ (u : Hand). times x u.drawn) state.views id v w at,
      );
      bound = omega (arith, bound, total_set (λ (u : Hand). u.over) state.views id v w at);
      each = fair_set size (kept.word + 1) state.views id w
          (λ j u apart there. let f = kept.each j u there in
          record { limit = f.limit; over = f.over; past = (λ h. let p = f.past h in omega arith); idle = f.idle })
          record { limit = fair.limit; over = omega arith; past = past; idle = (λ h. absurd (omega arith)) };
    }

-- the step of `next`
pub draws : (size : Size) (slots id : ℕ) (v : Hand) → 0 < v.shares → v.over < v.shares
    → Allows (IsKept size) slots id (v, []) 0 (λ n. (n + 1) % 2 ^ 64) (Draws (step slots 0 1 0 none) (v, []))
draws size slots id v some_share room state kept long at fits =
    let P : List ℕ → Type 0 = λ words. (w : Hand) × (a : Act ℕ) × Valid state.homes []
    a × IsKept size (stepped record { words = words; homes = state.homes; views = state.views } 0
    ((slice_index words 0 + 1) % 2 ^ 64) id [] w a) × Draws (step slots 0 1 0 none) (v, []) (slice_index words 0)
    (w, carried_after [] a) in
    subst P (sym kept.words) (drawing v kept.word, keeps, tt, draws_next size state kept id v at some_share room, refl)

-- the step of `open`: a share goes to a new seat
pub deals : (size : Size) (id : ℕ) (v : Hand) → 1 < v.shares → v.over ≡ 0 → v.drawn ≡ []
    → Splits (IsKept size) id v (dealt v) (newcomer v)
deals size id v shares over drawn state kept at =
    let fair = kept.each id v at in
    let limit : v.limit ≡ size.parts = fair.limit (omega arith) in
    let one = newcomer v in
    let views = set state.views id (dealt v) in
    let more : (f : Hand → ℕ) → sum_by f (views ++ one ∷ []) + f v ≡ sum_by f state.views + f (dealt v) + f one =
    λ f. omega (arith, sum_by_push f views one, total_set f state.views id v (dealt v) at) in
    record {
      word = kept.word;
      words = kept.words;
      room = kept.room;
      shares = omega (arith, kept.shares, more (λ u. u.shares));
      once = λ x. omega (arith, kept.once x, more (λ u. times x u.drawn));
      bound = omega (arith, kept.bound, more (λ u. u.over));
      each = λ j u there. ⊎_elim
          (λ (was : get_elem? views j ≡ some u).
          fair_set size kept.word state.views id (dealt v) (λ i t _ e. kept.each i t e)
          record { limit = (λ _. limit); over = omega arith; past = (λ h. absurd (omega arith)); idle = (λ _. drawn) } j
          u was)
          (λ (same : one ≡ u). subst (IsFair size kept.word) same record {
            limit = (λ _. limit);
            over = omega arith;
            past = (λ h. absurd (omega arith));
            idle = (λ _. refl);
          })
          (at_snoc views one u j there);
    }

-- the step of `close`: one seat takes in another, which is spent
pub gathers : (size : Size) (id : ℕ) (v : Hand) (other : ℕ) (u : Hand) → 0 < v.shares → Joins (IsKept size) id v other u
    (gathered v u) nobody
gathers size id v other u some_share state kept at apart there =
    let both = gathered v u in
    let mine = kept.each id v at in
    let was : get_elem? state.views other ≡ some u = sym (set_else state.views id other both apart) ∙ there in
    let theirs = kept.each other u was in
    let first = set state.views id both in
    let past_either : (0 < v.over) ⊎ (0 < u.over) → size.parts < kept.word = ⊎_elim mine.past theirs.past in
    let total : (f : Hand → ℕ) → sum_by f (set first other nobody) + f v + f u
    ≡ sum_by f state.views + f both + f nobody = λ f. omega
    (arith, total_set f state.views id v both at, total_set f first other u nobody there) in
    record {
      word = kept.word;
      words = kept.words;
      room = kept.room;
      shares = omega (arith, kept.shares, total (λ t. t.shares));
      once = λ x. omega (arith, kept.once x, total (λ t. times x t.drawn), times_append x v.drawn u.drawn);
      bound = omega (arith, kept.bound, total (λ t. t.over));
      each = fair_set size kept.word first other nobody
          (λ j t _ e. fair_set size kept.word state.views id both (λ i s _ e'. kept.each i s e')
          record {
            limit = (λ _. mine.limit some_share);
            over = omega (arith, mine.over, theirs.over);
            past = (λ h. past_either (some_over v.over u.over h));
            idle = (λ h. absurd (omega arith));
          } j t e)
          record {
            limit = (λ h. absurd (omega arith));
            over = omega arith;
            past = (λ h. absurd (omega arith));
            idle =
                (λ _. refl);
          };
    }

-- who has every share knows every number
pub knows : (size : Size) (state : State ℕ Hand) (id : ℕ) (v : Hand) (kept : IsKept size state)
    → get_elem? state.views id ≡ some v → v.shares ≡ size.seats → (x : ℕ) → times x v.drawn ≡ once_below x kept.word
knows size state id v kept at whole x =
    sym (total_one (λ (u : Hand). u.shares) (λ (u : Hand). times x u.drawn) state.views id v at
    (kept.shares ∙ sym whole) (λ j u there none. ap (times x) ((kept.each j u there).idle none))) ∙ kept.once x

-- the steps, at a seat that is known by its parts
pub draws_as : (size : Size) (slots id : ℕ) (me : Me ℕ Hand) → me.1 ≡ [] → 0 < me.0.shares → me.0.over < me.0.shares
    → Allows (IsKept size) slots id me 0 (λ n. (n + 1) % 2 ^ 64) (Draws (step slots 0 1 0 none) me)
draws_as size slots id (v, out) none_out share over = subst
    (λ (l : List (ℕ × ℕ)). Allows (IsKept size) slots id (v, l) 0 (λ n. (n + 1) % 2 ^ 64)
    (Draws (step slots 0 1 0 none) (v, l))) (sym none_out) (draws size slots id v share over)

-- the table as it is made
pub begins : (size : Size) → size.parts < 2 ^ 32 → size.seats < 2 ^ 32
    → IsKept size (opening (0 ∷ []) [] (first_hand size))
begins size parts seats = record {
  word = 0;
  words = refl;
  room = omega arith;
  shares = zero-add size.seats;
  once = λ x. grind (arith, nat_tests);
  bound = omega arith;
  each = one;
}
  where
    one : (k : ℕ) (v : Hand) → get_elem? (first_hand size ∷ []) k ≡ some v → IsFair size 0 v
    one zero v at = subst (IsFair size 0) (some-injective _ _ at) record {
      limit = (λ _. refl);
      over = omega arith;
      past = (λ h. absurd (omega arith));
      idle = (λ _. refl);
    }
    one (suc k) v at = absurd (some-ne-none v (sym at))

-- what the word and the list of all numbers are at the end
pub settles : (size : Size) (words slots : List ℕ) (id : ℕ) (v : Hand) → v.shares ≡ size.seats
    → Final (Seen (IsKept size) id v) words slots → (word : ℕ) × ((x : ℕ) → times x v.drawn ≡ once_below x word)
    × (0 < v.over → size.parts < word)
settles size words slots id v whole final =
    let kept = final.1.0 in
    (kept.word, knows size final.0 id v kept final.1.1 whole, (kept.each id v final.1.1).past)

pub at_most_once : (x word n : ℕ) → n ≡ once_below x word → n ≤ 1
at_most_once x word n is = grind (arith, nat_tests)

pub just_once : (x word n : ℕ) → n ≡ once_below x word → x < word → n ≡ 1
just_once x word n is below = grind (arith, nat_tests)

pub times_both : (x : ℕ) (xs ys : List ℕ) → times x (xs ++ ys) ≡ times x xs + times x ys
times_both x xs ys = times_append x xs ys
