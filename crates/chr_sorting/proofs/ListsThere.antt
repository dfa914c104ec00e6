-- There is a list of all lists of n values at a sort of each kind.
use Rattle.std.specs.Prelude.{◌≡◌, ℕ, suc, ℤ, pos, negsuc, ◌+◌, ◌^◌, ◌<◌, ◌≤◌, ◌⊎◌, List, [], ◌∷◌, length, get_or}
use Rattle.std.proofs.Common.{refl, sym, subst, inl, inr, arith}
use Rattle.std.proofs.lemmas.Bool.{cases_lt}
use Rattle.std.proofs.lemmas.Int.{ints}
use mir.Val.{SFits}
use mir.Syntax.{w64}
use Rattle.chr_types.specs.OrderTypes.{In, Rises, AreValues, IsValue, MoreTypesThan}
use Rattle.chr_types.proofs.TypesThere.{types_there}
use Rattle.chr_types.proofs.TooMany.{not_more}
use Rattle.chr_confluence.specs.Sorts.{Kind, ordered, equal, free}
use Rattle.chr_sorting.specs.SortedCaseLists.{AreFirstNumbers, AreListsAt, MoreListsThan}
use Rattle.chr_sorting.specs.working.Blocks.{lists_behind}
use Rattle.chr_sorting.proofs.Blocks.{behind_rise, blocks_listed, many_blocks}
use Rattle.chr_sorting.proofs.Numbers.{first_there}

-- ---- by kind

pub free_list : (cs us : List ℤ) (n : ℕ) → length us ≡ n → AreFirstNumbers cs us → AreListsAt free cs n (us ∷ [])
free_list cs us n l f = (us, l, f, refl)

pub equal_lists : (cs us : List ℤ) (n : ℕ) → Rises cs → length us ≡ n → AreFirstNumbers cs us
    → AreListsAt equal cs n (lists_behind n cs us [])
equal_lists cs us n r l f = (us, l, f, blocks_listed cs us n l f, behind_rise n cs us [] r)

-- The constants are values, and there are no more of them and of the wanted values than values: else numbers that stand
-- for them would be none.
pub lists_there : (kind : Kind) (cs : List ℤ) (n : ℕ) → length cs + n ≤ 2 ^ 62 → Rises cs → AreValues cs
    → (ls : List (List ℤ)) × AreListsAt kind cs n ls
lists_there free cs n few r v = let f = first_there cs n few r in (f.0 ∷ [], free_list cs f.0 n f.1 f.2)
lists_there equal cs n few r v = let f = first_there cs n few r in
    (lists_behind n cs f.0 [], equal_lists cs f.0 n r f.1 f.2)
lists_there ordered cs n few r v = types_there n cs (omega (arith, few)) r v

-- ---- more than a limit

-- where there are more order types than the limit, their list is longer
pub more_ordered : (limit n : ℕ) (cs : List ℤ) → length cs + n ≤ 2 ^ 62 → Rises cs → AreValues cs
    → MoreTypesThan limit n cs → MoreListsThan limit ordered cs n
more_ordered limit n cs few r v more = by (types_there n cs (omega (arith, few)) r v)
  where
    over : (ls : List (List ℤ)) → AreListsAt ordered cs n ls → (limit < length ls) ⊎ (length ls ≤ limit)
        → MoreListsThan limit ordered cs n
    over ls are (inl l) = (ls, are, l)
    over ls are (inr l) = absurd (not_more limit n cs ls are l more)

    by : (ls : List (List ℤ)) × AreListsAt ordered cs n ls → MoreListsThan limit ordered cs n
    by w = over w.0 w.1 (cases_lt limit (length w.0))

-- of more than 64 values there are more lists of blocks than any limit
pub more_blocks : (limit n : ℕ) (cs : List ℤ) → limit < 2 ^ 64 → 64 < n → length cs + n ≤ 2 ^ 62 → Rises cs
    → MoreListsThan limit equal cs n
more_blocks limit n cs l m few r =
    let f = first_there cs n few r in
    (lists_behind n cs f.0 [], equal_lists cs f.0 n r f.1 f.2, many_blocks limit n cs f.0 l m f.1 f.2)

-- ---- constants that are read from memory

pub value_fits : (z : ℤ) → SFits w64 z → IsValue z
value_fits (pos n) f = let l = f.sfits in (omega (arith, ints), omega (arith, ints, l))
value_fits (negsuc n) f = let l = f.sfits in (omega (arith, ints, l), omega (arith, ints))

place_of : (cs : List ℤ) (c : ℤ) → In c cs → (k : ℕ) × (k < length cs) × (c ≡ get_or cs k (pos 0))
place_of [] c i = absurd i
place_of (x ∷ cs) c (inl e) = (0, omega arith, e)
place_of (x ∷ cs) c (inr i) = let m = place_of cs c i in let l = m.1 in (suc m.0, omega (arith, l), m.2)

pub are_values : (cs : List ℤ) → ((k : ℕ) → k < length cs → IsValue (get_or cs k (pos 0))) → AreValues cs
are_values cs f c i = let m = place_of cs c i in subst IsValue (sym m.2) (f m.0 m.1)

pub one_more_value : (cs : List ℤ) (i : ℕ) → IsValue (get_or cs i (pos 0))
    → ((k : ℕ) → k < i → IsValue (get_or cs k (pos 0))) → (k : ℕ) → k < i + 1 → IsValue (get_or cs k (pos 0))
one_more_value cs i v all k l = elim (cases_lt k i) as (λ _. IsValue (get_or cs k (pos 0))) [
  | inl h ↦ all k h
  | inr h ↦ subst (λ j. IsValue (get_or cs j (pos 0))) (let e : i ≡ k = omega (arith, h, l) in e) v
]
