-- A list in order, taken out of another in order.
use Rattle.std.proofs.Common.{◌≡◌, ℕ, zero, suc, ◌+◌, ◌<◌, ◌≤◌, Bool, true, false, cond, List, [], ◌∷◌, ◌++◌, length}
use Rattle.std.proofs.Common.{get_or, take, drop, set, drop-cons, append_assoc, append-nil, refl, sym, ap, subst, ◌∙◌}
use Rattle.std.proofs.Common.{arith}
use Rattle.std.specs.Prelude.{not, T, IsTrue, ◌-◌}
use Rattle.std.specs.Bool.{OnTrue}
use Rattle.std.specs.List.{swap}
use Rattle.std.proofs.lemmas.List.{drop_all, get_or_default}
use Rattle.std.proofs.lemmas.List.Edits.{swap_is, length-swap}
use mathlib.Core.Bool.{true≢false}
use Rattle.std.specs.declared.cmp.Ordering.{Ordering}
use Rattle.std.specs.declared.cmp.Ordering.TheVariants.{Less, Equal, Greater}
use Rattle.std.specs.Ordering.{is_gt, is_eq, eq_by_cmp, ordering_reverse}
use Rattle.chr_base.specs.declared.atom.Atom.{Atom}
use Rattle.chr_base.specs.Atoms.{atom_cmp}
use Rattle.chr_base.proofs.Atoms.{atom_total, atom_exact, same_is}
use Rattle.chr_base.specs.FinBag.{count_in, is_rising, none_below, of_list, ◌⊖◌}
use Rattle.chr_base.proofs.FinBags.{absent, counts_itself, of_list_less, both, first, second, is_true, from_true}
use Rattle.chr_base.specs.working.Subsequences.{is_subsequence, without_subsequence}

-- what stands within and what is left are the whole
pub counts_without : (xs ys : List Atom) → is_subsequence atom_cmp xs ys ≡ true → (q : Atom)
    → count_in atom_cmp q (without_subsequence atom_cmp xs ys) + count_in atom_cmp q ys ≡ count_in atom_cmp q xs
counts_without [] [] h q = omega arith
counts_without [] (y ∷ ys) h q = absurd (true≢false (sym h))
counts_without (x ∷ xs) [] h q = let e = counts_without xs [] h q in omega (arith, e)
counts_without (x ∷ xs) (y ∷ ys) h q =
    elim (eq_by_cmp atom_cmp y x) as (λ b. eq_by_cmp atom_cmp y x ≡ b → cond b (is_subsequence atom_cmp xs ys)
    (is_subsequence atom_cmp xs (y ∷ ys)) ≡ true
    → count_in atom_cmp q (cond b (without_subsequence atom_cmp xs ys)
    (x ∷ without_subsequence atom_cmp xs (y ∷ ys))) + (cond (eq_by_cmp atom_cmp q y) 1 0 + count_in atom_cmp q ys)
    ≡ cond (eq_by_cmp atom_cmp q x) 1 0 + count_in atom_cmp q xs) [
      | true ↦ λ p k. (let e = counts_without xs ys k q in
          let d : ◌≡◌ {A = ℕ} (cond (eq_by_cmp atom_cmp q y) 1 0) (cond (eq_by_cmp atom_cmp q x) 1 0) =
          ap (λ z. let n : ℕ = cond (eq_by_cmp atom_cmp q z) 1 0 in n) (same_is y x p) in
          omega (arith, e, d))
      | false ↦ λ p k. (let e = counts_without xs (y ∷ ys) k q in omega (arith, e))
    ] refl h

below_without : (z : Atom) (xs ys : List Atom) → T (none_below atom_cmp z xs)
    → T (none_below atom_cmp z (without_subsequence atom_cmp xs ys))
below_without z [] ys h = tt
below_without z (x ∷ xs) [] h = both _ _ (first _ _ h) (below_without z xs [] (second (not (is_gt (atom_cmp z x))) _ h))
below_without z (x ∷ xs) (y ∷ ys) h =
    elim (eq_by_cmp atom_cmp y x) as (λ b. T (none_below atom_cmp z
    (cond b (without_subsequence atom_cmp xs ys) (x ∷ without_subsequence atom_cmp xs (y ∷ ys))))) [
      | true ↦ below_without z xs ys (second (not (is_gt (atom_cmp z x))) _ h)
      | false ↦ both _ _ (first _ _ h) (below_without z xs (y ∷ ys) (second (not (is_gt (atom_cmp z x))) _ h))
    ]

rises : (xs ys : List Atom) → T (is_rising atom_cmp xs) → T (is_rising atom_cmp (without_subsequence atom_cmp xs ys))
rises [] ys h = tt
rises (x ∷ xs) [] h = both _ _ (below_without x xs [] (first _ _ h))
    (rises xs [] (second (none_below atom_cmp x xs) _ h))
rises (x ∷ xs) (y ∷ ys) h =
    elim (eq_by_cmp atom_cmp y x) as (λ b. T (is_rising atom_cmp
    (cond b (without_subsequence atom_cmp xs ys) (x ∷ without_subsequence atom_cmp xs (y ∷ ys))))) [
      | true ↦ rises xs ys (second (none_below atom_cmp x xs) _ h)
      | false ↦ both _ _ (below_without x xs (y ∷ ys) (first _ _ h))
          (rises xs (y ∷ ys) (second (none_below atom_cmp x xs) _ h))
    ]

-- what is left of a list in order is in order
pub rises_without_subsequence : (xs ys : List Atom) → IsTrue (is_rising atom_cmp xs)
    → IsTrue (is_rising atom_cmp (without_subsequence atom_cmp xs ys))
rises_without_subsequence xs ys h = is_true _ (rises xs ys (from_true _ h))

-- of two lists in order, one that has no item more often than the other stands within it
found : (xs ys : List Atom) → T (is_rising atom_cmp xs) → T (is_rising atom_cmp ys)
    → ((q : Atom) → count_in atom_cmp q ys ≤ count_in atom_cmp q xs) → is_subsequence atom_cmp xs ys ≡ true
found [] [] h g c = refl
found [] (y ∷ ys) h g c = absurd (let a = c y in let e = counts_itself atom_cmp atom_total y ys in omega (arith, a, e))
found (x ∷ xs) [] h g c = found xs [] (second (none_below atom_cmp x xs) _ h) tt (λ q. omega arith)
found (x ∷ xs) (y ∷ ys) h g c = by (atom_cmp y x) refl
    (λ f. found xs ys (second (none_below atom_cmp x xs) _ h) (second (none_below atom_cmp y ys) _ g) f)
    (λ f. found xs (y ∷ ys) (second (none_below atom_cmp x xs) _ h) g f)
  where
    by : (r : Ordering) → atom_cmp y x ≡ r → (((q : Atom) → count_in atom_cmp q ys ≤ count_in atom_cmp q xs)
        → is_subsequence atom_cmp xs ys ≡ true) → (((q : Atom) → count_in atom_cmp q (y ∷ ys) ≤ count_in atom_cmp q xs)
        → is_subsequence atom_cmp xs (y ∷ ys) ≡ true)
        → cond (is_eq (atom_cmp y x)) (is_subsequence atom_cmp xs ys) (is_subsequence atom_cmp xs (y ∷ ys)) ≡ true
    by Less p same more =
        let a = c y in
        let e = counts_itself atom_cmp atom_total y ys in
        let z : count_in atom_cmp y xs ≡ 0 = absent atom_cmp atom_total y x xs p (first _ _ h) in
        let d : ◌≡◌ {A = ℕ} (cond (eq_by_cmp atom_cmp y x) 1 0) 0 = rw p refl in
        absurd (omega (arith, a, e, z, d))
    by Equal p same more =
        rw p (same (λ q. (let a = c q in
        let d : ◌≡◌ {A = ℕ} (cond (eq_by_cmp atom_cmp q y) 1 0) (cond (eq_by_cmp atom_cmp q x) 1 0) =
        ap (λ z. let n : ℕ = cond (eq_by_cmp atom_cmp q z) 1 0 in n) (same_is y x (rw p refl)) in
        omega (arith, a, d))))
    by Greater p same more = rw p (more (λ q. fewer q (eq_by_cmp atom_cmp q x) refl))
      where
        none : count_in atom_cmp x (y ∷ ys) ≡ 0
        none =
            let e : atom_cmp x y ≡ Less = atom_total.antisymm x y ∙ ap ordering_reverse p in
            let d : ◌≡◌ {A = ℕ} (cond (eq_by_cmp atom_cmp x y) 1 0) 0 = rw e refl in
            let z : count_in atom_cmp x ys ≡ 0 = absent atom_cmp atom_total x y ys e (first _ _ g) in
            omega (arith, d, z)

        fewer : (q : Atom) (b : Bool) → eq_by_cmp atom_cmp q x ≡ b
            → count_in atom_cmp q (y ∷ ys) ≤ count_in atom_cmp q xs
        fewer q true e = let z : count_in atom_cmp q (y ∷ ys) ≡ 0 =
            ap (λ w. count_in atom_cmp w (y ∷ ys)) (same_is q x e) ∙ none in omega (arith, z)
        fewer q false e =
            let a = c q in
            let d : ◌≡◌ {A = ℕ} (cond (eq_by_cmp atom_cmp q x) 1 0) 0 = rw e refl in
            omega (arith, a, d)

-- of two lists in order, one stands within the other just where it has no item more often
pub stands_just_where_counts : (xs ys : List Atom) → IsTrue (is_rising atom_cmp xs) → IsTrue (is_rising atom_cmp ys)
    → ((q : Atom) → count_in atom_cmp q ys ≤ count_in atom_cmp q xs) → is_subsequence atom_cmp xs ys ≡ true
stands_just_where_counts xs ys h g c = found xs ys (from_true _ h) (from_true _ g) c

-- An item moved down to the end of what is kept: the kept ones have it last, and those above it stay.
moved_keeps : (xs : List Atom) (k i : ℕ) (a b : Atom) → k ≤ i → i < length xs → (k ≡ i → a ≡ b)
    → take (suc k) (set (set xs k a) i b) ≡ take k xs ++ a ∷ []
moved_keeps [] k i a b l h e = absurd (omega arith)
moved_keeps (x ∷ xs) zero zero a b l h e = ap (λ z. z ∷ []) (sym (e refl))
moved_keeps (x ∷ xs) zero (suc i) a b l h e = refl
moved_keeps (x ∷ xs) (suc k) zero a b l h e = absurd (omega arith)
moved_keeps (x ∷ xs) (suc k) (suc i) a b l h e = ap (λ ys. x ∷ ys)
    (moved_keeps xs k i a b (omega arith) (omega arith) (λ p. e (ap suc p)))

moved_leaves : (xs : List Atom) (k i : ℕ) (a b : Atom) → k ≤ i → drop (suc i) (set (set xs k a) i b) ≡ drop (suc i) xs
moved_leaves [] k i a b l = refl
moved_leaves (x ∷ xs) zero zero a b l = refl
moved_leaves (x ∷ xs) zero (suc i) a b l = dropped xs i b
  where
    dropped : (ys : List Atom) (n : ℕ) (c : Atom) → drop (suc n) (set ys n c) ≡ drop (suc n) ys
    dropped [] n c = refl
    dropped (y ∷ ys) zero c = refl
    dropped (y ∷ ys) (suc n) c = dropped ys n c
moved_leaves (x ∷ xs) (suc k) zero a b l = absurd (omega arith)
moved_leaves (x ∷ xs) (suc k) (suc i) a b l = moved_leaves xs k i a b (omega arith)

-- the next item of what is not read yet
next_item : (xs ys : List Atom) (i : ℕ) (x : Atom) → i < length xs → length xs ≡ length ys → drop i xs ≡ drop i ys
    → x ≡ get_or xs i x → drop i ys ≡ x ∷ drop (i + 1) ys
next_item xs ys i x l n e is =
    let a = drop-cons xs i x l in
    let b = drop-cons ys i x (omega arith) in
    let s : i + 1 ≡ suc i = omega arith in
    rw s (cc)

unread_more : (xs ys : List Atom) (i : ℕ) (x : Atom) → i < length xs → length xs ≡ length ys → drop i xs ≡ drop i ys
    → drop (i + 1) xs ≡ drop (i + 1) ys
unread_more xs ys i x l n e =
    let a = drop-cons xs i x l in
    let b = drop-cons ys i x (omega arith) in
    let s : i + 1 ≡ suc i = omega arith in
    rw s (cc)

-- What a turn of the loop keeps: of `ys`, the items from i on are unread, and of those before it `xs` has the kept ones
-- in front.
pub record IsAt (xs ys ws whole : List Atom) (kept i : ℕ) : Type 0 where
  pub behind : kept ≤ i
  pub length : length xs ≡ length ys
  pub unread : drop i xs ≡ drop i ys
  pub done : take kept xs ++ without_subsequence atom_cmp (drop i ys) ws ≡ whole

-- an item that is wanted is passed over
pub passed : (xs ys ws whole : List Atom) (kept i : ℕ) (x w : Atom) → i < length xs → x ≡ get_or xs i x
    → eq_by_cmp atom_cmp w x ≡ true → IsAt xs ys (w ∷ ws) whole kept i → IsAt xs ys ws whole kept (i + 1)
passed xs ys ws whole kept i x w l is same h = record {
  behind = (let b = h.behind in omega (arith, b));
  length = h.length;
  unread = unread_more xs ys i x l h.length h.unread;
  done = (let e : without_subsequence atom_cmp (drop i ys) (w ∷ ws) ≡ without_subsequence atom_cmp (drop (i + 1) ys) ws
      = ap (λ zs. without_subsequence atom_cmp zs (w ∷ ws)) (next_item xs ys i x l h.length h.unread is)
      ∙ ap (λ b. cond b (without_subsequence atom_cmp (drop (i + 1) ys) ws)
      (x ∷ without_subsequence atom_cmp (drop (i + 1) ys) (w ∷ ws))) same in
      ap (λ zs. take kept xs ++ zs) (sym e) ∙ h.done);
}

-- an item that is not wanted is moved down
moved : (xs ys ws whole : List Atom) (kept i : ℕ) (x : Atom) → i < length xs → x ≡ get_or xs i x
    → without_subsequence atom_cmp (x ∷ drop (i + 1) ys) ws ≡ x ∷ without_subsequence atom_cmp (drop (i + 1) ys) ws
    → IsAt xs ys ws whole kept i → IsAt (swap xs kept i) ys ws whole (kept + 1) (i + 1)
moved xs ys ws whole kept i x l is stays h =
    let b = h.behind in
    let s : i + 1 ≡ suc i = omega arith in
    let t : kept + 1 ≡ suc kept = omega arith in
    let e = swap_is xs kept i x (omega (arith, b, l)) l in
    let keeps = moved_keeps xs kept i (get_or xs i x) (get_or xs kept x) b l (λ p. ap (λ n. get_or xs n x) (sym p)) in
    let leaves = moved_leaves xs kept i (get_or xs i x) (get_or xs kept x) b in
    record {
      behind = omega (arith, b);
      length = length-swap xs kept i ∙ h.length;
      unread = rw s (ap (drop (suc i)) (sym e) ∙ leaves
          ∙ (let u = unread_more xs ys i x l h.length h.unread in rw s at u));
      done = rw t (
          ap (λ zs. take (suc kept) zs ++ without_subsequence atom_cmp (drop (i + 1) ys) ws) (sym e)
          ∙ ap (λ zs. zs ++ without_subsequence atom_cmp (drop (i + 1) ys) ws)
          (keeps ∙ ap (λ z. take kept xs ++ z ∷ []) (sym is))
          ∙ append_assoc (take kept xs) (x ∷ []) (without_subsequence atom_cmp (drop (i + 1) ys) ws)
          ∙ ap (λ zs. take kept xs ++ zs) (sym (ap (λ zs. without_subsequence atom_cmp zs ws)
          (next_item xs ys i x l h.length h.unread is) ∙ stays))
          ∙ h.done);
    }

pub moved_last : (xs ys whole : List Atom) (kept i : ℕ) (x : Atom) → i < length xs → x ≡ get_or xs i x → IsAt xs ys []
    whole kept i → IsAt (swap xs kept i) ys [] whole (kept + 1) (i + 1)
moved_last xs ys whole kept i x l is h = moved xs ys [] whole kept i x l is refl h

pub moved_other : (xs ys ws whole : List Atom) (kept i : ℕ) (x w : Atom) → i < length xs → x ≡ get_or xs i x
    → eq_by_cmp atom_cmp w x ≡ false → IsAt xs ys (w ∷ ws) whole kept i → IsAt (swap xs kept i) ys (w ∷ ws) whole
    (kept + 1) (i + 1)
moved_other xs ys ws whole kept i x w l is other h =
    moved xs ys (w ∷ ws) whole kept i x l is (ap (λ b. cond b (without_subsequence atom_cmp (drop (i + 1) ys) ws)
    (x ∷ without_subsequence atom_cmp (drop (i + 1) ys) (w ∷ ws))) other) h

-- of items in order none comes after the next
falls_between : (xs : List Atom) (k : ℕ) (d e : Atom) → k + 1 < length xs → IsTrue (is_rising atom_cmp xs)
    → is_gt (atom_cmp (get_or xs k d) (get_or xs (k + 1) e)) ≡ false
falls_between [] k d e l h = absurd (omega arith)
falls_between (x ∷ []) k d e l h = absurd (omega arith)
falls_between (x ∷ y ∷ ys) zero d e l h = by (is_gt (atom_cmp x y))
    (first (not (is_gt (atom_cmp x y))) _ (first (none_below atom_cmp x (y ∷ ys)) _ (from_true _ h)))
  where
    by : (b : Bool) → T (not b) → b ≡ false
    by true p = absurd p
    by false p = refl
falls_between (x ∷ y ∷ ys) (suc k) d e l h =
    let n : suc k + 1 ≡ suc (k + 1) = omega arith in
    rw n (falls_between (y ∷ ys) k d e (omega arith) (is_true _
    (second (none_below atom_cmp x (y ∷ ys)) _ (from_true _ h))))

pub none_falls : (xs : List Atom) (k i : ℕ) (x y : Atom) → k + 1 ≡ i → i < length xs → x ≡ get_or xs k x
    → y ≡ get_or xs i y → is_gt (atom_cmp x y) ≡ true → IsTrue (is_rising atom_cmp xs) → false ≡ true
none_falls xs k i x y n l is_x is_y after h =
    sym (falls_between xs k x y (omega (arith, n, l)) h)
    ∙ (λ j. is_gt (atom_cmp (sym is_x j) (get_or xs (n j) y)))
    ∙ (λ j. is_gt (atom_cmp x (sym is_y j)))
    ∙ after

-- what is left, by counts
pub less_counts : (xs ys : List Atom) → is_subsequence atom_cmp xs ys ≡ true → (q : Atom)
    → count_in atom_cmp q (without_subsequence atom_cmp xs ys) ≡ count_in atom_cmp q xs - count_in atom_cmp q ys
less_counts xs ys h q = let e = counts_without xs ys h q in omega (arith, e)

pub within_counts : (xs ys : List Atom) → is_subsequence atom_cmp xs ys ≡ true → (q : Atom)
    → count_in atom_cmp q ys ≤ count_in atom_cmp q xs
within_counts xs ys h q = let e = counts_without xs ys h q in omega (arith, e)

opened : (ws : List Atom) (n : ℕ) (w : Atom) → n < length ws → w ≡ get_or ws n w → drop n ws ≡ w ∷ drop (n + 1) ws
opened ws n w l is = next_item ws ws n w l refl refl is

pub passed_at : (xs ys ws whole : List Atom) (kept i n : ℕ) (x w : Atom) → i < length xs → n < length ws
    → x ≡ get_or xs i x → w ≡ get_or ws n w → eq_by_cmp atom_cmp w x ≡ true
    → IsAt xs ys (drop n ws) whole kept i → IsAt xs ys (drop (n + 1) ws) whole kept (i + 1)
passed_at xs ys ws whole kept i n x w l m is_x is_w same h =
    passed xs ys (drop (n + 1) ws) whole kept i x w l is_x same
    (subst (λ us. IsAt xs ys us whole kept i) (opened ws n w m is_w) h)

pub other_at : (xs ys ws whole : List Atom) (kept i n : ℕ) (x w : Atom) → i < length xs → n < length ws
    → x ≡ get_or xs i x → w ≡ get_or ws n w → eq_by_cmp atom_cmp w x ≡ false
    → IsAt xs ys (drop n ws) whole kept i → IsAt (swap xs kept i) ys (drop n ws) whole (kept + 1) (i + 1)
other_at xs ys ws whole kept i n x w l m is_x is_w other h =
    let e = opened ws n w m is_w in
    subst (λ us. IsAt (swap xs kept i) ys us whole (kept + 1) (i + 1)) (sym e)
    (moved_other xs ys (drop (n + 1) ws) whole kept i x w l is_x other
    (subst (λ us. IsAt xs ys us whole kept i) e h))

pub rest_at : (xs ys ws whole : List Atom) (kept i n : ℕ) → i < length xs → length ws ≤ n
    → IsAt xs ys (drop n ws) whole kept i → IsAt (swap xs kept i) ys (drop n ws) whole (kept + 1) (i + 1)
rest_at xs ys ws whole kept i n l m h =
    let none : Atom = record { symbol = record { 0 = 0 }; args = record { items = [] } } in
    let e : drop n ws ≡ [] = drop_all n ws m in
    subst (λ us. IsAt (swap xs kept i) ys us whole (kept + 1) (i + 1)) (sym e)
    (moved_last xs ys whole kept i (get_or xs i none) l (get_or_default xs i none (get_or xs i none) l)
    (subst (λ us. IsAt xs ys us whole kept i) e h))

-- at the end only what is kept is left
pub all_read : (xs ys ws whole : List Atom) (kept i : ℕ) → length ys ≤ i → IsAt xs ys ws whole kept i → take kept xs
    ≡ whole
all_read xs ys ws whole kept i l h =
    sym (append-nil (take kept xs)) ∙ ap (λ zs. take kept xs ++ without_subsequence atom_cmp zs ws)
    (sym (drop_all i ys l)) ∙ h.done

pub taken_out : (xs ys zs : List Atom) (b : Bool) → OnTrue b
    ((q : Atom) → count_in atom_cmp q zs ≡ count_in atom_cmp q xs - count_in atom_cmp q ys)
    → OnTrue b (of_list {R = atom_cmp} zs ≡ of_list xs ⊖ of_list ys)
taken_out xs ys zs true h = of_list_less atom_total atom_exact xs ys zs h
taken_out xs ys zs false h = h
