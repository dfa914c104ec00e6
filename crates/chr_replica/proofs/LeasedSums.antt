-- What a part more or less makes of the sum of leased parts.
use Rattle.std.specs.Prelude.{◌≡◌, ℕ, ◌+◌, ◌<◌, List, [], ◌∷◌, Some, None, Option, Bool, true, false, cond, length, map}
use Rattle.std.specs.Option.{is_some}
use Rattle.std.proofs.Common.{refl, sym, ap, ◌∙◌, arith}
use mathlib.Core.Bool.{true≢false}
use Rattle.std.proofs.lemmas.Option.{none-some}
use Rattle.std.specs.declared.cmp.Ordering.{Ordering}
use Rattle.std.specs.declared.cmp.Ordering.TheVariants.{Less, Equal, Greater}
use Rattle.std.specs.Ordering.{nat_cmp, is_eq, eq_by_cmp}
use Rattle.std.specs.Cmp.{nat_cmp_total, eq_by_cmp_equiv}
use Rattle.std.specs.FinMap as finite
use Rattle.std.specs.FinMap.{find, put, nat_cmp-IsAntisymmetric}
use Rattle.std.specs.FinMap.Entries.{by_order}
use Rattle.chr_base.specs.FinBag as bag
use Rattle.chr_base.specs.FinBag.{◌⊕◌}
use Rattle.chr_base.specs.Stores.{Store, stores_sum}
use Rattle.chr_base.proofs.Stores.{plus_comm, plus_assoc, plus_empty}
use Rattle.chr_ops.proofs.Told.{swap_front}
use Rattle.chr_replica.specs.Leases.{Leases, leased_store, with_parts, AreBelow}

-- the parts of entries
abbrev parts_of : List (ℕ × Store) → List Store
parts_of es = map (λ e. e.1) es

sum-put : (k : ℕ) (v : Store) (es : List (ℕ × Store)) → find nat_cmp k es ≡ None
    → stores_sum (parts_of (put nat_cmp k v es)) ≡ v ⊕ stores_sum (parts_of es)
sum-put k v [] h = refl
sum-put k v (e ∷ es) h = by (nat_cmp k e.0) h (λ g. sum-put k v es g)
  where
    by : (r : Ordering) → cond (is_eq r) (Some e.1) (find nat_cmp k es) ≡ None
        → (find nat_cmp k es ≡ None → stores_sum (parts_of (put nat_cmp k v es)) ≡ v ⊕ stores_sum (parts_of es))
        → stores_sum (parts_of (by_order r ((k, v) ∷ e ∷ es) ((e.0, v) ∷ es) (e ∷ put nat_cmp k v es)))
        ≡ v ⊕ (e.1 ⊕ stores_sum (parts_of es))
    by Less g more = refl
    by Equal g more = absurd (true≢false (ap is_some g))
    by Greater g more = ap (λ s. e.1 ⊕ s) (more g) ∙ swap_front e.1 v (stores_sum (parts_of es))

-- a new number's part joins the sum
pub leased_more : (m : Leases) (k : ℕ) (v : Store) → finite.get m k ≡ None
    → leased_store (finite.insert m k v) ≡ leased_store m ⊕ v
leased_more m k v h =
    ap (λ es. stores_sum (parts_of es)) (finite.entries-insert nat_cmp_total m k v)
    ∙ sum-put k v (finite.entries m) (sym (finite.get-entries m k) ∙ h) ∙ plus_comm v (leased_store m)

pub same_number : (a b : ℕ) → eq_by_cmp nat_cmp a b ≡ true → a ≡ b
same_number a b h = nat_cmp-IsAntisymmetric a b (by (nat_cmp a b) h)
  where
    by : (r : Ordering) → is_eq r ≡ true → r ≡ Equal
    by Less p = absurd (true≢false (sym p))
    by Equal p = refl
    by Greater p = absurd (true≢false (sym p))

nothing_left : (m : Leases) (k : ℕ) → finite.get (finite.remove m k) k ≡ None
nothing_left m k =
    finite.get-remove nat_cmp_total m k k
    ∙ ap (λ b. cond b None (finite.get m k)) ((eq_by_cmp_equiv nat_cmp_total).refl k)

-- a part that is taken out and put in again is there as before
there_again : (m : Leases) (k : ℕ) (v : Store) → finite.get m k ≡ Some v
    → finite.insert (finite.remove m k) k v ≡ m
there_again m k v h = finite.same_map nat_cmp_total nat_cmp-IsAntisymmetric _ _ (λ q.
    finite.get-insert nat_cmp_total (finite.remove m k) k v q
    ∙ ap (cond (eq_by_cmp nat_cmp q k) (Some v)) (finite.get-remove nat_cmp_total m k q)
    ∙ by q (eq_by_cmp nat_cmp q k) refl)
  where
    by : (q : ℕ) (b : Bool) → eq_by_cmp nat_cmp q k ≡ b → cond b (Some v) (cond b None (finite.get m q))
        ≡ finite.get m q
    by q true e = sym (ap (finite.get m) (same_number q k e) ∙ h)
    by q false e = refl

-- a part that is taken out leaves the sum
pub leased_less : (m : Leases) (k : ℕ) (v : Store) → finite.get m k ≡ Some v
    → leased_store m ≡ leased_store (finite.remove m k) ⊕ v
leased_less m k v h =
    ap leased_store (sym (there_again m k v h)) ∙ leased_more (finite.remove m k) k v (nothing_left m k)

pub nothing_leased : leased_store finite.empty ≡ bag.empty
nothing_leased =
    none (finite.entries finite.empty)
    (sym (finite.len-entries finite.empty) ∙ finite.len-empty nat_cmp Store)
  where
    none : (es : List (ℕ × Store)) → length es ≡ 0 → stores_sum (parts_of es) ≡ bag.empty
    none [] h = refl
    none (e ∷ es) h = absurd (omega (arith, h))

-- a number above those that are out is not out
pub not_out : (m : Leases) (k : ℕ) → AreBelow m k → finite.get m k ≡ None
not_out m k below = by (finite.get m k) refl
  where
    by : (o : Option Store) → finite.get m k ≡ o → o ≡ None
    by None e = refl
    by (Some w) e = absurd (let h = below k w e in omega (arith, h))

pub below_next : (m : Leases) (k : ℕ) (v : Store) → AreBelow m k → AreBelow (finite.insert m k v) (k + 1)
below_next m k v below q w h = by (eq_by_cmp nat_cmp q k) refl (sym (finite.get-insert nat_cmp_total m k v q) ∙ h)
  where
    by : (b : Bool) → eq_by_cmp nat_cmp q k ≡ b → cond b (Some v) (finite.get m q) ≡ Some w → q < k + 1
    by true e g = let same = same_number q k e in omega (arith, same)
    by false e g = let less = below q w g in omega (arith, less)

pub below_less : (m : Leases) (k n : ℕ) → AreBelow m n → AreBelow (finite.remove m k) n
below_less m k n below q w h = below q w (by (eq_by_cmp nat_cmp q k) (sym (finite.get-remove nat_cmp_total m k q) ∙ h))
  where
    by : (b : Bool) → cond b None (finite.get m q) ≡ Some w → finite.get m q ≡ Some w
    by true g = absurd (none-some w g)
    by false g = g

-- several parts under rising numbers
pub below_parts : (ps : List Store) (m : Leases) (k : ℕ) → AreBelow m k → AreBelow (with_parts m k ps) (k + length ps)
below_parts [] m k below q w h = let less = below q w h in omega (arith, less)
below_parts (p ∷ ps) m k below q w h =
    let less : q < (k + 1) + length ps = below_parts ps (finite.insert m k p) (k + 1) (below_next m k p below) q w h in
    omega (arith, less)

pub leased_parts : (ps : List Store) (m : Leases) (k : ℕ) → AreBelow m k
    → leased_store (with_parts m k ps) ≡ leased_store m ⊕ stores_sum ps
leased_parts [] m k below = sym (plus_empty (leased_store m))
leased_parts (p ∷ ps) m k below =
    leased_parts ps (finite.insert m k p) (k + 1) (below_next m k p below)
    ∙ ap (λ s. s ⊕ stores_sum ps) (leased_more m k p (not_out m k below))
    ∙ plus_assoc (leased_store m) p (stores_sum ps)

-- what is put in under a number that is not out and taken out again leaves nothing
pub without_again : (m : Leases) (k : ℕ) (v : Store) → finite.get m k ≡ None → finite.remove (finite.insert m k v) k ≡ m
without_again m k v h = finite.same_map nat_cmp_total nat_cmp-IsAntisymmetric _ _ (λ q.
    finite.get-remove nat_cmp_total (finite.insert m k v) k q
    ∙ ap (cond (eq_by_cmp nat_cmp q k) None) (finite.get-insert nat_cmp_total m k v q)
    ∙ by q (eq_by_cmp nat_cmp q k) refl)
  where
    by : (q : ℕ) (b : Bool) → eq_by_cmp nat_cmp q k ≡ b → cond b None (cond b (Some v) (finite.get m q))
        ≡ finite.get m q
    by q true e = sym (ap (finite.get m) (same_number q k e) ∙ h)
    by q false e = refl

-- a part that is put in under another number before one is taken out may be put in after that
pub taken_before : (m : Leases) (k n : ℕ) (v : Store) → n < k
    → finite.remove (finite.insert m k v) n ≡ finite.insert (finite.remove m n) k v
taken_before m k n v less = finite.same_map nat_cmp_total nat_cmp-IsAntisymmetric _ _ (λ q.
    finite.get-remove nat_cmp_total (finite.insert m k v) n q
    ∙ ap (cond (eq_by_cmp nat_cmp q n) None) (finite.get-insert nat_cmp_total m k v q)
    ∙ by q (eq_by_cmp nat_cmp q n) (eq_by_cmp nat_cmp q k) refl refl
    ∙ sym (finite.get-insert nat_cmp_total (finite.remove m n) k v q
    ∙ ap (cond (eq_by_cmp nat_cmp q k) (Some v)) (finite.get-remove nat_cmp_total m n q)))
  where
    by : (q : ℕ) (a b : Bool) → eq_by_cmp nat_cmp q n ≡ a → eq_by_cmp nat_cmp q k ≡ b
        → cond a None (cond b (Some v) (finite.get m q)) ≡ cond b (Some v) (cond a None (finite.get m q))
    by q true true e f = absurd (let same = same_number q n e in let other = same_number q k f in
        omega (arith, less, same, other))
    by q true false e f = refl
    by q false true e f = refl
    by q false false e f = refl
