-- A count's step.
use Rattle.std.proofs.Common.{◌≡◌, ℕ, ◌+◌, ◌-◌, ◌<◌, ap, true, false, cond, List, length, get_or, take, arith, refl}
use Rattle.std.specs.Ordering.{eq_by_cmp}
use Rattle.chr_base.specs.declared.atom.Atom.{Atom}
use Rattle.chr_base.specs.Atoms.{atom_cmp}
use Rattle.chr_base.proofs.Atoms.{atom_total}
use Rattle.chr_base.specs.FinBag.{count_in, without}
use Rattle.chr_base.proofs.FinBags.{count_in-without}
use Rattle.chr_base.proofs.ListEdits.{count_in_more}

pub more : (q : Atom) (xs : List Atom) (i : ℕ) (d : Atom) → i < length xs
    → count_in atom_cmp q (take (i + 1) xs) ≡ cond (eq_by_cmp atom_cmp q (get_or xs i d)) 1 0 + count_in atom_cmp q
    (take i xs)
more q xs i d h = count_in_more atom_cmp q xs i d h

pub more_at : (q : Atom) (xs es fs : List Atom) (i : ℕ) (x : Atom) → i < length xs → x ≡ get_or xs i x
    → count_in atom_cmp q es ≡ count_in atom_cmp q fs - count_in atom_cmp q (take i xs)
    → count_in atom_cmp q (without atom_cmp x es) ≡ count_in atom_cmp q fs - count_in atom_cmp q (take (i + 1) xs)
more_at q xs es fs i x l is h =
    let a = count_in-without atom_cmp atom_total q x es in
    let b = count_in_more atom_cmp q xs i x l in
    let d : ◌≡◌ {A = ℕ} (cond (eq_by_cmp atom_cmp q x) 1 0) (cond (eq_by_cmp atom_cmp q (get_or xs i x)) 1 0) =
    ap (λ y. let n : ℕ = cond (eq_by_cmp atom_cmp q y) 1 0 in n) is in
    omega (arith, a, b, d, h)

pub counted_yes : (q : Atom) (xs : List Atom) (i n m : ℕ) (x : Atom) → i < length xs → x ≡ get_or xs i x
    → eq_by_cmp atom_cmp q x ≡ true
    → n ≡ count_in atom_cmp q (take i xs) → m ≡ n + 1 → m ≡ count_in atom_cmp q (take (i + 1) xs)
counted_yes q xs i n m x l is hit h e =
    let b = count_in_more atom_cmp q xs i x l in
    let d : ◌≡◌ {A = ℕ} (cond (eq_by_cmp atom_cmp q (get_or xs i x)) 1 0) 1 = rw (← is, hit) refl in
    omega (arith, b, d, h, e)

pub counted_no : (q : Atom) (xs : List Atom) (i n m : ℕ) (x : Atom) → i < length xs → x ≡ get_or xs i x
    → eq_by_cmp atom_cmp q x ≡ false
    → n ≡ count_in atom_cmp q (take i xs) → m ≡ n → m ≡ count_in atom_cmp q (take (i + 1) xs)
counted_no q xs i n m x l is miss h e =
    let b = count_in_more atom_cmp q xs i x l in
    let d : ◌≡◌ {A = ℕ} (cond (eq_by_cmp atom_cmp q (get_or xs i x)) 1 0) 0 = rw (← is, miss) refl in
    omega (arith, b, d, h, e)
