-- How the parts of a cut and what is left go on.
use Rattle.std.specs.Prelude.{◌≡◌, ℕ, ◌+◌, ◌-◌, ◌*◌, ◌<◌, ◌≤◌, List, [], ◌∷◌, ◌++◌, length, get_or, All}
use Rattle.std.proofs.Common.{rules, Bool, true, false, nat_lt, refl, sym, ap, ◌∙◌, arith}
use Rattle.std.proofs.lemmas.List.{length-append}
use Rattle.std.proofs.lemmas.List.Elements.{All-push, All-get_or, All-from_get_or}
use Rattle.std.proofs.lemmas.Bool.Decides.{nat_tests}
use Rattle.chr_base.specs.declared.atom.Atom.{Atom}
use Rattle.chr_base.specs.Atoms.{atom_cmp}
use Rattle.chr_base.specs.FinBag as bag
use Rattle.chr_base.specs.FinBag.{◌⊕◌}
use Rattle.chr_base.specs.Stores.{Store, store_of, size, count, stores_sum}
use Rattle.chr_base.proofs.FinBags.{of_list-none}
use Rattle.chr_base.proofs.Stores.{store_of-append, plus_assoc, plus_comm, plus_empty, size_store_of}
use Rattle.chr_replica.specs.Leases.{parts_in, AreEven, AreNumbered}
use Rattle.chr_join.specs.declared.lease.Lease.{Lease}
use Rattle.chr_replica.specs.working.Cuts.{IsNear, AreCut}

pub stores_sum-push : (ss : List Store) (s : Store) → stores_sum (ss ++ s ∷ []) ≡ stores_sum ss ⊕ s
stores_sum-push [] s = plus_empty s ∙ sym (plus_comm bag.empty s ∙ plus_empty s)
stores_sum-push (x ∷ ss) s = ap (λ t. x ⊕ t) (stores_sum-push ss s) ∙ sym (plus_assoc x (stores_sum ss) s)

-- one more part takes q of what is left, and one of what is over
left_less : (m q : ℕ) → (m + 1) * q ≡ m * q + q
left_less m q = grind arith

pub wanted_fits : (q more n k w : ℕ) (atoms rest : List Atom) (parts : List Store) → k < n → (k < more → w ≡ q + 1)
    → (more ≤ k → w ≡ q) → AreCut q more n k atoms rest parts → w ≤ length rest
wanted_fits q more n k w atoms rest parts within big small cut = by (nat_lt k more) refl
  where
    m : ℕ
    m = n - (k + 1)

    same : (n - k) * q ≡ m * q + q
    same = ap (λ x. x * q) (let e : n - k ≡ m + 1 = omega (arith, within) in e) ∙ left_less m q

    by : (b : Bool) → nat_lt k more ≡ b → w ≤ length rest
    by true e = let less : k < more = grind (arith, nat_tests) in let is = big less in let l = cut.left in
        omega (arith, less, is, l, same)
    by false e = let least : more ≤ k = grind (arith, nat_tests) in let is = small least in let l = cut.left in
        omega (arith, least, is, l, same)

pub cut_more : (q more n k w : ℕ) (atoms rest part after : List Atom) (parts : List Store) (b : Store) → k < n
    → (k < more → w ≡ q + 1) → (more ≤ k → w ≡ q) → rest ≡ part ++ after → length part ≡ w → b ≡ store_of part
    → AreCut q more n k atoms rest parts → AreCut q more n (k + 1) atoms after (parts ++ b ∷ [])
cut_more q more n k w atoms rest part after parts b within big small split size_is bag_is cut = by (nat_lt k more) refl
  where
    m : ℕ
    m = n - (k + 1)

    same : (n - k) * q ≡ m * q + q
    same = ap (λ x. x * q) (let e : n - k ≡ m + 1 = omega (arith, within) in e) ∙ left_less m q

    lengths : length rest ≡ w + length after
    lengths = ap length split ∙ length-append part after ∙ ap (λ x. x + length after) size_is

    sizes : size b ≡ w
    sizes = ap size bag_is ∙ size_store_of part ∙ size_is

    whole : stores_sum (parts ++ b ∷ []) ⊕ store_of after ≡ store_of atoms
    whole =
        ap (λ t. t ⊕ store_of after) (stores_sum-push parts b ∙ ap (λ x. stores_sum parts ⊕ x) bag_is)
        ∙ plus_assoc (stores_sum parts) (store_of part) (store_of after)
        ∙ ap (λ x. stores_sum parts ⊕ x) (sym (ap store_of split ∙ store_of-append part after)) ∙ cut.sum

    count : length (parts ++ b ∷ []) ≡ k + 1
    count = length-append parts (b ∷ []) ∙ ap (λ x. x + 1) cut.count

    by : (c : Bool) → nat_lt k more ≡ c → AreCut q more n (k + 1) atoms after (parts ++ b ∷ [])
    by true e =
        let less : k < more = grind (arith, nat_tests) in
        let is = big less in
        let l = cut.left in
        record {
          count = count;
          left = omega (arith, less, is, l, same, lengths);
          sum = whole;
          even =
              All-push (IsNear q) parts b cut.even (omega (arith, sizes, is), omega (arith, sizes, is));
        }
    by false e =
        let least : more ≤ k = grind (arith, nat_tests) in
        let is = small least in
        let l = cut.left in
        record {
          count = count;
          left = omega (arith, least, is, l, same, lengths);
          sum = whole;
          even =
              All-push (IsNear q) parts b cut.even (omega (arith, sizes, is), omega (arith, sizes, is));
        }

pub cut_first : (q more n : ℕ) (atoms : List Atom) → n * q + more ≡ length atoms → AreCut q more n 0 atoms atoms []
cut_first q more n atoms h =
    record {
      count = refl;
      left = (let e : n - 0 ≡ n = omega arith in let f = ap (λ x. x * q) e in omega (arith, f, h));
      sum = plus_comm bag.empty (store_of atoms) ∙ plus_empty (store_of atoms);
      even = All-nil;
    }
  where
    All-nil : All (IsNear q) []
    All-nil = search rules

-- all parts are cut
pub all_cut : (q more n k : ℕ) (atoms rest : List Atom) (parts : List Store) → k ≡ n → more < n
    → AreCut q more n k atoms rest parts → stores_sum parts ≡ store_of atoms
all_cut q more n k atoms rest parts end less cut = by rest cut.sum none
  where
    none : length rest ≡ 0
    none = let e : n - k ≡ 0 = omega (arith, end) in let f = ap (λ x. x * q) e in let l = cut.left in
        omega (arith, l, f, less, end)

    by : (rs : List Atom) → stores_sum parts ⊕ store_of rs ≡ store_of atoms → length rs ≡ 0 → stores_sum parts
        ≡ store_of atoms
    by [] h e = sym (ap (λ t. stores_sum parts ⊕ t) (of_list-none atom_cmp) ∙ plus_empty (stores_sum parts)) ∙ h
    by (r ∷ rs) h e = absurd (omega (arith, e))

-- sizes that are near one number are even
pub near_even : (q : ℕ) (ss : List Store) → All (IsNear q) ss → AreEven ss
near_even q ss h =
    All-from_get_or (λ s. All (λ t. size s ≤ size t + 1) ss) ss bag.empty (λ i l.
    All-from_get_or (λ t. size (get_or ss i bag.empty) ≤ size t + 1) ss bag.empty (λ j m.
    by _ _ (All-get_or (IsNear q) ss i bag.empty l h) (All-get_or (IsNear q) ss j bag.empty m h)))
  where
    by : (s t : Store) → IsNear q s → IsNear q t → size s ≤ size t + 1
    by s t a b = let above = a.1 in let below = b.0 in omega (arith, above, below)

pub numbered_more : (k : ℕ) (ls : List Lease) (l : Lease) → AreNumbered k ls → l.number ≡ k + length (parts_in ls)
    → AreNumbered k (ls ++ l ∷ [])
numbered_more k [] l h e = (omega (arith, e), tt)
numbered_more k (x ∷ ls) l h e = (h.0, numbered_more (k + 1) ls l h.1 (omega (arith, e)))

pub parts_in-push : (ls : List Lease) (l : Lease) → parts_in (ls ++ l ∷ []) ≡ parts_in ls ++ l.part ∷ []
parts_in-push [] l = refl
parts_in-push (x ∷ ls) l = ap (λ ps. x.part ∷ ps) (parts_in-push ls l)
