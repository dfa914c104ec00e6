-- A receipt stands in the journal.
use Rattle.std.proofs.Common.{◌≡◌, ℕ, zero, suc, ◌+◌, ◌<◌, ◌≤◌, Bool, true, false, cond, List, [], ◌∷◌, ◌++◌, length}
use Rattle.std.proofs.Common.{All, ⊎_elim, sym, ap, ◌∙◌, subst, arith, get_or}
use Rattle.std.proofs.Math.Nat.{eq-or-lt_of_le}
use Rattle.std.proofs.lemmas.List.{get_or_default}
use Rattle.std.specs.Prelude.{filter}
use Rattle.std.specs.List.{Contains}
use Rattle.std.proofs.lemmas.List.Elements.{All-cons, All-contains, All-head, All-nil, All-same, Contains-append_right}
use Rattle.chr_acts.specs.declared.entry.Entry.{Entry}
use Rattle.chr_shared.specs.Openings.{SeatView}
use Rattle.chr_shared.specs.Tie.{of_seat}
use Rattle.chr_shared.specs.Seats.{HasOwn, IsReceiptOf}

kept : (b : Bool) (x : Entry) (ys xs : List Entry) (r : Entry) → (Contains ys r → Contains xs r) → (k : ℕ)
    → k < length (cond b (x ∷ ys) ys) → get_or (cond b (x ∷ ys) ys) k r ≡ r → Contains (x ∷ xs) r
kept true x ys xs r more zero lt e = (zero, omega arith, e)
kept true x ys xs r more (suc k) lt e = let c = more (k, omega arith, e) in let below = c.1 in
    (suc c.0, omega arith, c.2)
kept false x ys xs r more k lt e = let c = more (k, lt, e) in let below = c.1 in (suc c.0, omega arith, c.2)

contains_filter : (p : Entry → Bool) (xs : List Entry) (r : Entry) → Contains (filter p xs) r → Contains xs r
contains_filter p [] r h = h
contains_filter p (x ∷ xs) r h = kept (p x) x (filter p xs) xs r (contains_filter p xs r) h.0 h.1 h.2

pub placed : (journal all log : List Entry) → all ≡ journal ++ log → (seats : List SeatView) → All (HasOwn log) seats
    → (r : Entry) → IsReceiptOf seats r → Contains all r
placed journal all log is seats own r h =
    let o : h.0.list ≡ of_seat h.0.number log = All-contains (HasOwn log) seats h.0 own h.1 in
    let inside = contains_filter _ log r (subst (λ l. Contains l r) o h.2) in
    subst (λ l. Contains l r) (sym is) (Contains-append_right journal log r inside)

-- what holds of the one element of a list holds of all
pub all_of_one : {X : Type 0} (P : X → Type 0) (xs : List X) (x : X) → xs ≡ x ∷ [] → P x → All P xs
all_of_one P xs x is p = All-same P xs (x ∷ []) is (All-cons P x [] p (All-nil P))

pub of_one : {X : Type 0} (P : X → Type 0) (xs : List X) (x : X) → xs ≡ x ∷ [] → All P xs → P x
of_one P xs x is all = All-head P x [] (subst (All P) is all)

-- seats that are numbered from 1 on are so after one more
pub numbered_more : (seats : List SeatView) (k : ℕ) (x : SeatView) → x ≡ get_or seats k x → k < length seats → x.number
    ≡ k + 1
    → ((j : ℕ) (d : SeatView) → j < k → (get_or seats j d).number ≡ j + 1) → (j : ℕ) (d : SeatView) → j < k + 1
    → (get_or seats j d).number ≡ j + 1
numbered_more seats k x at lt is before j d below =
    let up_to : j ≤ k = omega (arith, below) in
    ⊎_elim
    (λ (same : j ≡ k). subst (λ i. (get_or seats i d).number ≡ i + 1) (sym same)
    (ap (λ (s : SeatView). s.number) (get_or_default seats k d x lt ∙ sym at) ∙ is))
    (λ (less : j < k). before j d less)
    (eq-or-lt_of_le up_to)
