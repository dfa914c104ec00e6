-- Numbers of symbols, each taken as often as the symbol stands somewhere.
use Rattle.std.specs.Prelude.{◌≡◌, ℕ, zero, suc, ◌+◌, ◌*◌, ◌<◌, ◌≤◌, Bool, true, false, cond, nat_eq, List, [], ◌∷◌}
use Rattle.std.specs.Prelude.{length, sum, Some, slice_get}
use Rattle.std.proofs.Common.{refl, ap, arith}
use Rattle.std.proofs.Math.Nat.{mul-le-mul_left, mul-suc}
use Rattle.std.proofs.lemmas.Bool.Decides.{nat_tests}
use Rattle.std.proofs.lemmas.List.Sums.{sum_by-cons}

-- the first n of the numbers f, each taken as often as c says, summed
abbrev pub dot : ℕ → (ℕ → ℕ) → (ℕ → ℕ) → ℕ
dot zero f c = 0
dot (suc n) f c = f n * c n + dot n f c

pub dot_none : (n : ℕ) (f : ℕ → ℕ) → dot n f (λ s. 0) ≡ 0
dot_none zero f = refl
dot_none (suc n) f = let h = dot_none n f in omega (arith, h)

pub dot_plus : (n : ℕ) (f c d : ℕ → ℕ) → dot n f (λ s. c s + d s) ≡ dot n f c + dot n f d
dot_plus zero f c d = refl
dot_plus (suc n) f c d = let h = dot_plus n f c d in omega (arith, h)

pub dot_same : (n : ℕ) (f c d : ℕ → ℕ) → ((s : ℕ) → c s ≡ d s) → dot n f c ≡ dot n f d
dot_same n f c d e = λ i. dot n f (λ s. e s i)

pub dot_times : (n : ℕ) (f c : ℕ → ℕ) (k : ℕ) → dot n f (λ s. k * c s) ≡ k * dot n f c
dot_times zero f c k = omega arith
dot_times (suc n) f c k = let h = dot_times n f c k in omega (arith, h)

pub dot_rises : (n : ℕ) (f c d : ℕ → ℕ) → ((s : ℕ) → s < n → c s ≤ d s) → dot n f c ≤ dot n f d
dot_rises zero f c d h = omega arith
dot_rises (suc n) f c d h =
    let a = mul-le-mul_left {m = c n} {n = d n} (f n) (h n (omega arith)) in
    let b = dot_rises n f c d (λ s l. h s (omega (arith, l))) in
    omega (arith, a, b)

-- a symbol that stands once
abbrev pub once : ℕ → ℕ → ℕ
once x s = cond (nat_eq x s) 1 0

dot_other : (n : ℕ) (f : ℕ → ℕ) (x : ℕ) → n ≤ x → dot n f (once x) ≡ 0
dot_other zero f x l = refl
dot_other (suc n) f x l =
    let h = dot_other n f x (omega (arith, l)) in
    let e : nat_eq x n ≡ false = grind (arith, nat_tests) in
    let k : once x n ≡ 0 = rw e refl in
    let m : f n * once x n ≡ f n * 0 = ap (λ o. f n * o) k in
    omega (arith, h, m)

one_more : (n : ℕ) (f : ℕ → ℕ) (x : ℕ) → x < suc n → (x < n → dot n f (once x) ≡ f x) → (b : Bool) → nat_eq x n ≡ b
    → dot (suc n) f (once x) ≡ f x
one_more n f x l more true e =
    let same : x ≡ n = grind (arith, nat_tests) in
    let h = dot_other n f x (omega (arith, same)) in
    let k : once x n ≡ 1 = rw e refl in
    let m : f n * once x n ≡ f n * 1 = ap (λ o. f n * o) k in
    let v : f x ≡ f n = ap f same in
    omega (arith, h, m, v)
one_more n f x l more false e =
    let less : x < n = grind (arith, nat_tests) in
    let h = more less in
    let k : once x n ≡ 0 = rw e refl in
    let m : f n * once x n ≡ f n * 0 = ap (λ o. f n * o) k in
    omega (arith, h, m)

pub dot_once : (n : ℕ) (f : ℕ → ℕ) (x : ℕ) → x < n → dot n f (once x) ≡ f x
dot_once zero f x l = absurd (omega (arith, l))
dot_once (suc n) f x l = one_more n f x l (λ m. dot_once n f x m) (nat_eq x n) refl

-- what f gives for the items, each taken its number of times, summed
abbrev pub taken_times : {A : Type 0} → (A → ℕ) → List A → List ℕ → ℕ
taken_times f [] times = 0
taken_times f (x ∷ xs) [] = 0
taken_times f (x ∷ xs) (k ∷ times) = k * f x + taken_times f xs times

-- where f is less than g for each item, the sum by f is less by the number of all times at least
pub taken_less : {A : Type 0} (f g : A → ℕ) (xs : List A) (times : List ℕ) → length times ≡ length xs
    → ((i : ℕ) (x : A) → slice_get xs i ≡ Some x → f x < g x)
    → taken_times f xs times + sum times ≤ taken_times g xs times
taken_less f g [] [] l h = omega arith
taken_less f g [] (k ∷ times) l h = absurd (omega (arith, l))
taken_less f g (x ∷ xs) [] l h = absurd (omega (arith, l))
taken_less f g (x ∷ xs) (k ∷ times) l h =
    let a = mul-le-mul_left {m = suc (f x)} {n = g x} k (h 0 x refl) in
    let b = mul-suc k (f x) in
    let c = taken_less f g xs times (omega (arith, l)) (λ i y e. h (suc i) y e) in
    let d : sum (k ∷ times) ≡ k + sum times = sum_by-cons (λ n. n) k times in
    omega (arith, a, b, c, d)
