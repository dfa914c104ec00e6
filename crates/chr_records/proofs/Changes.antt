-- The sum of a message tells each change of one byte.
use Rattle.std.proofs.Common.{◌≡◌, ◌⊎◌, inl, inr, ℕ, suc, ◌/◌, ◌%◌, ◌<◌, ◌≤◌, List, [], ◌∷◌, ◌++◌, sym, ◌∙◌, ap, arith}
use Rattle.std.proofs.Common.{All}
use Rattle.std.specs.Int.Bits.{bit_xor, xor_assoc, xor_self, xor_zero_r, xor_zero_l}
use Rattle.std.specs.List.{fold}
use Rattle.std.proofs.lemmas.Nat.{xor_comm, xor_lt, xor_shr}
use Rattle.std.proofs.lemmas.List.Sums.{fold-append}
use Rattle.std.proofs.lemmas.Bool.{cases_eq}
use Rattle.std.proofs.lemmas.Bool.Decides.{nat_tests}
use Rattle.chr_records.specs.Checksums.{shifted, twice, with_byte, crc_of}

xor_back : (a p : ℕ) → bit_xor (bit_xor a p) p ≡ a
xor_back a p = xor_assoc a p p ∙ ap (λ (x : ℕ). bit_xor a x) (xor_self p) ∙ xor_zero_r a

left_same : (a b p : ℕ) → bit_xor a p ≡ bit_xor b p → a ≡ b
left_same a b p is = sym (xor_back a p) ∙ ap (λ (x : ℕ). bit_xor x p) is ∙ xor_back b p

right_same : (p a b : ℕ) → bit_xor p a ≡ bit_xor p b → a ≡ b
right_same p a b is = left_same a b p (xor_comm a p ∙ is ∙ xor_comm p b)

even_step : (c : ℕ) → c % 2 ≡ 0 → shifted c ≡ c / 2
even_step c is = grind (arith, nat_tests)

odd_step : (c : ℕ) → c % 2 ≡ 1 → shifted c ≡ bit_xor (c / 2) 3988292384
odd_step c is = grind (arith, nat_tests)

parity : (c : ℕ) → (c % 2 ≡ 0) ⊎ (c % 2 ≡ 1)
parity c = elim (cases_eq (c % 2) 0) [
  | inl is ↦ inl is
  | inr other ↦ inr (omega (arith, other))
]

-- a number below 2^31 has the highest bit set once the polynomial is added
high : (x : ℕ) → x < 2147483648 → 2147483648 ≤ bit_xor x 3988292384
high x low =
    let top : x / 2147483648 ≡ 0 = omega (arith, low) in
    let is : bit_xor x 3988292384 / 2147483648 ≡ 1 =
    xor_shr x 3988292384 31 ∙ ap (λ (n : ℕ). bit_xor n 1) top ∙ xor_zero_l 1 in
    omega (arith, is)

-- the function keeps within 32 bits, and takes no two numbers of 32 bits to one
record IsGood (f : ℕ → ℕ) : Type 0 where
  within : (c : ℕ) → c < 4294967296 → f c < 4294967296
  same : (c d : ℕ) → c < 4294967296 → d < 4294967296 → f c ≡ f d → c ≡ d

shifted_within : (c : ℕ) → c < 4294967296 → shifted c < 4294967296
shifted_within c low = elim (parity c) [
  | inl is ↦ omega (arith, even_step c is, low)
  | inr is ↦ omega (arith, odd_step c is, xor_lt 32 (c / 2) 3988292384 (omega (arith, low)) (omega arith))
]

shifted_same : (c d : ℕ) → c < 4294967296 → d < 4294967296 → shifted c ≡ shifted d → c ≡ d
shifted_same c d low_c low_d is = elim (parity c) [
  | inl even_c ↦ elim (parity d) [
    | inl even_d ↦ omega (arith, even_step c even_c, even_step d even_d, is, even_c, even_d)
    | inr odd_d ↦
        absurd (omega (arith, even_step c even_c, odd_step d odd_d, is, low_c, high (d / 2) (omega (arith, low_d))))
  ]
  | inr odd_c ↦ elim (parity d) [
    | inl even_d ↦
        absurd (omega (arith, odd_step c odd_c, even_step d even_d, is, low_d, high (c / 2) (omega (arith, low_c))))
    | inr odd_d ↦
        let half = left_same (c / 2) (d / 2) 3988292384 (sym (odd_step c odd_c) ∙ is ∙ odd_step d odd_d) in
        omega (arith, half, odd_c, odd_d)
  ]
]

shifted_good : IsGood shifted
shifted_good = record { within = shifted_within; same = shifted_same }

twice_good : (f : ℕ → ℕ) → IsGood f → IsGood (twice f)
twice_good f good = record {
  within = λ c low. good.within (f c) (good.within c low);
  same = λ c d low_c low_d is.
      good.same c d low_c low_d (good.same (f c) (f d) (good.within c low_c) (good.within d low_d) is);
}

by_eight : IsGood (twice (twice (twice shifted)))
by_eight = twice_good (twice (twice shifted)) (twice_good (twice shifted) (twice_good shifted shifted_good))

mixed_low : (c b : ℕ) → c < 4294967296 → b < 256 → bit_xor c b < 4294967296
mixed_low c b low byte = xor_lt 32 c b low (omega (arith, byte))

byte_within : (c b : ℕ) → c < 4294967296 → b < 256 → with_byte c b < 4294967296
byte_within c b low byte = by_eight.within (bit_xor c b) (mixed_low c b low byte)

byte_same : (c d b : ℕ) → c < 4294967296 → d < 4294967296 → b < 256 → with_byte c b ≡ with_byte d b → c ≡ d
byte_same c d b low_c low_d byte is =
    left_same c d b (by_eight.same (bit_xor c b) (bit_xor d b) (mixed_low c b low_c byte) (mixed_low d b low_d byte) is)

abbrev AreBytes : List ℕ → Type 0
AreBytes bytes = All (λ b. b < 256) bytes

first_byte : (b : ℕ) (bytes : List ℕ) → AreBytes (b ∷ bytes) → b < 256
first_byte b bytes are = are 0 0 (omega arith)

other_bytes : (b : ℕ) (bytes : List ℕ) → AreBytes (b ∷ bytes) → AreBytes bytes
other_bytes b bytes are = λ k d low. are (suc k) d (omega (arith, low))

bytes_within : (c : ℕ) (bytes : List ℕ) → c < 4294967296 → AreBytes bytes → fold with_byte c bytes < 4294967296
bytes_within c [] low are = low
bytes_within c (b ∷ bytes) low are =
    bytes_within (with_byte c b) bytes (byte_within c b low (first_byte b bytes are)) (other_bytes b bytes are)

bytes_same : (c d : ℕ) (bytes : List ℕ) → c < 4294967296 → d < 4294967296 → AreBytes bytes
    → fold with_byte c bytes ≡ fold with_byte d bytes → c ≡ d
bytes_same c d [] low_c low_d are is = is
bytes_same c d (b ∷ bytes) low_c low_d are is =
    let byte = first_byte b bytes are in
    byte_same c d b low_c low_d byte
    (bytes_same (with_byte c b) (with_byte d b) bytes (byte_within c b low_c byte) (byte_within d b low_d byte)
    (other_bytes b bytes are) is)

pub one_change : (front rest : List ℕ) (a b : ℕ) → All (λ x. x < 256) front → All (λ x. x < 256) rest → a < 256
    → b < 256
    → crc_of (front ++ a ∷ rest) ≡ crc_of (front ++ b ∷ rest) → a ≡ b
one_change front rest a b front_are rest_are byte_a byte_b is =
    let c = fold with_byte 4294967295 front in
    let low = bytes_within 4294967295 front (omega arith) front_are in
    let folded =
    sym (fold-append with_byte 4294967295 front (a ∷ rest))
    ∙ left_same _ _ 4294967295 is
    ∙ fold-append with_byte 4294967295 front (b ∷ rest) in
    let register =
    bytes_same (with_byte c a) (with_byte c b) rest (byte_within c a low byte_a) (byte_within c b low byte_b) rest_are
    folded in
    right_same c a b
    (by_eight.same (bit_xor c a) (bit_xor c b) (mixed_low c a low byte_a) (mixed_low c b low byte_b) register)
