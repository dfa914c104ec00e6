-- The hash of a key.
use Rattle.std.specs.Prelude.{ℕ, ℤ, ◌*◌, ◌%◌, ◌/◌, ◌^◌, List, [], ◌∷◌, bit_xor}
use Rattle.std.specs.Int.{cast_unsigned}
use mir.Syntax.{w64}

-- a word with its high bits folded down by k places, times m
abbrev pub fold_mul : ℕ → ℕ → ℕ → ℕ
fold_mul word k m = (bit_xor word (word / 2 ^ k) * m) % 2 ^ 64

-- a word with its bits mixed, by the finalizer of SplitMix64
unfoldable pub mix : ℕ → ℕ
mix word =
    let twice = fold_mul (fold_mul word 30 0xBF58476D1CE4E5B9) 27 0x94D049BB133111EB in
    bit_xor twice (twice / 2 ^ 31)

-- these values in a hash
abbrev pub mixed : ℕ → List ℤ → ℕ
mixed state [] = state
mixed state (x ∷ xs) = mixed (mix (bit_xor state (cast_unsigned w64 x))) xs

-- the hash of a key, of 32 bits, under this seed
abbrev pub key_hash : ℕ → List ℤ → ℕ
key_hash seed key = mixed seed key % 2 ^ 32
