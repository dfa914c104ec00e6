-- Messages with their checksums: CRC-32 (the polynomial of Ethernet, zlib and PNG), in hexadecimal digits.
use Rattle.std.specs.Prelude.{ℕ, ◌+◌, ◌/◌, ◌%◌, ◌==◌, nat_lt, if◌then◌else◌, List, [], ◌∷◌, ◌++◌, map}
use Rattle.std.specs.Int.Bits.{bit_xor}
use Rattle.std.specs.List.{fold}

-- the lowest bit goes out, and where it was set the polynomial comes in
abbrev pub shifted : ℕ → ℕ
shifted crc = if crc % 2 == 0 then crc / 2 else bit_xor (crc / 2) 3988292384

abbrev pub twice : (ℕ → ℕ) → ℕ → ℕ
twice f n = f (f n)

-- the register after one byte more
abbrev pub with_byte : ℕ → ℕ → ℕ
with_byte crc byte = twice (twice (twice shifted)) (bit_xor crc byte)

abbrev pub crc_of : List ℕ → ℕ
crc_of message = bit_xor (fold with_byte 4294967295 message) 4294967295

-- '0' to '9', and 'a' to 'f'
abbrev pub hex_digit : ℕ → ℕ
hex_digit n = if nat_lt n 10 then 48 + n else 87 + n

abbrev pub digit_of : ℕ → ℕ → ℕ
digit_of crc place = hex_digit (crc / place % 16)

-- the digits of the powers of 16, the highest first, and a space
abbrev pub checksum_of : List ℕ → List ℕ
checksum_of message =
    map (digit_of (crc_of message)) (268435456 ∷ 16777216 ∷ 1048576 ∷ 65536 ∷ 4096 ∷ 256 ∷ 16 ∷ 1 ∷ []) ++ 32 ∷ []

-- the text that keeps a message: its checksum, and the message
abbrev pub text_of : List ℕ → List ℕ
text_of message = checksum_of message ++ message
