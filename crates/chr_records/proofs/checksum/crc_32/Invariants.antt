use Rattle.std.proofs.Common.{◌≡◌, drop}
use Rattle.std.specs.List.{fold}
use Rattle.chr_records.specs.Checksums.{with_byte}
use Rattle.chr_records.proofs.checksum.crc_32.Given as goal

abbrev pub invariant-loop-byte : goal.invariant-loop-byte
invariant-loop-byte l = fold with_byte l.crc (drop l.byte-index l.message) ≡ fold with_byte 4294967295 l.message
