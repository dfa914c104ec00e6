use Rattle.std.proofs.Common.{◌≡◌, ◌++◌, length}
use Rattle.chr_records.specs.Records.{records_of, bytes_of}
use Rattle.chr_records.specs.Records.{texts_in}
use Rattle.chr_records.proofs.reading.read_records.Given as goal

abbrev pub invariant-loop-text : goal.invariant-loop-text
invariant-loop-text l = record {
  read : records_of l.bytes ≡ texts_in l.texts.items ++ records_of l.rest;
  split : l.bytes ≡ bytes_of (texts_in l.texts.items) ++ l.rest;
}

abbrev pub decreases-loop-text : goal.decreases-loop-text
decreases-loop-text l = length l.rest
