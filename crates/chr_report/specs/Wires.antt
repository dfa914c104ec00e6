-- A reader and a writer as one.
use Rattle.std.specs.Prelude.{Bool, ◌||◌}
use Rattle.chr_device.specs.Devices.{inner_of, has_failed}
use Rattle.chr_report.specs.declared.wire.Streams.{Streams}

abbrev pub reader_of : {R W : Type 0} → Streams R W → R
reader_of s = inner_of s.reader

abbrev pub writer_of : {R W : Type 0} → Streams R W → W
writer_of s = inner_of s.writer

-- the reader or the writer has failed
abbrev pub is_broken : {R W : Type 0} → Streams R W → Bool
is_broken s = has_failed s.reader || has_failed s.writer
