-- What the values of the code are as plain data.
use Rattle.std.specs.Borrow.{Bor}
use Rattle.std.specs.Prelude.{ℕ, List, map}
use Rattle.chr_base.specs.declared.atom.SymbolId.{SymbolId}
use Rattle.chr_base.specs.ProgramTests.{Declaration}
use Rattle.chr_read.specs.declared.progress.Reader.{Reader}
use Rattle.chr_read.specs.declared.writer.Declared.{Declared}
use Rattle.chr_read.specs.Meanings.{Progress, meaning_of}

-- slices of bytes
abbrev pub names_view : List (Bor (List ℕ)) → List (List ℕ)
names_view names = map (λ w. w.now) names

abbrev pub places_view : List SymbolId → List ℕ
places_view symbols = map (λ s. s.0) symbols

abbrev pub progress_of : Reader → Progress
progress_of r = record { meaning = meaning_of r.program; weighed = places_view r.weighed.items }

abbrev pub declared_view : Declared → Declaration
declared_view d = record { name = d.name.now; arity = d.arity; weight = d.weight }
