-- The number by which a run refuses a line with a mistake.
use Rattle.std.specs.Prelude.{ℕ}
use Rattle.chr_lines.specs.declared.mistake.Mistake.{Mistake}
use Rattle.chr_lines.specs.declared.mistake.Mistake.TheVariants as mistake

abbrev pub mistake_number : Mistake → ℕ
mistake_number mistake.TooLong = 30
mistake_number (mistake.NoJson it) = 30
mistake_number (mistake.NoCommand it) = 31
mistake_number (mistake.Undeclared it) = 32
mistake_number (mistake.NoReplica it) = 35
