-- The code of books.
use Rattle.std.specs.Prelude.{List}
use Rattle.std.proofs.Common.{refl}
use Rattle.std.specs.Coded.{Coded, code_by, coded×}
use Rattle.chr_replica.specs.Boards.{Held}
use Rattle.chr_replica.specs.working.Codes.{coded_held}
use Rattle.chr_acts.specs.declared.entry.Entry.{Entry}
use Rattle.chr_acts.specs.working.Journals.{coded_journal}
use Rattle.chr_acts.specs.Books.{Kept}

abbrev pub coded_kept : Coded Kept
coded_kept =
    code_by (Held × List Entry) (coded× coded_held coded_journal) (λ k. (k.board, k.entries))
    (λ p. record { board = p.0; entries = p.1 }) (λ _. refl)
