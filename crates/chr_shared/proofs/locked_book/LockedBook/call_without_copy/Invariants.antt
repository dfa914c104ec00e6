use Rattle.chr_shared.specs.Tie.{no_entry}
use Rattle.chr_shared.specs.Settling.{last_of}
use Rattle.chr_shared.proofs.locked_book.LockedBook.call_without_copy.Given as goal

abbrev pub ghosts-append_last : goal.ghosts-append_last
ghosts-append_last g a = record { entry = last_of no_entry a.book.now.entries }
