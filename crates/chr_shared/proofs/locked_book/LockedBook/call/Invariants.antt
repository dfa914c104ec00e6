use Rattle.chr_shared.proofs.locked_book.LockedBook.call.Given as goal

abbrev pub ghosts-append : goal.ghosts-append
ghosts-append g a = record { entry = a.entry.now }
