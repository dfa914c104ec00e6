use Rattle.chr_replica_tests.proofs.tests.random.books.book_of.Given as goal

abbrev pub ghosts-asked : goal.ghosts-asked
ghosts-asked g a = record { opening = a.opening }
