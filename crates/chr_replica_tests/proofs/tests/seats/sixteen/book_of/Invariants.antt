use Rattle.chr_replica_tests.proofs.tests.seats.sixteen.book_of.Given as goal

abbrev pub ghosts-rested : goal.ghosts-rested
ghosts-rested g a = record { opening = a.opening }
