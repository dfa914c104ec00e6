use Rattle.chr_replica_tests.proofs.tests.seats.halls.both_halls_know_the_winner.Given as goal

abbrev pub ghosts-auction-J-Naming : goal.ghosts-auction-J-Naming
ghosts-auction-J-Naming g a = record { opening = a.first }

abbrev pub ghosts-auction-K-Naming : goal.ghosts-auction-K-Naming
ghosts-auction-K-Naming g a = record { opening = a.second }
