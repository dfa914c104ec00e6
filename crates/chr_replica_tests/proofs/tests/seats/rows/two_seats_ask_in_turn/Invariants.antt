use Rattle.chr_replica_tests.proofs.tests.seats.rows.two_seats_ask_in_turn.Given as goal

abbrev pub ghosts-of_two : goal.ghosts-of_two
ghosts-of_two g a = record { opening = a.opening }
