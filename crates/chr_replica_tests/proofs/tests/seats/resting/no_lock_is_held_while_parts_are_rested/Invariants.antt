use Rattle.chr_replica_tests.proofs.tests.seats.resting.no_lock_is_held_while_parts_are_rested.Given as goal

abbrev pub ghosts-share : goal.ghosts-share
ghosts-share g a = record { opening = a.opening }
