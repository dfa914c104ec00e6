use Rattle.chr_refused_calls.proofs.seats.make.Given as goal

abbrev pub ghosts-run : goal.ghosts-run
ghosts-run g a = record { opening = a.opening }
