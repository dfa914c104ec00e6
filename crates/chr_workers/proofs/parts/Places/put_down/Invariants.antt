use Rattle.chr_workers.proofs.parts.Places.put_down.Given as goal

abbrev pub decreases-loop-lease : goal.decreases-loop-lease
decreases-loop-lease g l = goal.left-loop-lease g l
