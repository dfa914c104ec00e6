use Rattle.chr_types.proofs.counting.+most_types.Given as goal

abbrev pub decreases-most_types : goal.decreases-most_types
decreases-most_types l = l.classes
