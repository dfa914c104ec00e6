use Rattle.chr_columns.specs.working.Finding.{ArePlain}
use Rattle.chr_columns.proofs.instances.plain_lookups.Given as goal

abbrev pub invariant-loop-place : goal.invariant-loop-place
invariant-loop-place l = ArePlain l.place l.lookups.items
