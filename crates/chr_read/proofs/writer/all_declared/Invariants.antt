use Rattle.std.proofs.Common.{◌≡◌, take, map}
use Rattle.chr_base.specs.Programs.{declarations}
use Rattle.chr_read.specs.working.Views.{declared_view}
use Rattle.chr_read.proofs.writer.all_declared.Given as goal

abbrev pub invariant-loop-place : goal.invariant-loop-place
invariant-loop-place l = map declared_view l.all.items ≡ take l.place (declarations l.program)
