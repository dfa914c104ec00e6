use Rattle.std.proofs.Common.{◌≡◌, drop}
use Rattle.chr_base.specs.Programs.{declarations}
use Rattle.chr_node_lines.specs.Asked.{has_name}
use Rattle.chr_node_lines.proofs.request.has_name.Given as goal

abbrev pub invariant-loop-place : goal.invariant-loop-place
invariant-loop-place l =
    has_name (drop l.place (declarations l.program)) l.name ≡ has_name (declarations l.program) l.name
