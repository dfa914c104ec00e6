use Rattle.std.proofs.Common.{◌≡◌, take}
use Rattle.std.specs.List.{filter}
use Rattle.chr_base.specs.Programs.{declarations}
use Rattle.chr_queries.specs.Named.{is_named}
use Rattle.chr_queries.proofs.naming.copies_named.Given as goal

abbrev pub invariant-loop-atom : goal.invariant-loop-atom
invariant-loop-atom l =
    l.copies.items ≡ filter (is_named (declarations l.program) l.name) (take l.atom-index l.atoms)
