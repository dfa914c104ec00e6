use Rattle.std.proofs.Common.{◌≡◌, take}
use Rattle.std.specs.List.{filter}
use Rattle.chr_queries.specs.Wanted.{is_wanted}
use Rattle.chr_queries.proofs.finding.copies_of.Given as goal

abbrev pub invariant-loop-atom : goal.invariant-loop-atom
invariant-loop-atom l = l.copies.items ≡ filter (is_wanted l.wanted) (take l.atom-index l.atoms)
