use Rattle.std.proofs.Common.{◌≡◌, ◌++◌, take}
use Rattle.chr_columns.specs.working.Listing.{live_in}
use Rattle.chr_columns.proofs.listing.push_live.Given as goal

abbrev pub invariant-loop-table : goal.invariant-loop-table
invariant-loop-table l = l.atoms.items ≡ l.fn.atoms.items ++ live_in (take l.table-index l.tables)
