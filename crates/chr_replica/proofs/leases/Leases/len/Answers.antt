use Rattle.std.proofs.Common.{rules, ap, sym, ◌∙◌}
use Rattle.std.specs.FinMap as map
use Rattle.std.specs.List.Sorted.{IsStrictlySortedBy}
use Rattle.std.specs.Map.{keys_of}
use Rattle.std.specs.Ordering.{nat_cmp}
use Rattle.chr_replica.proofs.LeaseLists.{leases_len, no_leases}
use Rattle.chr_replica.proofs.leases.Leases.len.Goals as goal

pub returns-clause-count : goal.returns-clause-count
returns-clause-count c =
    let es = c.self.inside.parts.entries in
    let ordered : IsStrictlySortedBy nat_cmp (keys_of es) = search rules in
    c.len.ensures.len ∙ sym (leases_len es ordered) ∙ ap map.len c.self.view_is

pub returns-clause-none : goal.returns-clause-none
returns-clause-none c = λ e. sym c.self.view_is ∙ no_leases c.self.inside.parts.entries (sym c.len.ensures.len ∙ e)
