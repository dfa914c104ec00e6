use Rattle.std.proofs.Common.{ap}
use Rattle.chr_portions.proofs.Entries.{are_distinct}
use Rattle.chr_portions.proofs.index.Index.are_ranked.Goals as goal

pub returns-clause-distinct : goal.returns-clause-distinct
returns-clause-distinct c = rw (ap (λ x. x.ranks) c.self.view_is) at (are_distinct c.self.inside.records.items
    c.self.inside.places.items c.self.invariant.placed)
