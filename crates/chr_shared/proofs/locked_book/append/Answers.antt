use Rattle.std.proofs.Common.{ap, ◌∙◌}
use Rattle.chr_shared.proofs.Moves.{appends}
use Rattle.chr_shared.proofs.locked_book.append.Goals as goal

pub load-requires : goal.load-requires
load-requires g c =
    let h = c.requires.hosts in
    (c.requires.table.0, c.requires.table.1, appends _ _ _ _ h.0 h.1 (h.2 ∙ ap (λ e. e.seat) c.requires.name))
