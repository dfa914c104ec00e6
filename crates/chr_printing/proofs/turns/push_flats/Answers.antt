use Rattle.std.proofs.Common.{◌≡◌, ◌∙◌, ap, map}
use Rattle.chr_base.specs.Programs.{declarations}
use Rattle.chr_base.specs.Stores.{store_of}
use Rattle.chr_plans.specs.Grids.{contents}
use Rattle.chr_printing.specs.working.Portions.{atoms_at}
use Rattle.chr_printing.specs.working.Printing.{all_atoms, flats_atoms, rows_at}
use Rattle.chr_printing.proofs.Portioned.{store_at, whole}
use Rattle.chr_printing.proofs.turns.push_flats.Goals as goal

pub push_sorted-requires : goal.push_sorted-requires
push_sorted-requires c = c.in_ok-turns.ensures.fit (declarations c.args.program.now)

pub returns-clause-text : goal.returns-clause-text
returns-clause-text c =
    let same : store_of (all_atoms c.in_ok-turns.turns.items) ≡ contents (map rows_at c.args.tables.now) =
    ap store_of c.in_ok-turns.ensures.atoms ∙ ap (λ fs. store_of (flats_atoms fs)) c.deref.ensures.value
    ∙ c.sort_each.ensures ∙ (rw c.in-Some.is at c.in_ok-flats.ensures)
    ∙ ap store_of (whole (atoms_at c.args.tables.now)) ∙ store_at c.args.tables.now in
    rw same at (c.push_sorted.ensures.text)
