use Rattle.std.proofs.Common.{◌≡◌, ◌∙◌, map, subst, sym}
use Rattle.chr_base.specs.Programs.{declarations}
use Rattle.chr_base.specs.Stores.{store_of}
use Rattle.chr_plans.specs.Grids.{contents}
use Rattle.chr_printing.specs.working.Portions.{atoms_at, ArePortions}
use Rattle.chr_printing.specs.working.Printing.{all_atoms, rows_at}
use Rattle.chr_printing.proofs.Portioned.{store_at}
use Rattle.chr_printing.proofs.turns.push_portions.Goals as goal

pub returns-clause-text : goal.returns-clause-text
returns-clause-text g c =
    let ds = declarations c.args.program.now in
    let cuts = c.args.cuts.now in
    let atoms = atoms_at c.args.tables.now in
    let are = subst (ArePortions ds cuts atoms) (sym c.deref.ensures.value) c.in_ok-portions.ensures in
    let turns = rw c.in-Some.is at (c.in_ok-turns.ensures.atoms) in
    let same : store_of (all_atoms c.in-Some.turns.items) ≡ contents (map rows_at c.args.tables.now) =
    turns ds cuts atoms are ∙ store_at c.args.tables.now in
    rw same at (c.push_sorted.ensures.text)
