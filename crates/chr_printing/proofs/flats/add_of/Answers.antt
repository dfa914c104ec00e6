use Rattle.std.proofs.Common.{◌∙◌}
use Rattle.chr_base.specs.Stores.{store_of}
use Rattle.chr_printing.specs.working.Printing.{flats_atoms}
use Rattle.chr_printing.proofs.Portioned.{portion_none}
use Rattle.chr_printing.proofs.flats.add_of.Goals as goal

pub returns-then-place_of-place : goal.returns-then-place_of-place
returns-then-place_of-place c =
    portion_none c.args.cuts.now c.args.place (store_of (flats_atoms c.args.flats.now.items)) c.args.atom.now
    (λ e. absurd (c.if-place_of-place.true (c.place_of.ensures ∙ e)))
