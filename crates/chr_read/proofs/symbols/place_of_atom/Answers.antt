use Rattle.std.proofs.Common.{length, sym, ap, ◌∙◌}
use Rattle.std.proofs.lemmas.List.{length-map}
use Rattle.chr_base.specs.Programs.{declarations}
use Rattle.chr_syntax.specs.Views.{term_view}
use Rattle.chr_read.specs.working.RuleParts.{place_of}
use Rattle.chr_read.proofs.symbols.place_of_atom.Goals as goal

pub returns : goal.returns
returns c =
    let a = c.args.atom.now in
    c.place_of.ensures ∙ ap (place_of (declarations c.args.program.now) a.name.now)
    (ap length c.as_slice.ensures.value ∙ sym (length-map a.args.items term_view))
