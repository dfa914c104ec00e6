use Rattle.std.proofs.Common.{get_or, sym, ap, ◌∙◌}
use Rattle.std.specs.Prelude.{Some, None}
use Rattle.chr_tables.proofs.Choices.{the_one}
use Rattle.chr_tables.proofs.Lives.{live_of}
use Rattle.chr_tables.proofs.table.Table.read.Goals as goal

pub read-requires : goal.read-requires
read-requires c =
    let o = the_one _ c.requires in
    (live_of c.self.inside.atoms c.self.inside.alive.items c.args.row o.0 o.0
    (ap (λ t. get_or t.rows c.args.row None) c.self.view_is ∙ o.1)).0

pub returns : goal.returns
returns c =
    let o = the_one _ c.requires in
    let w = live_of c.self.inside.atoms c.self.inside.alive.items c.args.row o.0 o.0
    (ap (λ t. get_or t.rows c.args.row None) c.self.view_is ∙ o.1) in
    o.1 ∙ ap Some (sym (c.read.ensures o.0 ∙ w.1))
