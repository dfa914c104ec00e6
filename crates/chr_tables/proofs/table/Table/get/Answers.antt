use Rattle.std.proofs.Common.{get_or, sym, ap, ◌∙◌}
use Rattle.std.specs.Prelude.{Some, None}
use Rattle.chr_tables.proofs.Choices.{the_one, no_one}
use Rattle.chr_tables.proofs.Lives.{live_of}
use Rattle.chr_tables.proofs.table.Table.get.Goals as goal

pub atom-requires : goal.atom-requires
atom-requires c =
    let o = the_one _ (sym c.lives.ensures ∙ c.if-lives.true) in
    (live_of c.self.inside.atoms c.self.inside.alive.items c.args.row o.0 o.0
    (ap (λ t. get_or t.rows c.args.row None) c.self.view_is ∙ o.1)).0

pub returns-then-lives : goal.returns-then-lives
returns-then-lives c =
    let o = the_one _ (sym c.lives.ensures ∙ c.if-lives.true) in
    let w = live_of c.self.inside.atoms c.self.inside.alive.items c.args.row o.0 o.0
    (ap (λ t. get_or t.rows c.args.row None) c.self.view_is ∙ o.1) in
    ap Some (c.atom.ensures o.0 ∙ w.1) ∙ sym o.1

pub returns-else-lives : goal.returns-else-lives
returns-else-lives c = sym (no_one _ (sym c.lives.ensures ∙ c.if-lives.false))
