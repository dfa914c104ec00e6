-- The table of what has a pattern's shape.
use Rattle.std.proofs.Common.{◌≡◌, Bool, true, false, ◌&&◌, List, length, sym, ap, ◌∙◌}
use Rattle.std.specs.Prelude.{nat_eq}
use Rattle.std.proofs.lemmas.Bool.{eqb-true}
use Rattle.chr_base.specs.declared.atom.Atom.{Atom}
use Rattle.chr_base.specs.declared.term.Pattern.{Pattern}
use Rattle.chr_base.specs.Rules.{has_shape}
use Rattle.chr_columns.specs.declared.groups.Group.{Group}
use Rattle.chr_columns.specs.working.Groups.{table_of, table_of_atom, table_of_pattern}

first : (a b : Bool) → (a && b) ≡ true → a ≡ true
first true b e = cc
first false b e = cc

second : (a b : Bool) → (a && b) ≡ true → b ≡ true
second true b e = e
second false b e = cc

pub shape_table : (groups : List Group) (p : Pattern) (a : Atom) → has_shape p a ≡ true → table_of_atom groups a
    ≡ table_of_pattern groups p
shape_table groups p a e =
    let s : p.symbol.0 ≡ a.symbol.0 = eqb-true _ _ (first (nat_eq p.symbol.0 a.symbol.0)
    (nat_eq (length p.args.items) (length a.args.items)) e) in
    let n : length p.args.items ≡ length a.args.items =
    eqb-true _ _ (second (nat_eq p.symbol.0 a.symbol.0) (nat_eq (length p.args.items) (length a.args.items)) e) in
    sym (ap (λ k. table_of groups (record { 0 = k }) (length p.args.items)) s ∙ ap (table_of groups a.symbol) n)
