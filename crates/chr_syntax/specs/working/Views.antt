-- What the values of private calls are as plain data.
use Rattle.std.specs.Borrow.{Bor}
use Rattle.std.specs.Prelude.{List, Option, false, map, option_map}
use Rattle.chr_syntax.specs.declared.token.Token.{Token}
use Rattle.chr_syntax.specs.declared.form.Heads.{Heads}
use Rattle.chr_syntax.specs.declared.form.Right.{Right}
use Rattle.chr_syntax.specs.Tokens.{Tok}
use Rattle.chr_syntax.specs.Clauses.{Atom, Comparison}
use Rattle.chr_syntax.specs.working.Forms.{items}
use Rattle.chr_syntax.specs.Views.{token_view, atom_view, comparison_view}

abbrev pub tokens_view : Bor (List Token) → List Tok
tokens_view ts = map token_view ts.now

-- what stands between the commas that no parentheses enclose
abbrev pub items_view : List Token → List (List Tok)
items_view ts = items false (map token_view ts)

abbrev pub heads_view : Heads → List Atom × List Atom
heads_view h = (map atom_view h.kept.items, map atom_view h.removed.items)

abbrev pub right_view : Right → List (Option Comparison) × List (Option Atom)
right_view r = (map (option_map comparison_view) r.guard.items, map (option_map atom_view) r.body.items)
