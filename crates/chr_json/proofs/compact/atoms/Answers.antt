use Rattle.std.proofs.Common.{◌<◌, ◌∷◌, ap, arith, length, map, ◌∙◌}
use Rattle.std.proofs.lemmas.List.{length-map}
use Rattle.chr_json.specs.Printed.{atom_data}
use Rattle.chr_json.specs.Reads.{raw_atom_view}
use Rattle.chr_json.specs.working.Compact.{comma_text}
use Rattle.chr_json.proofs.Texts.{later_close_whole}
use Rattle.chr_json.proofs.compact.atoms.Goals as goal

-- the bracket closes the array
pub returns-clause-text : goal.returns-clause-text
returns-clause-text c =
    let items = c.push_more_atoms.new.found.items in
    let views = map raw_atom_view items in
    let found = map atom_data views in
    let some : 0 < length found = omega (
      arith,
      length-map views atom_data,
      length-map items raw_atom_view,
      c.in_ok-rest-2.ensures.sized,
    ) in
    let first = rw c.in_ok-found.ensures.items at c.in_ok-name.ensures.text in
    c.in_ok-rest.ensures
    ∙ ap (λ l. 91 ∷ l)
    (later_close_whole (comma_text c.args.comma) found c.in_ok-rest.rest.now c.in_ok-rest-2.rest.now some
    (first ∙ c.in_ok-rest-2.ensures.text))
