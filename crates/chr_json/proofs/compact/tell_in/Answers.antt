use Rattle.std.proofs.Common.{◌≡◌, ◌-◌, ◌∷◌, ◌++◌, drop, get_or, length, map, take, ap, ◌∙◌, arith}
use Rattle.std.proofs.lemmas.Str.{IsUtf8-from_ascii}
use Rattle.chr_json.specs.Printed.{atoms_data, id_data}
use Rattle.chr_json.specs.Reads.{raw_atom_view}
use Rattle.chr_json.specs.working.Compact.{comma_text, parted_text}
use Rattle.chr_json.proofs.Lists.{first_and_rest}
use Rattle.chr_json.proofs.Texts.{tell_text}
use Rattle.chr_json.proofs.compact.tell_in.Goals as goal

pub returns-clause-text : goal.returns-clause-text
returns-clause-text c =
    let bracket = c.in_ok-atoms.rest.now in
    let closing : get_or bracket 0 0 ≡ 93 = omega arith in
    let alone : length bracket - 1 ≡ 0 = omega arith in
    let closed = first_and_rest bracket 93 (omega arith) closing ∙ ap (λ n. 93 ∷ take n (drop 1 bracket)) alone in
    let atoms = atoms_data (map raw_atom_view c.in_ok-atoms.atoms.items) in
    let k = c.at-comma.result in (
      k,
      tell_text (comma_text k) c.in_ok-replica.replica (id_data c.in_ok-origin.origin c.in_ok-origin.number) atoms
          c.args.line.now c.in_ok-rest.rest.now c.in_ok-rest-2.rest.now c.in_ok-replica.rest.now c.in_ok-rest-3.rest.now
          c.in_ok-origin.rest.now c.in_ok-rest-4.rest.now
          c.in_ok-rest.ensures c.in_ok-rest-2.ensures.text c.in_ok-replica.ensures c.in_ok-rest-3.ensures.text
          c.in_ok-origin.ensures c.in_ok-rest-4.ensures.text
          (c.in_ok-atoms.ensures.text ∙ ap (λ l. parted_text (comma_text k) atoms ++ l) closed),
    )

pub returns-clause-utf8 : goal.returns-clause-utf8
returns-clause-utf8 c = IsUtf8-from_ascii c.args.line.now c.if-not-is_ascii.ensures.cases
