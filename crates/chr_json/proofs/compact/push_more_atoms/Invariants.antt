use Rattle.std.proofs.Common.{◌≡◌, ◌++◌, map, vec_len}
use Rattle.std.specs.List.{AllByRecursion}
use Rattle.std.specs.Str.{IsUtf8}
use Rattle.json.specs.Print.{escape}
use Rattle.chr_json.specs.Printed.{ArgumentsFit}
use Rattle.chr_json.specs.Reads.{raw_atom_view}
use Rattle.chr_json.specs.working.Compact.{atoms_later, comma_text}
use Rattle.chr_json.proofs.compact.push_more_atoms.Given as goal

abbrev pub invariant-loop-count : goal.invariant-loop-count
invariant-loop-count l = record {
  text : atoms_later (comma_text l.comma) (map raw_atom_view l.fn.found.items) ++ l.text
      ≡ atoms_later (comma_text l.comma) (map raw_atom_view l.found.items) ++ l.rest;
  fit : AllByRecursion ArgumentsFit (map raw_atom_view l.found.items);
  count : vec_len l.found ≡ l._count;
  near : escape l.near ≡ l.near;
  utf8 : IsUtf8 l.near;
}
