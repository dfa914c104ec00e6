use Rattle.std.proofs.Common.{◌≡◌, List, ◌++◌, [], ◌∷◌, get_or, length, map, set, ap, rules, subst, sym, ◌∙◌}
use Rattle.std.specs.List.{AllByRecursion}
use Rattle.std.proofs.lemmas.List.{map-append}
use Rattle.std.proofs.Math.Seq.{get_or-append_seam, set-append_seam}
use Rattle.chr_json.specs.NamedAtoms.{NamedAtom}
use Rattle.chr_json.specs.Printed.{atom_data, ArgumentsFit}
use Rattle.chr_json.specs.Reads.{raw_atom_view}
use Rattle.chr_json.specs.working.Compact.{atoms_later, comma_text, parted_text}
use Rattle.chr_json.proofs.Texts.{atom_text, atoms_more}
use Rattle.chr_json.proofs.compact.push_atom.Goals as goal

-- the atom is its name and the arguments that were read into none
pub returns-clause-text : goal.returns-clause-text
returns-clause-text c =
    let found = c.args.found.now.items in
    let text = c.args.text.now in
    let k = comma_text c.args.comma in
    let rest = c.in_ok-rest-2.rest.now in
    let last : c.len-last.result ≡ length found = search rules in
    let there = c.index_mut.ensures.value
    ∙ (λ i. get_or (c.in_ok-push.ensures.items i) (last i) c.index_mut.result.now)
    ∙ get_or-append_seam found _ [] c.index_mut.result.now in
    let atom : NamedAtom = record { name = c.in_ok-name.name.now; args = c.push_arguments.new.found.items } in
    let list = rw (ap (λ x. x.args.items) there ∙ c.new-args.ensures.items) at c.in_ok-rest-2.ensures.text in
    let read : text ≡ parted_text k (atom_data atom) ++ rest =
    atom_text k atom text c.in_ok-rest.rest.now c.in_ok-name.rest.now rest c.in_ok-rest.ensures
    c.in_ok-name.ensures.text list in
    let put = (λ i. set (c.in_ok-push.ensures.items i) (last i)
    (record { name = (there i).name; args = c.push_arguments.new.found }))
    ∙ set-append_seam found _ [] (record { name = _; args = c.push_arguments.new.found }) in
    atoms_more k (map raw_atom_view found) atom text rest read
    ∙ ap (λ ws. atoms_later k ws ++ rest) (sym (ap (map raw_atom_view) put ∙ map-append raw_atom_view found (_ ∷ [])))

fit_more : (ws : List NamedAtom) (w : NamedAtom) → AllByRecursion ArgumentsFit ws → ArgumentsFit w
    → AllByRecursion ArgumentsFit (ws ++ w ∷ [])
fit_more [] w h k = (k, tt)
fit_more (v ∷ ws) w h k = (h.0, fit_more ws w h.1 k)

pub returns-clause-fit : goal.returns-clause-fit
returns-clause-fit c =
    let found = c.args.found.now.items in
    let last : c.len-last.result ≡ length found = search rules in
    let put = (λ i. set (c.in_ok-push.ensures.items i) (last i)
    (record { name = c.index_mut.result.now.name; args = c.push_arguments.new.found }))
    ∙ set-append_seam found _ [] (record { name = c.index_mut.result.now.name; args = c.push_arguments.new.found }) in
    subst (AllByRecursion ArgumentsFit) (sym (ap (map raw_atom_view) put ∙ map-append raw_atom_view found (_ ∷ [])))
    (fit_more _ _ c.requires.fit c.in_ok-rest-2.ensures.fit)
