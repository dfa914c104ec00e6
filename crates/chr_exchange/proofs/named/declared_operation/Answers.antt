use Rattle.std.proofs.Common.{◌≡◌, length, rules, sym, ap, ◌∙◌, vec_len}
use Rattle.std.specs.Prelude.{option_map, Some}
use Rattle.std.proofs.lemmas.List.{length-map}
use Rattle.chr_base.specs.Programs.{declarations}
use Rattle.chr_json.specs.Reads.{raw_atom_view, raw_op_view}
use Rattle.chr_exchange.proofs.Sizes.{made_of}
use Rattle.chr_exchange.proofs.named.declared_operation.Goals as goal

pub returns-in-None : goal.returns-in-None
returns-in-None c =
    let words = c.args.raw.now.atoms.items in
    let len : length words ≡ vec_len c.args.raw.now.atoms = search rules in
    sym c.in-None.is
    ∙ made_of (declarations c.args.program.now) (raw_op_view c.args.raw.now) c.in-Some.atoms.items c.in_ok-bag.bag
    c.of-2.result
    (ap (option_map (λ v. v.items)) (sym c.in-Some.is) ∙ (rw c.deref.ensures.value at c.in_ok-atoms.ensures))
    (rw (length-map words raw_atom_view, len) c.requires) (c.in_ok-bag.ensures.store ∙ c.put_in_order.ensures)
    c.of-2.ensures.sized.1 c.of-2.ensures.op

pub returns-in_ok-ready_to_share-in-Some-of : goal.returns-in_ok-ready_to_share-in-Some-of
returns-in_ok-ready_to_share-in-Some-of c =
    let words = c.args.raw.now.atoms.items in
    let len : length words ≡ vec_len c.args.raw.now.atoms = search rules in
    ap Some (c.in_ok-ready_to_share-in-Some-of).ensures ∙ sym c.in-Some-of.is
    ∙ made_of (declarations c.args.program.now) (raw_op_view c.args.raw.now) c.in-Some.atoms.items c.in_ok-bag.bag
    c.of-2.result
    (ap (option_map (λ v. v.items)) (sym c.in-Some.is) ∙ (rw c.deref.ensures.value at c.in_ok-atoms.ensures))
    (rw (length-map words raw_atom_view, len) c.requires) (c.in_ok-bag.ensures.store ∙ c.put_in_order.ensures)
    c.of-2.ensures.sized.1 c.of-2.ensures.op
