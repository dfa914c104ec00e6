use Rattle.std.proofs.Common.{rules, ◌≡◌, get_or, sym}
use Rattle.chr_printing.proofs.Printed.{one_added_on}
use Rattle.chr_printing.proofs.flats.add_to.Goals as goal

pub push-requires-clause-shape : goal.push-requires-clause-shape
push-requires-clause-shape c =
    let fs = c.args.flats.now.items in
    let f = c.index_mut.result.now in
    let here : f ≡ get_or fs c.args.place f = search rules in
    c.requires.shape f (sym here)

pub returns : goal.returns
returns c =
    let fs = c.args.flats.now.items in
    let f = c.index_mut.result.now in
    let here : f ≡ get_or fs c.args.place f = search rules in
    one_added_on fs c.args.place f c.push.new.self c.args.atom.now c.requires.within here c.push.result c.push.ensures
