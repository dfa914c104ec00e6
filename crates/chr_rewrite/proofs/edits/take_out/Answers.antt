use Rattle.std.proofs.Common.{sym, ◌∙◌, ◌<◌, length}
use Rattle.std.proofs.lemmas.List.{get_or_default}
use Rattle.chr_rewrite.proofs.Counting.{swapped}
use Rattle.chr_rewrite.proofs.edits.take_out.Goals as goal

pub returns-clause-taken : goal.returns-clause-taken
returns-clause-taken c =
    let within : c.in-Some.i < length c.args.items.now.items = rw (← c.deref.ensures.value) c.in-Some.ensures.within in
    λ q. swapped q c.args.items.now.items c.swap_remove.new.self.items c.in-Some.i c.swap_remove.result c.args.atom.now
    within c.swap_remove.ensures.value
    (sym (rw c.deref.ensures.value at c.in-Some.ensures.found)
    ∙ get_or_default c.args.items.now.items c.in-Some.i c.args.atom.now c.swap_remove.result within
    ∙ sym c.swap_remove.ensures.value) c.swap_remove.ensures.items
