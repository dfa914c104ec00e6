use Rattle.std.proofs.Common.{◌++◌, [], ◌∷◌, sym, ap, ◌∙◌}
use Rattle.std.proofs.lemmas.List.{flat_map_more}
use Rattle.chr_base.specs.FinBag.{◌⊕◌}
use Rattle.chr_base.specs.Stores.{store_of}
use Rattle.chr_base.proofs.Stores.{store_of-append}
use Rattle.chr_printing.specs.working.Printing.{flat_atoms, flats_atoms}
use Rattle.chr_printing.proofs.flats.add_new.Goals as goal

pub returns : goal.returns
returns c =
    let fs = c.args.flats.now.items in
    ap (λ xs. store_of (flats_atoms xs)) c.in_ok-push-2.ensures.items
    ∙ ap store_of (sym (flat_map_more flat_atoms [] fs _))
    ∙ store_of-append (flats_atoms fs) _
    ∙ ap (λ xs. store_of (flats_atoms fs) ⊕ store_of xs) (c.in_ok-push.ensures
    ∙ ap (λ xs. xs ++ c.args.atom.now ∷ []) c.new-flat.ensures.none)
