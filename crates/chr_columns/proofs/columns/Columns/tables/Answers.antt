use Rattle.std.proofs.Common.{◌≡◌, [], sym, ap, ◌∙◌}
use Rattle.chr_base.specs.Atoms.{atom_cmp}
use Rattle.chr_base.specs.FinBag.{◌⊕◌}
use Rattle.chr_base.specs.Stores.{store_of}
use Rattle.chr_base.proofs.FinBags.{of_list-none}
use Rattle.chr_base.proofs.Stores.{plus_empty}
use Rattle.chr_columns.specs.Tables.{stored_in}
use Rattle.chr_columns.specs.working.Resting.{stored}
use Rattle.chr_columns.proofs.Owning.{nothing_fresh}
use Rattle.chr_columns.proofs.columns.Columns.tables.Goals as goal

pub returns : goal.returns
returns c =
    let rested = stored c.self.inside.rested in
    let none : c.self.inside.fresh.items ≡ [] = sym c.as_slice.ensures.value
    ∙ nothing_fresh c.is_empty.result c.as_slice.result.now c.if-not-is_empty.false c.is_empty.ensures in
    ap stored_in c.as_slice-2.ensures.value
    ∙ sym (ap (λ xs. rested ⊕ store_of xs) none ∙ ap (λ t. rested ⊕ t) (of_list-none atom_cmp) ∙ plus_empty rested)
    ∙ c.self.view_is
