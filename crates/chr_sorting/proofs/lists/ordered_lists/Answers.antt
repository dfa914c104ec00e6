use Rattle.std.proofs.Common.{subst}
use Rattle.chr_types.specs.OrderTypes.{MoreTypesThan}
use Rattle.chr_types.specs.Refusals.{WhereTooMany}
use Rattle.chr_sorting.proofs.ListsThere.{more_ordered}
use Rattle.chr_sorting.proofs.lists.ordered_lists.Goals as goal

pub returns-in-Err-TooManyTypes-clause-more : goal.returns-in-Err-TooManyTypes-clause-more
returns-in-Err-TooManyTypes-clause-more c =
    let cs = c.args.constants.now in
    let more = subst (λ e. WhereTooMany e (MoreTypesThan c.args.limit c.args.count cs)) c.in-Err-TooManyTypes.field-0-is
    c.in-Err-TooManyTypes.ensures.many in
    more_ordered c.args.limit c.args.count cs c.requires.few c.requires.rise c.are_values.ensures more
