use Rattle.std.specs.List.{Contains}
use Rattle.chr_shared.specs.Seats.{IsReceiptOf}
use Rattle.chr_shared.proofs.Receipts.{all_of_one, of_one}
use Rattle.chr_shared.proofs.shared.Shared.close_with.Goals as goal

pub close-requires-clause-receipts : goal.close-requires-clause-receipts
close-requires-clause-receipts g c =
    all_of_one (IsReceiptOf c.args.seats.items) c.from_ref.result.now c.args.receipt.now c.from_ref.ensures.value
    c.requires.receipt

pub returns-clause-receipt : goal.returns-clause-receipt
returns-clause-receipt g c =
    of_one (Contains c.close.result.entries) c.from_ref.result.now c.args.receipt.now c.from_ref.ensures.value
    c.close.ensures.receipts
