use Rattle.chr_base.proofs.FinBags.{items_rise, is_true}
use Rattle.chr_base.proofs.text.push_store.Goals as goal

pub runs_in_print_order-requires : goal.runs_in_print_order-requires
runs_in_print_order-requires c = rw c.atoms.ensures (is_true _ (items_rise c.args.bag.now))
