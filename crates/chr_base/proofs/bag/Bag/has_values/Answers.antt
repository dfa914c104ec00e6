use Rattle.std.proofs.Common.{subst, ◌≡◌, true}
use Rattle.std.specs.List.{list_all}
use Rattle.chr_base.specs.FinBag as bag
use Rattle.chr_base.proofs.Stores.{store_of-items}
use Rattle.chr_base.specs.Values.{is_value, args_in, HasValues}
use Rattle.chr_base.proofs.Each.{each_of_list}
use Rattle.chr_base.proofs.bag.Bag.has_values.Goals as goal

pub returns : goal.returns
returns c =
    let all : list_all (args_in is_value) (bag.items c.args.self.now) ≡ true =
    subst (λ xs. list_all (args_in is_value) xs ≡ true) c.atoms.ensures c.are_values_of.ensures in
    subst HasValues (store_of-items c.args.self.now) (each_of_list (args_in is_value) (bag.items c.args.self.now) all)
