use Rattle.std.proofs.Common.{rules, ◌≡◌, ap, ◌∙◌}
use Rattle.chr_base.specs.FinBag as bag
use Rattle.chr_base.specs.FinBag.{◌⊕◌}
use Rattle.chr_base.specs.Stores.{store_of}
use Rattle.chr_base.proofs.Stores.{store_of-items}
use Rattle.chr_replica.proofs.States.{put_out, same_ruled}
use Rattle.chr_replica.proofs.board.telling.put_in.Goals as goal

pub returns-in-Ok-clause-pool : goal.returns-in-Ok-clause-pool
returns-in-Ok-clause-pool c =
    let put : c.insert.new.self.store ≡ c.args.pool.now.store ⊕ store_of (bag.items c.args.op.1) = search rules in
    put ∙ ap (λ s. c.args.pool.now.store ⊕ s) (store_of-items c.args.op.1)

pub returns-in-Err-clause-same_pool : goal.returns-in-Err-clause-same_pool
returns-in-Err-clause-same_pool c =
    let put : c.insert.new.self.store ≡ c.args.pool.now.store ⊕ store_of (bag.items c.args.op.1) = search rules in
    let atoms : store_of c.atoms-in-Err.result.now ≡ store_of (bag.items c.args.op.1) = search rules in
    let weighed : c.remove.new.self.weighed ≡ c.args.pool.now.weighed = search rules in
    same_ruled _ _ weighed
    (put_out c.args.pool.now.store _ c.remove.new.self.store _ _ put atoms c.remove.ensures.left)
