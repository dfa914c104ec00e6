use Rattle.std.proofs.Common.{rules, ◌≡◌, ◌∙◌, ap}
use Rattle.chr_base.specs.FinBag as bag
use Rattle.chr_base.specs.FinBag.{◌⊕◌}
use Rattle.chr_base.specs.Stores.{store_of}
use Rattle.chr_base.proofs.Stores.{store_of-items}
use Rattle.chr_replica.proofs.Outcomes.{on_err, on_false}
use Rattle.chr_replica.proofs.States.{put_out, same_ruled}
use Rattle.chr_replica.proofs.board.telling.join_pooled.Goals as goal

pub returns-in-Ok-clause-pool : goal.returns-in-Ok-clause-pool
returns-in-Ok-clause-pool c =
    let put : c.insert.new.self.store ≡ c.args.pool.now.store ⊕ store_of (bag.items c.args.rested.now) = search rules in
    put ∙ ap (λ s. c.args.pool.now.store ⊕ s) (store_of-items c.args.rested.now)

pub returns-in-Err-clause-same_pool : goal.returns-in-Err-clause-same_pool
returns-in-Err-clause-same_pool c =
    let put : c.insert.new.self.store ≡ c.args.pool.now.store ⊕ store_of (bag.items c.args.rested.now) = search rules in
    let atoms : store_of c.atoms-in-Err.result.now ≡ store_of (bag.items c.args.rested.now) = search rules in
    let weighed : c.remove.new.self.weighed ≡ c.args.pool.now.weighed = search rules in
    on_false c.untold.result (same_ruled _ _ weighed
    (put_out c.args.pool.now.store _ c.remove.new.self.store _ _ put atoms c.remove.ensures.left))

pub returns-in-Err-clause-err_pool : goal.returns-in-Err-clause-err_pool
returns-in-Err-clause-err_pool c =
    let put : c.insert.new.self.store ≡ c.args.pool.now.store ⊕ store_of (bag.items c.args.rested.now) = search rules in
    let atoms : store_of c.atoms-in-Err.result.now ≡ store_of (bag.items c.args.rested.now) = search rules in
    let weighed : c.remove.new.self.weighed ≡ c.args.pool.now.weighed = search rules in
    on_err c.untold.result (same_ruled _ _ weighed
    (put_out c.args.pool.now.store _ c.remove.new.self.store _ _ put atoms c.remove.ensures.left))
