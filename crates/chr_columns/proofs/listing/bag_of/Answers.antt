use Rattle.std.proofs.Common.{◌≡◌, ◌++◌, ap, subst, ◌∙◌}
use Rattle.std.specs.Result.{IfOk}
use Rattle.chr_base.specs.Stores.{Store, store_of}
use Rattle.chr_columns.specs.working.Listing.{live_in}
use Rattle.chr_columns.proofs.Listed.{store_all}
use Rattle.chr_columns.proofs.listing.bag_of.Goals as goal

pub returns : goal.returns
returns c =
    let tables = c.args.tables.now in
    let fresh = c.args.fresh.now in
    let all = c.in_ok-push_stored.ensures.ok ∙ ap (λ xs. xs ++ live_in tables ++ fresh) c.new-atoms.ensures.items in
    subst (λ (s : Store). IfOk c.of.result (λ b. b ≡ s)) (ap store_of all ∙ store_all tables fresh)
    c.of.ensures.store
