use Rattle.std.proofs.Common.{◌≡◌, ◌++◌, ap, ◌∙◌}
use Rattle.chr_base.specs.Stores.{store_of}
use Rattle.chr_columns.specs.working.Listing.{live_in}
use Rattle.chr_columns.proofs.Listed.{store_all}
use Rattle.chr_columns.proofs.arranging.arranged.Goals as goal

pub returns : goal.returns
returns c =
    let tables = c.args.rested.now.tables.tables.items in
    let fresh = c.args.fresh.now in
    let all : c.push_stored.new.atoms.items ≡ live_in tables ++ fresh = c.in_ok-push_stored.ensures.ok
    ∙ (λ i. c.in_ok-atoms.ensures.items i ++ live_in (c.deref.ensures.value i) ++ fresh) in
    c.arrange.ensures ∙ ap store_of all ∙ store_all tables fresh
