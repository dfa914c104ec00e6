use Rattle.std.proofs.Common.{◌≡◌, [], List, ℕ, length, ap, arith}
use Rattle.sqlite_disk.specs.Disk.{Torn, Follows, Only}
use Rattle.chr_records.specs.Records.{records_of}
use Rattle.chr_feeds.proofs.Gates.{short_nothing, stepped}
use Rattle.chr_feeds.proofs.feed.shut_first.Goals as goal

nothing : (file : List ℕ) (old new : List ℕ → Type 0) → file ≡ [] → Only file old → Follows (Torn 0 1) old new
    → (c : List ℕ) → new c → records_of c ≡ []
nothing file old new empty only follows c left =
    let torn = stepped (Torn 0 1) file old new only follows c left in
    short_nothing c (omega (arith, torn.no_longer, ap length empty))

pub returns-in_err-write_at-clause-any_moment : goal.returns-in_err-write_at-clause-any_moment
returns-in_err-write_at-clause-any_moment g c =
    nothing (g.D.Disk.seen c.args.disk.now) _ _ c.requires.empty c.requires.durable c.write_at.ensures.crash

pub returns-in_err-sync-clause-any_moment : goal.returns-in_err-sync-clause-any_moment
returns-in_err-sync-clause-any_moment g c =
    λ f left. nothing
    (g.D.Disk.seen c.args.disk.now) _ _ c.requires.empty c.requires.durable c.write_at.ensures.crash f
    (c.sync.ensures.crash f left)
