use Rattle.std.proofs.Common.{◌∙◌, ◌+◌, ◌-◌, ◌<◌, ◌^◌, List, ℕ, length, ap, sym, subst, arith}
use Rattle.sqlite_disk.specs.Disk.{Mixed, Only}
use Rattle.chr_records.specs.Records.{records_of, bytes_of}
use Rattle.chr_feeds.specs.Files.{IsBlank}
use Rattle.chr_feeds.proofs.Gates.{stepped, closed_at, closed_reads, mixed_grows, written_over}
use Rattle.chr_feeds.proofs.feed.Feed.write_over_blanks.Goals as goal

pub returns-in_err-write_at-clause-any_moment : goal.returns-in_err-write_at-clause-any_moment
returns-in_err-write_at-clause-any_moment g c =
    let s = c.requires.at_rest in
    let feed = c.args.self.now in
    let batch = c.args.batch.now in
    let file = g.D.Disk.seen feed.disk in
    let closed = closed_at file feed.size feed.room s.size s.blank s.shut in
    let small : feed.size + length batch < 2 ^ 64 = omega (arith, s.small, c.requires.fits) in
    λ f left. mixed_grows file feed.size feed.room batch f closed s.blank c.requires.fits
    (stepped (Mixed feed.size batch) file _ _ s.durable (c.write_at.ensures.mixed c.requires.mixing small) f left)

pub returns-in_err-sync-clause-any_moment : goal.returns-in_err-sync-clause-any_moment
returns-in_err-sync-clause-any_moment g c =
    let s = c.requires.at_rest in
    let feed = c.args.self.now in
    let batch = c.args.batch.now in
    let file = g.D.Disk.seen feed.disk in
    let closed = closed_at file feed.size feed.room s.size s.blank s.shut in
    let small : feed.size + length batch < 2 ^ 64 = omega (arith, s.small, c.requires.fits) in
    λ f left. mixed_grows file feed.size feed.room batch f closed s.blank c.requires.fits
    (stepped (Mixed feed.size batch) file _ _ s.durable (c.write_at.ensures.mixed c.requires.mixing small) f
    (c.sync.ensures.crash f left))

pub returns-clause-any_moment : goal.returns-clause-any_moment
returns-clause-any_moment g c =
    let s = c.requires.at_rest in
    let feed = c.args.self.now in
    let batch = c.args.batch.now in
    let file = g.D.Disk.seen feed.disk in
    let closed = closed_at file feed.size feed.room s.size s.blank s.shut in
    let small : feed.size + length batch < 2 ^ 64 = omega (arith, s.small, c.requires.fits) in
    λ f left. mixed_grows file feed.size feed.room batch f closed s.blank c.requires.fits
    (stepped (Mixed feed.size batch) file _ _ s.durable (c.write_at.ensures.mixed c.requires.mixing small) f
    (c.sync.ensures.crash f left))

pub returns-clause-there : goal.returns-clause-there
returns-clause-there g c =
    let s = c.requires.at_rest in
    let feed = c.args.self.now in
    let batch = c.args.batch.now in
    let file = g.D.Disk.seen feed.disk in
    let closed = closed_at file feed.size feed.room s.size s.blank s.shut in
    let both =
    written_over file feed.size feed.room batch _ closed s.blank c.requires.fits c.requires.whole
    c.write_at.ensures.others (c.in_ok-write_at.ensures.written c.requires.some) in
    ap records_of c.sync.ensures.seen ∙ closed_reads _ _ _ both.0

pub returns-clause-at_rest : goal.returns-clause-at_rest
returns-clause-at_rest g c =
    let s = c.requires.at_rest in
    let feed = c.args.self.now in
    let batch = c.args.batch.now in
    let file = g.D.Disk.seen feed.disk in
    let closed = closed_at file feed.size feed.room s.size s.blank s.shut in
    let both =
    written_over file feed.size feed.room batch _ closed s.blank c.requires.fits c.requires.whole
    c.write_at.ensures.others (c.in_ok-write_at.ensures.written c.requires.some) in
    let there = ap records_of c.sync.ensures.seen ∙ closed_reads _ _ _ both.0 in
    record {
      size = sym both.0.size ∙ ap (λ (l : List (List ℕ)). length (bytes_of l)) (sym there);
      blank = subst (λ (f : List ℕ). IsBlank (feed.size + length batch) (feed.room - length batch) f)
          (sym c.sync.ensures.seen) both.1;
      shut = omega (arith, c.requires.fits);
      small = omega (arith, s.small, c.requires.fits);
      durable = subst (λ (f : List ℕ). Only f (g.D.Disk.may_leave c.sync.new.self))
          (sym c.sync.ensures.seen) c.in_ok-sync.ensures.durable;
      usable = c.in_ok-sync.ensures.usable;
    }
