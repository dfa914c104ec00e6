use Rattle.std.proofs.Common.{◌∙◌, ◌+◌, List, ℕ, length, ap, sym, subst, arith}
use Rattle.sqlite_disk.specs.Disk.{Torn, Only}
use Rattle.chr_records.specs.Records.{records_of, bytes_of}
use Rattle.chr_feeds.specs.working.Fronts.{KeepsFront}
use Rattle.chr_feeds.specs.Files.{IsBlank}
use Rattle.chr_feeds.proofs.Gates.{stepped, closed_reads, staged, staged_front, unchanged, gate_torn, opened_whole}
use Rattle.chr_feeds.proofs.Gates.{begins}
use Rattle.chr_feeds.proofs.feed.Feed.write_behind_gate.Goals as goal

pub stage-requires-clause-some : goal.stage-requires-clause-some
stage-requires-clause-some g c = (begins c.args.batch.now c.requires.whole c.requires.some).1

pub returns-in_err-stage-clause-any_moment : goal.returns-in_err-stage-clause-any_moment
returns-in_err-stage-clause-any_moment g c =
    let s = c.requires.at_rest in
    let feed = c.args.self.now in
    let file = g.D.Disk.seen feed.disk in
    λ f left. unchanged _ _ f (closed_reads _ _ f
    (staged_front file feed.size feed.room f s.size s.blank s.shut
    (stepped (KeepsFront (feed.size + 1)) file _ _ s.durable c.stage.ensures.crash f left)))

pub returns-in_err-write_at-clause-any_moment : goal.returns-in_err-write_at-clause-any_moment
returns-in_err-write_at-clause-any_moment g c =
    let s = c.requires.at_rest in
    let feed = c.args.self.now in
    let batch = c.args.batch.now in
    let file = g.D.Disk.seen feed.disk in
    let st =
    staged file feed.size feed.room batch _ s.size s.blank s.shut c.requires.whole c.requires.some
    c.stage.ensures.front c.in_ok-stage.ensures.rest c.in_ok-stage.ensures.blank in
    λ f left. gate_torn _ feed.size batch _ f st c.requires.some
    (stepped (Torn feed.size 1) (g.D.Disk.seen c.stage.new.disk) _ _ c.in_ok-stage.ensures.durable
    c.write_at.ensures.crash f left)

pub returns-in_err-sync-clause-any_moment : goal.returns-in_err-sync-clause-any_moment
returns-in_err-sync-clause-any_moment g c =
    let s = c.requires.at_rest in
    let feed = c.args.self.now in
    let batch = c.args.batch.now in
    let file = g.D.Disk.seen feed.disk in
    let st =
    staged file feed.size feed.room batch _ s.size s.blank s.shut c.requires.whole c.requires.some
    c.stage.ensures.front c.in_ok-stage.ensures.rest c.in_ok-stage.ensures.blank in
    λ f left. gate_torn _ feed.size batch _ f st c.requires.some
    (stepped (Torn feed.size 1) (g.D.Disk.seen c.stage.new.disk) _ _ c.in_ok-stage.ensures.durable
    c.write_at.ensures.crash f (c.sync.ensures.crash f left))

pub returns-clause-any_moment : goal.returns-clause-any_moment
returns-clause-any_moment g c =
    let s = c.requires.at_rest in
    let feed = c.args.self.now in
    let batch = c.args.batch.now in
    let file = g.D.Disk.seen feed.disk in
    let st =
    staged file feed.size feed.room batch _ s.size s.blank s.shut c.requires.whole c.requires.some
    c.stage.ensures.front c.in_ok-stage.ensures.rest c.in_ok-stage.ensures.blank in
    λ f left. gate_torn _ feed.size batch _ f st c.requires.some
    (stepped (Torn feed.size 1) (g.D.Disk.seen c.stage.new.disk) _ _ c.in_ok-stage.ensures.durable
    c.write_at.ensures.crash f (c.sync.ensures.crash f left))

pub returns-clause-there : goal.returns-clause-there
returns-clause-there g c =
    let s = c.requires.at_rest in
    let feed = c.args.self.now in
    let batch = c.args.batch.now in
    let file = g.D.Disk.seen feed.disk in
    let st =
    staged file feed.size feed.room batch _ s.size s.blank s.shut c.requires.whole c.requires.some
    c.stage.ensures.front c.in_ok-stage.ensures.rest c.in_ok-stage.ensures.blank in
    let both = opened_whole _ feed.size batch _ _ st c.requires.some c.write_at.ensures.others
    (c.in_ok-write_at.ensures.written (omega arith)) in
    ap records_of c.sync.ensures.seen ∙ closed_reads _ _ _ both.0

pub returns-clause-at_rest : goal.returns-clause-at_rest
returns-clause-at_rest g c =
    let s = c.requires.at_rest in
    let feed = c.args.self.now in
    let batch = c.args.batch.now in
    let file = g.D.Disk.seen feed.disk in
    let st =
    staged file feed.size feed.room batch _ s.size s.blank s.shut c.requires.whole c.requires.some
    c.stage.ensures.front c.in_ok-stage.ensures.rest c.in_ok-stage.ensures.blank in
    let both = opened_whole _ feed.size batch _ _ st c.requires.some c.write_at.ensures.others
    (c.in_ok-write_at.ensures.written (omega arith)) in
    let there = ap records_of c.sync.ensures.seen ∙ closed_reads _ _ _ both.0 in
    record {
      size = sym both.0.size ∙ ap (λ (l : List (List ℕ)). length (bytes_of l)) (sym there);
      blank = subst (λ (f : List ℕ). IsBlank (feed.size + length batch) 1 f) (sym c.sync.ensures.seen) both.1;
      shut = omega arith;
      small = omega arith;
      durable = subst (λ (f : List ℕ). Only f (g.D.Disk.may_leave c.sync.new.self))
          (sym c.sync.ensures.seen) c.in_ok-sync.ensures.durable;
      usable = c.in_ok-sync.ensures.usable;
    }
