use Rattle.std.proofs.Common.{◌∙◌, ◌+◌, List, ℕ, length, ap, sym, arith}
use Rattle.chr_records.specs.Records.{bytes_of}
use Rattle.chr_feeds.specs.working.Fronts.{KeepsFront}
use Rattle.chr_feeds.proofs.Gates.{stepped, room_kept, laid}
use Rattle.chr_feeds.proofs.feed.Feed.make_room.Goals as goal

pub returns-in_err-lay_blanks-clause-any_moment : goal.returns-in_err-lay_blanks-clause-any_moment
returns-in_err-lay_blanks-clause-any_moment g c =
    let s = c.requires.at_rest in
    let feed = c.args.self.now in
    let file = g.D.Disk.seen feed.disk in
    λ f left. room_kept file feed.size feed.room f s.size s.blank s.shut
    (stepped (KeepsFront (feed.size + feed.room)) file _ _ s.durable c.lay_blanks.ensures.crash f left)

pub returns-clause-any_moment : goal.returns-clause-any_moment
returns-clause-any_moment g c =
    let s = c.requires.at_rest in
    let feed = c.args.self.now in
    let file = g.D.Disk.seen feed.disk in
    λ f left. room_kept file feed.size feed.room f s.size s.blank s.shut
    (stepped (KeepsFront (feed.size + feed.room)) file _ _ s.durable c.lay_blanks.ensures.crash f left)

pub returns-clause-there : goal.returns-clause-there
returns-clause-there g c =
    let s = c.requires.at_rest in
    let feed = c.args.self.now in
    room_kept (g.D.Disk.seen feed.disk) feed.size feed.room _ s.size s.blank s.shut c.lay_blanks.ensures.front

pub returns-clause-at_rest : goal.returns-clause-at_rest
returns-clause-at_rest g c =
    let s = c.requires.at_rest in
    let feed = c.args.self.now in
    let there = room_kept
    (g.D.Disk.seen feed.disk) feed.size feed.room _ s.size s.blank s.shut c.lay_blanks.ensures.front in
    record {
      size = s.size ∙ ap (λ (l : List (List ℕ)). length (bytes_of l)) (sym there);
      blank = laid feed.size feed.room _ _ _ s.blank c.lay_blanks.ensures.front c.in_ok-lay_blanks.ensures.blank;
      shut = omega (arith, s.shut);
      small = omega arith;
      durable = c.in_ok-lay_blanks.ensures.durable;
      usable = c.in_ok-lay_blanks.ensures.usable;
    }
