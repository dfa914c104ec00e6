use Rattle.std.proofs.Common.{refl, rules}
use Rattle.chr_report.proofs.Comes.{holds_more, holds_some}
use Rattle.chr_report.proofs.coming.Coming.hold.Goals as goal

pub returns-then-is_past_text-clause-holds : goal.returns-then-is_past_text-clause-holds
returns-then-is_past_text-clause-holds g c =
    let p = c.args.self.now in
    holds_some p (record {
      alloc = p.alloc;
      asked = p.asked;
      stage = p.stage;
      line = c.shorten.new.line;
      turn = p.turn;
    }) c.args.more.now c.extend_from_slice.new.self.items c.requires refl refl (search rules)
    (c.is_past_text.ensures c.if-is_past_text.true) c.shorten.ensures.stands c.shorten.ensures.unended

pub returns-else-is_past_text-clause-holds : goal.returns-else-is_past_text-clause-holds
returns-else-is_past_text-clause-holds g c =
    let p = c.args.self.now in
    holds_more p (record {
      alloc = p.alloc;
      asked = p.asked;
      stage = p.stage;
      line = c.extend_from_slice.new.self;
      turn = p.turn;
    }) c.args.more.now c.requires refl refl (search rules)
