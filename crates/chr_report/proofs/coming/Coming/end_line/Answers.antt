use Rattle.chr_report.proofs.Comes.{line_fed, on_ok}
use Rattle.chr_report.proofs.coming.Coming.end_line.Goals as goal

pub returns-clause-feeds : goal.returns-clause-feeds
returns-clause-feeds g c = on_ok c.take_turn.result (λ k. (
  k.0,
  k.1,
  line_fed c.args.self.now c.hold.new.self c.take_turn.new.self c.args.end.now k.0 c.in_ok-hold.ensures.holds k.2,
)) c.take_turn.ensures.taken
