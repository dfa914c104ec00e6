use Rattle.std.proofs.Common.{[], append-nil, refl, rules, sym}
use Rattle.std.specs.Prelude.{string_bytes}
use Rattle.chr_report.specs.declared.turning.Stage.TheVariants as stage
use Rattle.chr_report.specs.working.Coming.{feeds_nothing}
use Rattle.chr_report.proofs.Comes.{refuses}
use Rattle.chr_report.proofs.coming.Coming.refuse_long.Goals as goal

pub returns-then-not-is_too_long-clause-feeds : goal.returns-then-not-is_too_long-clause-feeds
returns-then-not-is_too_long-clause-feeds g c =
    ([], sym (append-nil (string_bytes c.args.held.now)), feeds_nothing c.args.self.now)

pub returns-clause-feeds : goal.returns-clause-feeds
returns-clause-feeds g c =
    let k = c.in_ok-take_turn.ensures.taken in
    let m = c.take_turn.new.self in (
      k.0,
      k.1,
      refuses c.args.self.now m (record {
        alloc = m.alloc;
        asked = m.asked;
        stage = stage.Refused;
        line = m.line;
        turn = m.turn;
      }) k.0 (c.is_too_long.ensures (search rules)) c.take_turn.ensures.asked refl c.in_ok-take_turn.ensures.none k.2,
    )
