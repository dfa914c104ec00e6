use Rattle.std.proofs.Common.{◌++◌, ◌∙◌, ap, refl, subst}
use Rattle.std.specs.Prelude.{Ok, string_bytes}
use Rattle.chr_report.specs.declared.turning.Turn.{Turn}
use Rattle.chr_report.specs.working.Coming.{Takes, TurnsTo}
use Rattle.chr_report.proofs.Comes.{turn_ends}
use Rattle.chr_report.proofs.coming.Coming.take_turn.Goals as goal

pub returns-clause-taken : goal.returns-clause-taken
returns-clause-taken g c =
    let p = c.args.self.now in
    let b = c.args.is_last in
    let taken = c.in_ok-taken.taken in
    let t : Turn = record {
      stage = c.replace.result;
      line = c.replace-2.result;
      held = c.replace-3.result;
      is_last = b;
    } in
    let k : Takes p.asked t taken = c.requires.turns.takes t (Ok taken) c.in_ok-taken.ensures in
    let turns : TurnsTo b p.asked p.stage p.line.items taken.stage k.text =
    subst (λ s. TurnsTo b p.asked s p.line.items taken.stage k.text) c.replace.ensures.value
    (subst (λ l. TurnsTo b p.asked c.replace.result l.items taken.stage k.text) c.replace-2.ensures.value k.taken) in (
      k.text,
      k.added ∙ ap (λ h. string_bytes h ++ k.text) c.replace-3.ensures.value,
      turn_ends b p (record {
        alloc = p.alloc;
        asked = p.asked;
        stage = taken.stage;
        line = c.clear.new.self;
        turn = p.turn;
      }) taken.stage k.text refl refl c.clear.ensures.items turns,
    )
