use Rattle.std.proofs.Common.{[], append-nil, refl, rules, subst, sym}
use Rattle.std.specs.Prelude.{string_bytes}
use Rattle.chr_report.specs.working.Coming.{Feeds}
use Rattle.chr_report.proofs.Comes.{all_taken, line_taken}
use Rattle.chr_report.proofs.Turns.{passed_over}
use Rattle.chr_report.proofs.coming.Coming.take_some.Goals as goal

pub returns-in_default-clause-feeds : goal.returns-in_default-clause-feeds
returns-in_default-clause-feeds g c = (
  [],
  sym (append-nil (string_bytes c.args.held.now)),
  subst (λ b. Feeds c.args.self.now b [] c.hold.new.self) (sym (all_taken c.args.bytes.now _ (search rules)))
      c.in_ok-hold.ensures.holds,
)

pub returns-clause-feeds : goal.returns-clause-feeds
returns-clause-feeds g c =
    let k = c.in_ok-end_line.ensures.feeds in
    let bytes = c.args.bytes.now in
    let end = c.in-Some.end.now in
    let rest = c.in-Some.rest.now in (
      k.0,
      k.1,
      subst (λ b. Feeds c.args.self.now b k.0 c.end_line.new.self)
          (sym (line_taken bytes end rest _ (search rules) (search rules))) k.2,
    )

pub returns-then-answers_none-clause-feeds : goal.returns-then-answers_none-clause-feeds
returns-then-answers_none-clause-feeds g c =
    let p = c.args.self.now in
    let none = c.answers_none.ensures c.if-answers_none.true in (
      [],
      sym (append-nil (string_bytes c.args.held.now)),
      subst (λ b. Feeds p b [] p) (sym (all_taken c.args.bytes.now _ (search rules)))
          (refl, λ past out h. passed_over p.asked p.stage p.line.items past out c.args.bytes.now none h),
    )
