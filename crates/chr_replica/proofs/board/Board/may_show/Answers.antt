use Rattle.std.proofs.Common.{rules, ◌≡◌, ap, ◌∙◌, refl, sym, subst, arith}
use Rattle.chr_weights.specs.WeighedPrograms.{rules_in}
use Rattle.chr_confluence.specs.Confluence.{Confluent}
use Rattle.chr_join.specs.AcceptedPrograms.{weighed_of}
use Rattle.chr_replica.specs.Replicas.{IsSettled}
use Rattle.chr_replica.specs.Boards.{program_on}
use Rattle.chr_replica.proofs.OneAnswer.{shown_is_only}
use Rattle.chr_replica.proofs.board.Board.may_show.Goals as goal

pub returns-clause-settled : goal.returns-clause-settled
returns-clause-settled c =
    let none : c.len-leases.result ≡ 0 = let some = c.if-leases-gt0.false in omega (arith, some) in (
      ap (λ b. b.replica.out) (sym c.self.view_is) ∙ c.len-leases.ensures.none none,
      c.at_rest.ensures.0 c.if-not-at_rest.false,
    )

pub returns-clause-only : goal.returns-clause-only
returns-clause-only c =
    let b = c.args.self.now in
    let none : c.len-leases.result ≡ 0 = let some = c.if-leases-gt0.false in omega (arith, some) in
    let settled : IsSettled (program_on b) b.replica = (
      ap (λ b. b.replica.out) (sym c.self.view_is) ∙ c.len-leases.ensures.none none,
      c.at_rest.ensures.0 c.if-not-at_rest.false,
    ) in
    let here : c.weighed.result.now ≡ weighed_of b.accepted = search rules in
    let confluent = subst (λ w. Confluent (rules_in w)) here c.weighed.ensures.confluent in
    let sound = c.is_sound.ensures in
    shown_is_only (program_on b) b.replica b.replica.pool c.one_answer.ensures confluent sound.values sound.sound
    settled refl
