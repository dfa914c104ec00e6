use Rattle.std.proofs.Common.{refl, sym, ap, ◌∙◌, subst}
use Rattle.chr_base.specs.Programs.{declarations}
use Rattle.chr_exchange.specs.Texts.{HaveDifferentIds}
use Rattle.chr_ops.specs.Operations.{operations_of}
use Rattle.chr_answers.specs.Answers.{delta_text_of}
use Rattle.chr_answers.specs.Services.{served}
use Rattle.chr_answers.proofs.Reading.{lacked_differ, lacks_answers, none_lacked}
use Rattle.chr_answers.proofs.service.Service.lacks.Goals as goal

pub text_of_delta-requires : goal.text_of_delta-requires
text_of_delta-requires c =
    let w = c.args.self.now.world.replicas in
    subst HaveDifferentIds (sym c.deref.ensures.value)
    (lacked_differ c.lacked_ids_differ.ensures (served c.args.self.now) w w c.args.replica c.in_ok-summary.summary
    c.in_ok-found.found c.in-Some.ops c.in-Some.is c.in_ok-found.ensures)

pub returns : goal.returns
returns c =
    let p = served c.args.self.now in
    let w = c.args.self.now.world.replicas in
    let k = c.args.version in
    record {
      program = refl;
      answer =
          lacks_answers (declarations p) k p w w
          c.args.replica c.in_ok-summary.summary c.args.ranges.items c.in_ok-found.found c.in-Some.ops _ c.in-Some.is
          c.in_ok-summary.ensures c.in_ok-found.ensures
          (c.in_ok-text.ensures
          ∙ ap (λ q. delta_text_of k (declarations q) (operations_of c.deref.result.now)) c.program.ensures
          ∙ ap (λ os. delta_text_of k (declarations p) (operations_of os)) c.deref.ensures.value);
    }

pub returns-in_default : goal.returns-in_default
returns-in_default c =
    let w = c.args.self.now.world.replicas in
    record {
      program = refl;
      answer = none_lacked (declarations (served c.args.self.now)) c.args.version (served c.args.self.now) w w
          c.args.replica c.in_ok-summary.summary c.args.ranges.items c.in_ok-found.found c.in_default.is
          c.in_ok-found.ensures;
    }
