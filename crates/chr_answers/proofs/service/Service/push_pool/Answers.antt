use Rattle.std.proofs.Common.{◌++◌, ap, ◌∙◌}
use Rattle.std.specs.Prelude.{string_bytes}
use Rattle.chr_base.specs.Programs.{declarations}
use Rattle.chr_base.specs.Texts.{store_text}
use Rattle.chr_join.specs.AcceptedPrograms.{program_in}
use Rattle.chr_answers.specs.Services.{served}
use Rattle.chr_answers.proofs.ShownPools.{known_more, pool_shown}
use Rattle.chr_answers.proofs.service.Service.push_pool.Goals as goal

pub returns-in-Some-clause-text : goal.returns-in-Some-clause-text
returns-in-Some-clause-text g c =
    let s = c.args.self.now in
    let t = c.in-Some.board.now.replica in
    let there = c.in-Some.ensures.replica in
    let rests = c.requires.rests t there in
    let old = string_bytes c.args.out.now in
    known_more c.push_shown.result (λ e. record {
      text = store_text (declarations (served s)) t.pool;
      answers = pool_shown (served s) s.world.replicas c.args.replica t c.requires.ready there rests;
      out_is = e ∙ ap (λ a. old ++ store_text (declarations (program_in a)) t.pool) c.in-Some.ensures.program;
    }) c.push_shown.ensures.text
