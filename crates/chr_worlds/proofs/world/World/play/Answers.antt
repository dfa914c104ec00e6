use Rattle.std.proofs.Common.{◌+◌, ◌++◌, [], ◌∷◌, take, sym, ap, ◌∙◌, arith}
use Rattle.std.proofs.lemmas.List.{take_more}
use Rattle.chr_join.specs.AcceptedPrograms.{program_in}
use Rattle.chr_worlds.specs.Sharing.{shared_program}
use Rattle.chr_worlds.proofs.Runs.{next_on}
use Rattle.chr_worlds.proofs.world.World.play.Goals as goal

pub loop-done-preserved : goal.loop-done-preserved
loop-done-preserved c =
    let es = c.args.events.now in
    let k = c.loop-done.done in
    let e = c.index-events-done.result in
    let more = take_more es k e (omega (arith, c.loop-done-test.true))
    ∙ ap (λ x. take k es ++ x ∷ []) (sym c.index-events-done.is) in (
      c.act_next.ensures.program ∙ c.loop-done.invariant.0,
      next_on (shared_program c.args.self.now) (shared_program c.loop-done.self) c.args.self.now.replicas
          c.loop-done.self.replicas c.act_next.new.self.replicas (take k es) (take (k + 1) es) e
          c.loop-done.answers.items c.act_next.new.answers.items c.act_next.result
          (ap program_in c.loop-done.invariant.0) more c.loop-done.invariant.1
          (sym c.is_err.ensures.value ∙ c.if-is_err.false) c.act_next.ensures.ok,
    )
