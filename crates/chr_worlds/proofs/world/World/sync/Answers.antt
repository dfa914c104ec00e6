use Rattle.std.proofs.lemmas.Result.{IfOk-weaker}
use Rattle.chr_worlds.specs.Answers.{merged_answer}
use Rattle.chr_worlds.proofs.Places.{syncs_at}
use Rattle.chr_worlds.proofs.world.World.sync.Goals as goal

pub returns-clause-happens : goal.returns-clause-happens
returns-clause-happens c = IfOk-weaker c.exchange.result _ _ (λ merged exchanges.
    syncs_at c.args.self.now _ c.self.inside.boards c.exchange.new.self c.args.giver c.args.taker c.in-Some.from
    c.in-Some-place_of.to (merged_answer merged) c.self.view_is c.in-Some.ensures.some.0
    c.in-Some-place_of.ensures.some.0 c.self.invariant exchanges) c.exchange.ensures.ok
