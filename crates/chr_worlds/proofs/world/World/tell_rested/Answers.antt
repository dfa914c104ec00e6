use Rattle.std.proofs.Common.{sym, subst}
use Rattle.std.proofs.lemmas.Result.{IfOk-weaker}
use Rattle.chr_replica.specs.RestedOps.{AreRestedBy}
use Rattle.chr_worlds.specs.Sharing.{shared_program}
use Rattle.chr_worlds.proofs.Places.{none_there, of_each, refused_at, stays_so, tells_at}
use Rattle.chr_worlds.proofs.world.World.tell_rested.Goals as goal

pub tell_rested-requires-clause-rested : goal.tell_rested-requires-clause-rested
tell_rested-requires-clause-rested c =
    of_each _ c.self.inside.boards c.args.told.now c.self.invariant
    (subst (λ w. AreRestedBy (shared_program w) c.args.told.now) (sym c.self.view_is) c.requires)

pub returns-clause-told : goal.returns-clause-told
returns-clause-told c =
    IfOk-weaker c.tell_rested.result _ _ (λ found may. tells_at c.args.self.now _ c.self.inside.boards
    c.tell_rested.new.self c.args.replica c.in-Some.place c.args.told.now found c.self.view_is
    c.in-Some.ensures.some.0 c.self.invariant may) c.tell_rested.ensures.ok

pub returns-clause-same : goal.returns-clause-same
returns-clause-same c =
    IfOk-weaker c.tell_rested.result _ _ (λ found may. stays_so c.args.self.now _ c.self.inside.boards
    c.tell_rested.new.self c.in-Some.place c.args.told.now found c.self.view_is may) c.tell_rested.ensures.ok

pub returns-clause-none : goal.returns-clause-none
returns-clause-none c =
    IfOk-weaker c.tell_rested.result _ _ (λ found refuses. refused_at c.args.self.now _ c.self.inside.boards
    c.args.replica c.in-Some.place c.args.told.now c.args.into found c.self.view_is c.in-Some.ensures.some.0
    refuses) c.tell_rested.ensures.none

pub returns-in_default-clause-none : goal.returns-in_default-clause-none
returns-in_default-clause-none c = λ s there. absurd
    (none_there c.args.self.now _ c.self.inside.boards c.args.replica s c.self.view_is c.in_default.ensures.none there)
