use Rattle.std.proofs.Common.{◌≡◌, rules, refl, subst}
use Rattle.std.specs.Prelude.{IfSome}
use Rattle.std.proofs.lemmas.Option.{IfSome_then}
use Rattle.chr_worlds.specs.Sharing.{shared_program}
use Rattle.chr_answers.specs.working.Resting.{TellsAt}
use Rattle.chr_answers.proofs.Rested.{rested_by}
use Rattle.chr_answers.proofs.ToldAhead.{told_at}
use Rattle.chr_answers.proofs.resting.tell_carried.Goals as goal

pub tell_rested-requires : goal.tell_rested-requires
tell_rested-requires c =
    let t = c.args.tells.now in
    let ops : c.deref.result.now ≡ t.ops.items = search rules in
    rested_by (shared_program c.args.world.now) t _ ops refl refl c.requires.rested

pub returns-clause-told : goal.returns-clause-told
returns-clause-told c =
    let p = shared_program c.args.world.now in
    let t = c.args.tells.now in
    let w = c.args.world.now.replicas in
    let v = c.tell_rested.new.self.replicas in
    let ops : c.deref.result.now ≡ t.ops.items = search rules in
    let told : IfSome c.in_ok-found.found (λ _. TellsAt p w t.replica t.ops.items v) =
    IfSome_then c.in_ok-found.found c.in_ok-found.ensures.told (λ placed told.
    told_at p w t.replica t.ops.items v _ _ _ _ ops c.requires.between told) in
    subst (λ o. IfSome o (λ _. TellsAt p w t.replica t.ops.items v)) c.in-Some.is told
