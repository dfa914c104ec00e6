use Rattle.std.proofs.Common.{◌≡◌, None, rules, refl, sym}
use Rattle.chr_replica.specs.Replicas.{TellsRested}
use Rattle.chr_replica.specs.RestedOps.{lease_number}
use Rattle.chr_worlds.specs.Sharing.{shared_program}
use Rattle.chr_worlds.specs.Worlds.{Changes}
use Rattle.chr_answers.proofs.Rested.{rested_by}
use Rattle.chr_answers.proofs.ToldAhead.{told_at}
use Rattle.chr_answers.proofs.resting.tell_alone.Goals as goal

pub tell_rested-requires : goal.tell_rested-requires
tell_rested-requires c =
    let t = c.args.tells.now in
    let ops : c.deref.result.now ≡ t.ops.items = search rules in
    rested_by (shared_program c.args.world.now) t _ ops (sym c.requires.none) refl c.requires.rested

pub returns-clause-told : goal.returns-clause-told
returns-clause-told c =
    let p = shared_program c.args.world.now in
    let t = c.args.tells.now in
    let w = c.args.world.now.replicas in
    let v = c.tell_rested.new.self.replicas in
    let ops : c.deref.result.now ≡ t.ops.items = search rules in
    let lease = lease_number c.in-Some.placed in
    let told : Changes w t.replica (λ s u. TellsRested p s None c.deref.result.now t.rested lease u) v =
    search rules in
    told_at p w t.replica t.ops.items v None c.deref.result.now t.rested lease ops c.requires.between told
