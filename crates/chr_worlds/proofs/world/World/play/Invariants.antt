use Rattle.std.proofs.Common.{◌≡◌, take}
use Rattle.chr_worlds.specs.Worlds.{Runs}
use Rattle.chr_worlds.specs.Sharing.{shared_program}
use Rattle.chr_worlds.proofs.world.World.play.Given as goal

abbrev pub invariant-loop-done : goal.invariant-loop-done
invariant-loop-done l =
    (l.self.accepted ≡ l.fn.self.accepted)
    × Runs (shared_program l.fn.self) l.fn.self.replicas (take l.done l.events) l.answers.items l.self.replicas
