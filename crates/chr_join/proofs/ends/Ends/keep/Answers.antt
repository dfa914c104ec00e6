use Rattle.std.proofs.Common.{Some}
use Rattle.std.specs.Prelude.{IfSome}
use Rattle.std.proofs.lemmas.List.Elements.{All-set}
use Rattle.chr_join.specs.working.Ends.{EndsIn}
use Rattle.chr_join.proofs.ends.Ends.keep.Goals as goal

pub returns-then-place-len : goal.returns-then-place-len
returns-then-place-len c rules known ends =
    All-set (λ e. IfSome e (λ k. EndsIn rules k.store k.end)) c.loop.self.entries.items c.args.place
    (Some c.args.known) ends (c.loop.invariant rules known)
