use Rattle.std.proofs.Common.{◌≡◌, ℕ, List, [], ◌∷◌, subst}
use Rattle.chr_node.specs.Nodes.{IsNode}
use Rattle.chr_node.proofs.recovery.crash_and_open.Goals as goal

pub returns-clause-found : goal.returns-clause-found
returns-clause-found g c = λ clean.
    let left = g.D.Disk.seen c.crash.new.self in
    let same : left ≡ g.D.Disk.seen c.args.node.now.feed.disk =
    c.requires.at_rest.durable left c.crash.ensures.left in
    subst (λ (f : List ℕ). IsNode g.D.Disk.seen g.H.Holder.operations g.H.Holder.program (f ∷ []) c.take_in.new.self)
    same (c.in_ok-take_in.ensures.node clean [] c.in_ok-next.ensures.node)
