use Rattle.std.proofs.Common.{refl, ap}
use Rattle.chr_base.specs.Programs.{declarations}
use Rattle.chr_join.specs.AcceptedPrograms.{program_in}
use Rattle.chr_replica.specs.Boards.{program_on}
use Rattle.chr_node.proofs.Keeping.{same_held}
use Rattle.chr_node_boards.specs.Shown.{operations_on}
use Rattle.chr_node_boards.proofs.showing.show.Goals as goal

pub returns-clause-shows : goal.returns-clause-shows
returns-clause-shows g c = λ others node. record {
  operations = operations_on c.args.node.now.holder;
  held = node.held;
  values = c.show.ensures.values;
  normal = c.in_ok-store.ensures.only.normal;
}

pub returns-clause-node : goal.returns-clause-node
returns-clause-node g c = λ others node.
    let old = c.args.node.now in
    let new = c.show.new.self in
    same_held (operations_on old.holder) (operations_on new) (declarations (program_on old.holder))
    (declarations (program_on new)) (g.D.Disk.seen old.feed.disk) old.waiting.items old.waiting.items others old.origin
    old.last c.show.ensures.operations (ap (λ a. declarations (program_in a)) c.show.ensures.accepted) refl node

pub returns-in_err-store-clause-node : goal.returns-in_err-store-clause-node
returns-in_err-store-clause-node g c = λ others node.
    let old = c.args.node.now in
    let new = c.show.new.self in
    same_held (operations_on old.holder) (operations_on new) (declarations (program_on old.holder))
    (declarations (program_on new)) (g.D.Disk.seen old.feed.disk) old.waiting.items old.waiting.items others old.origin
    old.last c.show.ensures.operations (ap (λ a. declarations (program_in a)) c.show.ensures.accepted) refl node
