use Rattle.std.proofs.Common.{◌≡◌, ◌∙◌, ◌++◌, ℕ, List, [], ap, refl}
use Rattle.chr_base.specs.Programs.{declarations}
use Rattle.chr_records.specs.Records.{records_of}
use Rattle.chr_node.proofs.Keeping.{written, own_kept, owned_written, same_grows}
use Rattle.chr_node.proofs.node.Node.commit.Goals as goal

pub returns-clause-node : goal.returns-clause-node
returns-clause-node g c = λ others node.
    let n = c.args.self.now in
    let seen = g.D.Disk.seen n.feed.disk in
    let more : records_of (g.D.Disk.seen c.append.new.self.disk) ≡ records_of seen ++ records_of n.waiting.items =
    c.in_ok-append.ensures.there
    ∙ ap (λ (b : List ℕ). records_of seen ++ records_of b) c.deref.ensures.value in
    written (g.H.Holder.operations n.holder) (declarations (g.H.Holder.program n.holder)) seen n.waiting.items
    (g.D.Disk.seen c.append.new.self.disk) c.clear.new.self.items others n.origin n.last c.clear.ensures.items more node

pub returns-clause-keeps : goal.returns-clause-keeps
returns-clause-keeps g c =
    let n = c.args.self.now in
    let seen = g.D.Disk.seen n.feed.disk in
    let now = g.D.Disk.seen c.append.new.self.disk in
    let m = g.H.Holder.operations n.holder in
    let more : records_of now ≡ records_of seen ++ records_of n.waiting.items =
    c.in_ok-append.ensures.there
    ∙ ap (λ (b : List ℕ). records_of seen ++ records_of b) c.deref.ensures.value in
    record {
      grows = same_grows m m refl;
      files = λ _ others node. ([], returns-clause-node g c others node);
      owner = λ owns.
          owned_written m (declarations (g.H.Holder.program n.holder)) seen n.waiting.items now
          c.clear.new.self.items n.origin c.clear.ensures.items more owns;
      same_program = refl;
      same_origin = refl;
    }

pub returns-clause-kept : goal.returns-clause-kept
returns-clause-kept g c = λ owns.
    let n = c.args.self.now in
    own_kept (g.H.Holder.operations n.holder) (declarations (g.H.Holder.program n.holder))
    (g.D.Disk.seen c.append.new.self.disk) c.clear.new.self.items n.origin
    (g.D.Disk.may_leave c.append.new.self.disk) c.clear.ensures.items c.in_ok-append.ensures.at_rest.durable
    ((returns-clause-keeps g c).owner owns)
