use Rattle.std.specs.Prelude.{◌≡◌, ◌≢◌, List, [], ◌∷◌, All}
use Rattle.std.proofs.Common.{◌∙◌, ap, refl, subst, sym}
use Rattle.chr_base.specs.Programs.{declarations}
use Rattle.chr_ops.specs.Operations.{Operation}
use Rattle.chr_records.specs.Records.{records_of, texts_in}
use Rattle.chr_node_laws.specs.Folders.{told_by}
use Rattle.chr_node_records.specs.Texts.{operations_in}
use Rattle.chr_node.proofs.Keeping.{taken, owned_taken, union_grows}
use Rattle.chr_node.proofs.node.Node.take_in.Goals as goal

pub returns-clause-node : goal.returns-clause-node
returns-clause-node g c = λ clean others node.
    let n = c.args.self.now in
    let ds = declarations (g.H.Holder.program n.holder) in
    let file = g.E.Disk.seen c.args.file.now in
    let os = c.deref-3.result.now in
    let are : os ≡ told_by (operations_in ds) (records_of file) =
    c.deref-3.ensures.value ∙ c.in_ok-found.ensures
    ∙ ap (λ p. told_by (operations_in (declarations p)) (texts_in c.deref.result.now)) c.program.ensures
    ∙ ap (λ vs. told_by (operations_in ds) (texts_in vs)) c.deref.ensures.value
    ∙ ap (told_by (operations_in ds)) (c.in_ok-records.ensures.texts clean) in
    let same : c.deref-2.result.now ≡ os = c.deref-2.ensures.value ∙ sym c.deref-3.ensures.value in
    let foreign : All (λ (o : Operation). o.0.origin ≢ n.origin) os =
    subst (λ (l : List Operation). All (λ (o : Operation). o.0.origin ≢ n.origin) l) same c.if-has_origin.ensures in
    taken (g.H.Holder.operations n.holder) (g.H.Holder.operations c.merge.new.self) ds
    (declarations (g.H.Holder.program c.merge.new.self)) (g.D.Disk.seen n.feed.disk) n.waiting.items file others
    n.origin n.last os (ap declarations c.merge.ensures.program) c.in_ok-new.ensures.no_clash
    c.in_ok-new.ensures.union are foreign node

pub returns-clause-keeps : goal.returns-clause-keeps
returns-clause-keeps g c =
    let n = c.args.self.now in
    let os = c.deref-3.result.now in
    let same : c.deref-2.result.now ≡ os = c.deref-2.ensures.value ∙ sym c.deref-3.ensures.value in
    let foreign : All (λ (o : Operation). o.0.origin ≢ n.origin) os =
    subst (λ (l : List Operation). All (λ (o : Operation). o.0.origin ≢ n.origin) l) same c.if-has_origin.ensures in
    record {
      grows =
          union_grows (g.H.Holder.operations n.holder) (g.H.Holder.operations c.merge.new.self) os
          c.in_ok-new.ensures.union;
      files = λ clean others node.
          (g.E.Disk.seen c.args.file.now ∷ [], returns-clause-node g c clean others node);
      owner = λ owns.
          owned_taken (g.H.Holder.operations n.holder) (g.H.Holder.operations c.merge.new.self)
          (declarations (g.H.Holder.program n.holder)) (declarations (g.H.Holder.program c.merge.new.self))
          (g.D.Disk.seen n.feed.disk) n.waiting.items n.origin os (ap declarations c.merge.ensures.program)
          c.in_ok-new.ensures.union foreign owns;
      same_program = c.merge.ensures.program;
      same_origin = refl;
    }
