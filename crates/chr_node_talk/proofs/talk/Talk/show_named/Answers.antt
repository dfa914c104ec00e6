use Rattle.std.proofs.Common.{◌≡◌, ap, ◌∙◌}
use Rattle.chr_base.specs.declared.program.Program.{Program}
use Rattle.chr_base.specs.Programs.{declarations}
use Rattle.chr_queries.specs.Named.{named_in}
use Rattle.chr_node_talk.proofs.talk.Talk.show_named.Goals as goal

pub returns-clause-answers : goal.returns-clause-answers
returns-clause-answers g c =
    let store = c.in_ok-store.store in
    let same : c.program.result.now ≡ g.H.Holder.program c.args.self.now.node.holder =
    c.program.ensures ∙ c.store.ensures.stays.keeps.same_program in (
      store,
      c.in_ok-store.ensures.store,
      c.in_ok-found.ensures ∙ ap (λ (p : Program). named_in (declarations p) c.args.name.now store) same,
      c.store.ensures.same,
    )
