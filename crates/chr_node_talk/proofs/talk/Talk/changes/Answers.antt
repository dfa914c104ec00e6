use Rattle.std.proofs.Common.{refl, ap, ◌∙◌}
use Rattle.chr_base.specs.FinBag.{◌⊖◌}
use Rattle.chr_base.specs.Stores.{Store}
use Rattle.chr_node_talk.proofs.Keeping.{stays_shown}
use Rattle.chr_node_talk.proofs.talk.Talk.changes.Goals as goal

pub returns-clause-answers : goal.returns-clause-answers
returns-clause-answers g c =
    let store = c.in_ok-store.store in
    let same = c.store.ensures.same in (
      store,
      c.in_ok-store.ensures.store,
      c.in_ok-changes.ensures.came ∙ ap (λ (s : Store). store ⊖ s) same.shown,
      c.in_ok-changes.ensures.went ∙ ap (λ (s : Store). s ⊖ store) same.shown,
      record { operations = same.operations; last = same.last; shown = refl },
    )

pub returns-clause-stays : goal.returns-clause-stays
returns-clause-stays g c =
    stays_shown g.D.Disk.seen g.H.Holder.operations g.H.Holder.program g.F.Folder.is_clean c.args.self.now
    c.store.new.self c.in_ok-store.store c.store.ensures.stays
