use Rattle.std.proofs.Common.{rules, ◌≡◌, ◌∙◌, ap}
use Rattle.chr_base.specs.FinBag as bag
use Rattle.chr_base.specs.FinBag.{◌⊕◌}
use Rattle.chr_base.specs.Stores.{store_of}
use Rattle.chr_base.proofs.Stores.{plus_comm, plus_empty, store_of-items}
use Rattle.chr_join.specs.AcceptedPrograms.{program_in, weighed_of}
use Rattle.chr_weights.specs.WeighedPrograms.{program_of}
use Rattle.chr_report.proofs.Gathers.{nothing_reached, nothing_told}
use Rattle.chr_report.proofs.gathering.Gathering.open.Goals as goal

pub returns-clause-gathered : goal.returns-clause-gathered
returns-clause-gathered c = λ text.
    let p = program_in c.args.accepted.now in
    let part = c.args.carried.part in
    let weighed : c.insert.new.self.weighed ≡ weighed_of c.args.accepted.now = search rules in
    let inserted : c.insert.new.self.store ≡ bag.empty ⊕ store_of c.atoms.result.now = search rules in
    let atoms : c.atoms.result.now ≡ bag.items part = search rules in
    record {
      lines = nothing_told p text 0 c.args.left c.new.result.items c.new.ensures.items;
      own = ap program_of weighed;
      reached = nothing_reached p part c.new.result.items c.insert.new.self.store c.new.ensures.items
          (inserted ∙ ap (λ s. bag.empty ⊕ s) (ap store_of atoms ∙ store_of-items part)
          ∙ plus_comm bag.empty part ∙ plus_empty part);
    }
