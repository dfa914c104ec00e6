use Rattle.std.proofs.Common.{rules, ◌<◌, length, sym, subst}
use Rattle.chr_report.specs.working.Gathered.{IsGathered}
use Rattle.chr_answers.specs.Gathered.{ReachTogether}
use Rattle.chr_report.proofs.Gathers.{some_shorter, tells_declared}
use Rattle.chr_report.proofs.gathering.Gathering.rested.Goals as goal

pub returns : goal.returns
returns c = λ p text is.
    let g = c.rest.new.self in
    let at_rest : IsGathered p text g = c.in_ok-rest.ensures.gathered p text is in
    let some : 0 < length g.ops.items = search rules in
    record {
      some = some_shorter p text g.replica g.left g.ops.items g.more at_rest.lines some;
      lines = at_rest.lines;
      rested = record {
        declared = tells_declared p text g.replica g.left g.ops.items g.more at_rest.lines;
        reached = subst (ReachTogether p g.carried.part g.ops.items) (sym c.in_ok-rested.ensures) at_rest.reached;
      };
    }
