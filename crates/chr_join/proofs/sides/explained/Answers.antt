use Rattle.chr_weights.specs.WeighedPrograms.{rules_in}
use Rattle.chr_join.proofs.SideSteps.{side_to}
use Rattle.chr_join.proofs.sides.explained.Goals as goal

pub side-requires : goal.side-requires
side-requires c = c.requires.left.1.1.0

pub side-requires-2 : goal.side-requires-2
side-requires-2 c = c.requires.right.1.1.0

pub returns-clause-explains : goal.returns-clause-explains
returns-clause-explains c = record {
  left = side_to (rules_in c.args.weighed.now) c.args.case.now.store c.args.case.now.left c.in_ok-left.left
      c.args.ends.0 c.requires.left c.in_ok-left.ensures;
  right = side_to (rules_in c.args.weighed.now) c.args.case.now.store c.args.case.now.right c.in_ok-right.right
      c.args.ends.1 c.requires.right c.in_ok-right.ensures;
  differ = c.requires.differ;
}
