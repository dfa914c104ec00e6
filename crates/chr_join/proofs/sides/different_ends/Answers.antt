use Rattle.std.proofs.Common.{refl, sym, ◌∙◌}
use Rattle.std.proofs.lemmas.Bool.{OnTrue_at}
use mathlib.Core.Bool.{true≢false}
use Rattle.chr_weights.proofs.Ranks.{lowers_rank, rank_in}
use Rattle.chr_weights.specs.WeighedPrograms.{program_of, rules_in}
use Rattle.chr_join.proofs.SideSteps.{joined, joined_early, side_ends}
use Rattle.chr_join.proofs.sides.different_ends.Goals as goal

pub returns-then-is_same-clause-joinable : goal.returns-then-is_same-clause-joinable
returns-then-is_same-clause-joinable c =
    joined_early (rules_in c.args.weighed.now) (rank_in (program_of c.args.weighed.now))
    (lowers_rank (program_of c.args.weighed.now) c.args.weighed.now.lowers) c.args.case.now c.in_ok-left.left
    c.in_ok-right.right (c.is_same.ensures.0 c.if-is_same.true) c.in_ok-left.ensures c.in_ok-right.ensures

pub returns-then-have_one_end-clause-joinable : goal.returns-then-have_one_end-clause-joinable
returns-then-have_one_end-clause-joinable c =
    let rules = rules_in c.args.weighed.now in
    let case = c.args.case.now in
    let end = OnTrue_at c.if-have_one_end.true (c.have_one_end.ensures rules c.requires.known) in
    joined rules case end.0 end.0 refl
    (side_ends rules case.store c.in_ok-left.left end.0 case.left c.in_ok-left.ensures end.1)
    (side_ends rules case.store c.in_ok-right.right end.0 case.right c.in_ok-right.ensures end.2)

pub returns-then-is_same-2-clause-joinable : goal.returns-then-is_same-2-clause-joinable
returns-then-is_same-2-clause-joinable c =
    let rules = rules_in c.args.weighed.now in
    let case = c.args.case.now in
    joined rules case c.in_ok-left_end.left_end c.in_ok-right_end.right_end (c.is_same-2.ensures.0 c.if-is_same-2.true)
    (side_ends rules case.store c.in_ok-left.left c.in_ok-left_end.left_end case.left c.in_ok-left.ensures
    c.in_ok-left_end.ensures.end)
    (side_ends rules case.store c.in_ok-right.right c.in_ok-right_end.right_end case.right c.in_ok-right.ensures
    c.in_ok-right_end.ensures.end)

pub returns-else-is_same-2-clause-differ : goal.returns-else-is_same-2-clause-differ
returns-else-is_same-2-clause-differ c =
    let rules = rules_in c.args.weighed.now in
    let case = c.args.case.now in
    record {
      left = side_ends rules case.store c.in_ok-left.left c.in_ok-left_end.left_end case.left c.in_ok-left.ensures
          c.in_ok-left_end.ensures.end;
      right = side_ends rules case.store c.in_ok-right.right c.in_ok-right_end.right_end case.right
          c.in_ok-right.ensures c.in_ok-right_end.ensures.end;
      differ = λ e. true≢false (sym (c.is_same-2.ensures.1 e) ∙ c.if-is_same-2.false);
    }
