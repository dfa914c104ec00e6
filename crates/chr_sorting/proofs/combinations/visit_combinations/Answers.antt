use Rattle.std.proofs.Common.{[], length, subst}
use Rattle.chr_sorting.specs.FinestSorts.{sorts_of}
use Rattle.chr_sorting.specs.working.Weaving.{held, woven}
use Rattle.chr_types.specs.Representatives.{AreTypes}
use Rattle.chr_types.specs.Visits.{Visited}
use Rattle.chr_types.proofs.Counted.{all_pass}
use Rattle.chr_types.proofs.Walking.{ok_then}
use Rattle.chr_sorting.proofs.OneSort.{types_combined}
use Rattle.chr_sorting.proofs.Woven.{woven_are}
use Rattle.chr_sorting.proofs.MoreCombinations.{more_there}
use Rattle.chr_sorting.proofs.combinations.visit_combinations.Goals as goal

pub unreachable-requires : goal.unreachable-requires
unreachable-requires g c =
    c.requires.few (more_there (sorts_of c.args.sorting.now) c.args.classes.now c.requires.rise c.leave_room.ensures
    c.args.limit (rw c.in_default-2.is at c.in_ok-lists.ensures.more))

pub returns-clause-visited : goal.returns-clause-visited
returns-clause-visited g c =
    let ks = c.args.classes.now in
    let lists = held c.in-Some-2.lists.items in
    let are = woven_are (sorts_of c.args.sorting.now) ks lists (rw c.in-Some-2.is at c.in_ok-lists.ensures.lists) in
    ok_then c.weave.result _ _ (λ stopped visited. (woven ks lists [], are, visited)) c.weave.ensures.visited

pub returns-in-Some-clause-visited : goal.returns-in-Some-clause-visited
returns-in-Some-clause-visited g c =
    let s = sorts_of c.args.sorting.now in
    let ks = c.args.classes.now in
    ok_then c.visit_types.result _ _ (λ stopped v. (
      v.0,
      types_combined s ks c.in-Some.sort c.in-Some.ensures v.0
          (subst (λ cs. AreTypes (length ks) cs v.0) c.constants-constants.ensures v.1),
      subst (λ rs. Visited g.V.Visit.step c.args.visitor.now rs stopped c.visit_types.new.visitor) (all_pass v.0) v.2,
    )) c.visit_types.ensures.visited
