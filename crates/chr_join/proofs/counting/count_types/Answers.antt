use Rattle.std.proofs.Common.{refl, subst}
use Rattle.chr_types.specs.Representatives.{AreTypes}
use Rattle.chr_join.proofs.Counted.{count_is}
use Rattle.chr_join.proofs.Visits.{classes_fit}
use Rattle.chr_join.proofs.counting.count_types.Goals as goal

pub visit_types-requires-clause-few : goal.visit_types-requires-clause-few
visit_types-requires-clause-few c = classes_fit c.free_classes-classes.result _ c.args.constants.now
    c.free_classes-classes.ensures c.requires.few

pub returns : goal.returns
returns c =
    let v = c.in_ok-visit_types.ensures.visited in
    let types = subst (λ n. AreTypes n c.args.constants.now v.0) c.free_classes-classes.ensures v.1 in
    count_is c.args.unified.now c.args.constants.now v.0 types c.requires.few _ c.visit_types.new.visitor _ refl refl
    v.2
