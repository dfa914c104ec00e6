use Rattle.std.proofs.Common.{rules, refl, sym, ap, ◌∙◌, subst, append_assoc, append-nil, ◌≡◌, [], ◌∷◌, ◌++◌}
use Rattle.std.specs.FinMap as map
use Rattle.std.specs.List.{AllByRecursion}
use Rattle.chr_ops.specs.Operations.{Operation, IsOperationBag}
use Rattle.chr_ops.specs.Summaries.{in_range}
use Rattle.chr_ops.specs.working.Walks.{within}
use Rattle.chr_ops.proofs.EntryLists.{each_entry}
use Rattle.chr_ops.proofs.CoveredLists.{kept_all}
use Rattle.chr_ops.proofs.lacking.push_within.Goals as goal

pub loop-id-init : goal.loop-id-init
loop-id-init c =
    let all : c.into_iter-id-iterator.result ≡ within c.args.range.now (map.entries c.args.held.now) = search rules in
    rw all (record {
      found = refl;
      sized = kept_all (λ o. IsOperationBag o.1) (λ o. in_range c.args.range.now o.0) (map.entries c.args.held.now)
          (each_entry IsOperationBag c.args.held.now c.requires.sized);
    })

split : (c : goal.In_ok-push) → c.loop-id.id-iterator ≡ (c.in-Some.id, c.in-Some.bag.now) ∷ c.next.new.self
split c = search rules

pub loop-id-preserved : goal.loop-id-preserved
loop-id-preserved c =
    let o : Operation = (c.in-Some.id, c.in-Some.bag.now) in
    let ops = c.loop-id.ops.items in
    let all = c.args.ops.now.items ++ within c.args.range.now (map.entries c.args.held.now) in
    let found = subst (λ os. ops ++ os ≡ all) (split c) c.loop-id.invariant.found in
    let sized = subst (AllByRecursion (λ x. IsOperationBag x.1)) (split c) c.loop-id.invariant.sized in
    let pushed : c.push.new.self.items ≡ ops ++ o ∷ [] = search rules in
    rw pushed (record {
      found = append_assoc ops (o ∷ []) c.next.new.self ∙ found;
      sized = sized.1;
    })

pub returns : goal.returns
returns c =
    sym (append-nil c.loop-id.ops.items) ∙ ap (λ os. c.loop-id.ops.items ++ os) (sym c.in-None.ensures.steps.0)
    ∙ c.loop-id.invariant.found
