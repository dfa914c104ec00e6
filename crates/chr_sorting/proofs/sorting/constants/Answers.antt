use Rattle.std.proofs.Common.{arith, ap, subst, sym, length, get_or, map, [], ◌∙◌, List, ℤ}
use Rattle.std.proofs.lemmas.List.{length_push, map_push, length-map}
use Rattle.chr_overlaps.specs.working.Gathering.{AreConstantsIn}
use Rattle.chr_sorting.specs.FinestSorts.{sort_in}
use Rattle.chr_sorting.specs.working.Notes.{terms_at}
use Rattle.chr_sorting.proofs.Joining.{each_pushed}
use Rattle.chr_sorting.proofs.sorting.constants.Goals as goal

pub loop-sort-preserved : goal.loop-sort-preserved
loop-sort-preserved c =
    let now = c.in_ok-push.ensures.items in
    let before = c.loop-sort.found.items in
    let one = c.in_ok-constants_of.field-0 in
    let lists = ap (map (λ cs. cs.items)) now ∙ map_push (λ cs. cs.items) before one in
    record {
      len = (let e = ap length now in let m = length_push before one in let k = c.loop-sort.invariant.len in
          omega (arith, e, m, k));
      each = λ n l. subst (λ (all : List (List ℤ)). AreConstantsIn
          (terms_at (sort_in c.args.sorts.now) n c.args.notes.now) (get_or all n [])) (sym lists)
          (each_pushed (λ m cs. AreConstantsIn (terms_at (sort_in c.args.sorts.now) m c.args.notes.now) cs)
          (map (λ cs. cs.items) before) one.items []
          c.loop-sort.sort (length-map before (λ cs. cs.items) ∙ c.loop-sort.invariant.len)
          c.loop-sort.invariant.each c.in_ok-constants_of.ensures n l);
    }
